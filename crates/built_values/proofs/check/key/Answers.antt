-- `key` is right because each turn reads a simple key, and a dot after it is followed by another.
use mathlib.Core.Path.{refl, sym, ap, ◌∙◌}
use native.Mathlib.Omega.{arith}
use Rattle.built_values.specs.Answers.{kinds_of}
use Rattle.built_values.proofs.KindLaws.{length_kinds}
use Rattle.built_values.specs.Checkers.{is_simple_key}
use Rattle.built_values.proofs.PlaceLaws.{key_starts, key_at_end, key_at_none, key_found, key_goes}
use Rattle.built_values.proofs.check.key.Goals as goal

pub loop-p-init : goal.loop-p-init
loop-p-init c =
    let is = c.args in
    let pre = c.requires in
    key_starts (kinds_of is.records.now) is.at (pre)

pub kind_at-requires : goal.kind_at-requires
kind_at-requires c = omega (arith, length_kinds c.args.records.now)

pub overflow_add-p : goal.overflow_add-p
overflow_add-p c = omega (arith, length_kinds c.args.records.now)

pub spaced-requires : goal.spaced-requires
spaced-requires c = (omega (arith, length_kinds c.args.records.now), refl)

pub overflow_add-result : goal.overflow_add-result
overflow_add-result c = omega (arith, length_kinds c.args.records.now)

pub returns-in_default : goal.returns-in_default
returns-in_default c =
    let is = c.args in
    let loop = c.loop-p in
    let kind_at = c.kind_at in
    let is-simple-key = c.is_simple_key in
    let if1 = c.if-not-is_simple_key in
    let ks = kinds_of is.records.now in
    let p = loop.p in
    let test = sym (ap is_simple_key kind_at.ensures) ∙ sym is-simple-key.ensures ∙ if1.false in
    key_found ks is.at p loop.invariant (omega (arith, length_kinds c.args.records.now)) test c.in_default.ensures

pub loop-p-smaller : goal.loop-p-smaller
loop-p-smaller c =
    let is = c.args in
    let loop = c.loop-p in
    let ks = kinds_of is.records.now in
    let p = loop.p in
    let found = c.in-Some.ensures in
    omega (arith, found.after, found.within, length_kinds c.args.records.now)

pub loop-p-preserved : goal.loop-p-preserved
loop-p-preserved c =
    let is = c.args in
    let loop = c.loop-p in
    let kind_at = c.kind_at in
    let is-simple-key = c.is_simple_key in
    let if1 = c.if-not-is_simple_key in
    let ks = kinds_of is.records.now in
    let p = loop.p in
    let test = sym (ap is_simple_key kind_at.ensures) ∙ sym is-simple-key.ensures ∙ if1.false in
    key_goes ks is.at p loop.invariant (omega (arith, length_kinds c.args.records.now)) test _ c.in-Some.ensures

pub returns-then-not-is_simple_key : goal.returns-then-not-is_simple_key
returns-then-not-is_simple_key c =
    let is = c.args in
    let loop = c.loop-p in
    let kind_at = c.kind_at in
    let is-simple-key = c.is_simple_key in
    let if1 = c.if-not-is_simple_key in
    let test = sym (ap is_simple_key kind_at.ensures) ∙ sym is-simple-key.ensures ∙ if1.true in
    key_at_none (kinds_of is.records.now) is.at loop.p loop.invariant (omega (arith, length_kinds c.args.records.now)) test

pub returns : goal.returns
returns c =
    let is = c.args in
    let loop = c.loop-p in
    key_at_end (kinds_of is.records.now) is.at loop.p loop.invariant (omega (arith, length_kinds c.args.records.now))
