-- `spaced` is right because the blanks on both sides of the mark are passed over whole.
use mathlib.Core.Path.{sym, ◌∙◌}
use native.Mathlib.Omega.{arith}
use Rattle.text_classes.proofs.FirstLaws.{stands_there}
use Rattle.built_values.specs.Answers.{kinds_of}
use Rattle.built_values.proofs.KindLaws.{length_kinds}
use Rattle.built_values.proofs.PlaceLaws.{spaced_found, spaced_none}
use Rattle.built_values.proofs.check.spaced.Goals as goal

pub skip-a-requires : goal.skip-a-requires
skip-a-requires c = c.requires.0

pub overflow_add-a : goal.overflow_add-a
overflow_add-a c =
    let is = c.args in
    let skip = c.skip-a in
    let is_at = c.is_at in
    let if1 = c.if-is_at in
    let there = stands_there is.mark (kinds_of is.records.now) skip.result (sym is_at.ensures ∙ if1.true) in
    omega (arith, there.0, length_kinds is.records.now)

pub skip-requires : goal.skip-requires
skip-requires c =
    let is = c.args in
    let skip = c.skip-a in
    let is_at = c.is_at in
    let if1 = c.if-is_at in
    let there = stands_there is.mark (kinds_of is.records.now) skip.result (sym is_at.ensures ∙ if1.true) in
    omega (arith, there.0)

pub returns-then-is_at : goal.returns-then-is_at
returns-then-is_at c =
    let is = c.args in
    let pre = c.requires in
    let skip = c.skip-a in
    let is_at = c.is_at in
    let if1 = c.if-is_at in
    let skip2 = c.skip in
    let first = skip.ensures in
    let second = skip2.ensures in
    spaced_found is.mark pre.1 (kinds_of is.records.now) is.at skip.result first.left
    (sym is_at.ensures ∙ if1.true) skip2.result second.left first.place.0 second.place.0 second.place.1

pub returns : goal.returns
returns c =
    let is = c.args in
    let pre = c.requires in
    let skip = c.skip-a in
    let is_at = c.is_at in
    let if1 = c.if-is_at in
    spaced_none is.mark pre.1 (kinds_of is.records.now) is.at skip.result skip.ensures.left
    (sym is_at.ensures ∙ if1.false)
