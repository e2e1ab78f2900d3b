-- `judge` is right because a run is a value where the value at its front ends with it.
use lib.ListN.{length}
use mathlib.Core.Path.{sym, ◌∙◌}
use Rattle.built_values.specs.Answers.{kinds_of, Judged}
use Rattle.built_values.proofs.KindLaws.{length_kinds}
use Rattle.built_values.proofs.CountLaws.{inside_start}
use Rattle.built_values.proofs.DepthLaws.{deep_is, not_deep}
use Rattle.built_values.proofs.ValueLaws.{judged_whole, no_value_found}
use Rattle.built_values.proofs.judge.Goals as goal

pub returns-then-is_deep : goal.returns-then-is_deep
returns-then-is_deep c =
    let is = c.args in
    let is_deep = c.is_deep in
    let if1 = c.if-is_deep in
    Judged.too_deep (deep_is (kinds_of is.run.now) (sym is_deep.ensures ∙ if1.true))

pub value-requires : goal.value-requires
value-requires c =
    let is = c.args in
    let is_deep = c.is_deep in
    let if1 = c.if-is_deep in
    let ks = kinds_of is.run.now in
    inside_start ks (not_deep ks (sym is_deep.ensures ∙ if1.false))

pub returns-in_default : goal.returns-in_default
returns-in_default c =
    let is = c.args in
    let is_deep = c.is_deep in
    let if1 = c.if-is_deep in
    let ks = kinds_of is.run.now in
    Judged.no_value (not_deep ks (sym is_deep.ensures ∙ if1.false)) (no_value_found is.v ks c.in_default.ensures)

pub returns : goal.returns
returns c =
    let is = c.args in
    let ks = kinds_of is.run.now in
    let end = c.in-Some.end in
    let calm = not_deep ks (sym c.is_deep.ensures ∙ c.if-is_deep.false) in
    judged_whole is.v ks end (length is.run.now) calm c.in-Some.ensures (sym (length_kinds is.run.now))
