-- `after_item` is right because it looks at the first token after the run.
use mathlib.Core.Path.{sym, ◌∙◌}
use native.Mathlib.Omega.{arith}
use Rattle.text_classes.proofs.FirstLaws.{stands_there}
use Rattle.built_values.specs.Answers.{kinds_of}
use Rattle.built_values.proofs.KindLaws.{length_kinds}
use Rattle.built_values.proofs.PlaceLaws.{marked, not_marked}
use Rattle.built_values.proofs.check.after_item.Goals as goal

pub overflow_add-result : goal.overflow_add-result
overflow_add-result c =
    let is = c.args in
    let skip = c.skip-a in
    let is_at = c.is_at in
    let if1 = c.if-is_at in
    let there = stands_there is.close (kinds_of is.records.now) skip.result (sym is_at.ensures ∙ if1.true) in
    omega (arith, there.0, length_kinds is.records.now)

pub returns-then-is_at : goal.returns-then-is_at
returns-then-is_at c =
    let is = c.args in
    let skip = c.skip-a in
    let is_at = c.is_at in
    let if1 = c.if-is_at in
    marked is.run is.close (kinds_of is.records.now) is.at skip.result skip.ensures.left
    (sym is_at.ensures ∙ if1.true) skip.ensures.place.0

pub overflow_add-result-then-is_at-2 : goal.overflow_add-result-then-is_at-2
overflow_add-result-then-is_at-2 c =
    let is = c.args in
    let skip = c.skip-a in
    let is-at2 = c.is_at-2 in
    let if2 = c.if-is_at-2 in
    let there = stands_there 44 (kinds_of is.records.now) skip.result (sym is-at2.ensures ∙ if2.true) in
    omega (arith, there.0, length_kinds is.records.now)

pub returns-then-is_at-2 : goal.returns-then-is_at-2
returns-then-is_at-2 c =
    let is = c.args in
    let skip = c.skip-a in
    let is-at2 = c.is_at-2 in
    let if2 = c.if-is_at-2 in
    marked is.run 44 (kinds_of is.records.now) is.at skip.result skip.ensures.left
    (sym is-at2.ensures ∙ if2.true) skip.ensures.place.0

pub returns : goal.returns
returns c =
    let is = c.args in
    let skip = c.skip-a in
    let is_at = c.is_at in
    let if1 = c.if-is_at in
    let is-at2 = c.is_at-2 in
    let if2 = c.if-is_at-2 in
    let ks = kinds_of is.records.now in
    let skipped = skip.ensures.left in (
      not_marked is.run is.close ks is.at skip.result skipped (sym is_at.ensures ∙ if1.false),
      not_marked is.run 44 ks is.at skip.result skipped (sym is-at2.ensures ∙ if2.false),
    )
