-- `ticks` is right because its tests are the rule's, in the rule's order.
use Rattle.std.proofs.Common.{ℕ, length, take, ap, ◌∙◌, arith}
use Rattle.std.specs.Prelude.{count_by}
use borrow.Author.Tests.{lt-ltb, le-ltb}
use Rattle.built_review.specs.Review.{count_answer}
use Rattle.built_review.proofs.CountLaws.{told_by, ticks_counted}
use Rattle.built_review.proofs.NumberLaws.{counted}
use Rattle.built_review.proofs.ticks.Goals as goal

pub returns-then-reviewer-gt1 : goal.returns-then-reviewer-gt1
unfolding count_answer
returns-then-reviewer-gt1 c =
    let is = c.args in
    counted _ is.marks.now is.reviewer _ (simp (lt-ltb _ _ c.if-reviewer-gt1.true))

pub returns-then-marks-records : goal.returns-then-marks-records
unfolding count_answer
returns-then-marks-records c =
    let is = c.args in
    counted _ is.marks.now is.reviewer _ (simp (le-ltb _ _ c.if-reviewer-gt1.false, lt-ltb _ _ c.if-marks-records.true))

pub own_bit-requires : goal.own_bit-requires
own_bit-requires c = c.if-reviewer-gt1.false

pub returns : goal.returns
unfolding count_answer
returns c =
    let is = c.args in
    let n = length is.records.now in
    let few = c.count_of.ensures ∙ ap (λ (own : ℕ). count_by (told_by own) (take n is.marks.now)) c.own_bit.ensures
    ∙ ticks_counted is.reviewer c.if-reviewer-gt1.false n is.marks.now (λ i. omega (arith, c.type_inv.marks i)) in
    counted n is.marks.now is.reviewer _
    (simp (le-ltb _ _ c.if-reviewer-gt1.false, le-ltb _ _ c.if-marks-records.false, few))
