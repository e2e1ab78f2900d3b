-- `serve` is right because its tests are the rule's, in the rule's order.
use borrow.Author.Tests.{lt-ltb, le-ltb, le-leb, lt-leb}
use Rattle.built_review.specs.Review.{mark_answer}
use Rattle.built_review.proofs.serve.Goals as goal

pub returns-then-reviewer-gt1 : goal.returns-then-reviewer-gt1
unfolding mark_answer
returns-then-reviewer-gt1 c = simp (lt-ltb _ _ c.if-reviewer-gt1.true)

pub returns-then-records-token : goal.returns-then-records-token
unfolding mark_answer
returns-then-records-token c = simp (le-ltb _ _ c.if-reviewer-gt1.false, le-leb _ _ c.if-records-token.true)

pub returns-then-entries-records : goal.returns-then-entries-records
unfolding mark_answer
returns-then-entries-records c =
    simp (le-ltb _ _ c.if-reviewer-gt1.false, lt-leb _ _ c.if-records-token.false, lt-ltb _ _ c.if-entries-records.true)

pub returns : goal.returns
unfolding mark_answer
returns c =
    simp (le-ltb _ _ c.if-reviewer-gt1.false, lt-leb _ _ c.if-records-token.false, le-ltb _ _ c.if-entries-records.false)
