-- `tick` is right because `put_tick` is: the bit is set.
use lib.ListN.{length}
use Rattle.built_review.specs.Review.{ticked_marks}
use Rattle.built_review.proofs.NumberLaws.{marked}
use Rattle.built_review.proofs.tick.Goals as goal

pub returns : goal.returns
unfolding ticked_marks
returns c =
    let is = c.args in
    let records = length is.records.now in
    let marks = is.marks.now in
    let put = c.put_tick.ensures in
    marked records (length marks) is.reviewer is.token _ _ (ticked_marks records marks is.reviewer is.token) put.answer put.memory
