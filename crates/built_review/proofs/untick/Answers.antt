-- `untick` is right because `put_tick` is: the bit is cleared.
use lib.ListN.{length}
use Rattle.built_review.specs.Review.{unticked_marks}
use Rattle.built_review.proofs.NumberLaws.{marked}
use Rattle.built_review.proofs.untick.Goals as goal

pub returns : goal.returns
unfolding unticked_marks
returns c =
    let is = c.args in
    let records = length is.records.now in
    let marks = is.marks.now in
    let put = c.put_tick.ensures in
    marked records (length marks) is.reviewer is.token _ _ (unticked_marks records marks is.reviewer is.token) put.answer put.memory
