-- `count_of` is right because neither a block nor the rest changes what is passed and still to come.
use Rattle.std.proofs.Common.{arith}
use Rattle.std.proofs.lemmas.List.Sums.{count_by-le-length}
use Rattle.text_classes.proofs.CountLaws.{count_passed}
use Rattle.text_classes.proofs.sets.count_of.Goals as goal

pub overflow_add-n : goal.overflow_add-n
overflow_add-n g c =
    let parts = c.in-Some.ensures.cases in
    let one = count_passed (g.S.ByteSet.holds c.args.set) 128 c.loop-block.left.now parts.0 parts.1 c.count_block-n.ensures in
    omega (arith, one.0, parts.2)

pub loop-block-smaller : goal.loop-block-smaller
loop-block-smaller g c = omega (arith, c.in-Some.ensures.cases.2)

pub loop-block-preserved : goal.loop-block-preserved
loop-block-preserved g c =
    let parts = c.in-Some.ensures.cases in
    let one = count_passed (g.S.ByteSet.holds c.args.set) 128 c.loop-block.left.now parts.0 parts.1 c.count_block-n.ensures in
    record { few = omega (arith, one.0, parts.2); all = omega (arith, one.1) }

pub overflow_add-result : goal.overflow_add-result
overflow_add-result g c =
    omega (arith, c.count_few.ensures, count_by-le-length (g.S.ByteSet.holds c.args.set) c.loop-block.left.now)
