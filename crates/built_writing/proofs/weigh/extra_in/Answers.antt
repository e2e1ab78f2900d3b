-- `extra_in` is right because each byte has at most five more than itself.
use Rattle.std.proofs.Common.{refl, arith}
use Rattle.built_writing.specs.Writing.{spelt}
use Rattle.built_writing.proofs.WeighLaws.{weighs_more}
use Rattle.built_writing.proofs.weigh.extra_in.Goals as goal

pub loop-b-init : goal.loop-b-init
unfolding spelt
loop-b-init c = (omega arith, refl)

pub loop-b-preserved : goal.loop-b-preserved
loop-b-preserved c =
    let l = c.loop-b in
    let more = weighs_more c.args.block.now l.b-index _ c.loop-b-test.true c.extra-n.ensures.0 in
    (omega (arith, l.invariant.0, c.extra-n.ensures.1), omega (arith, l.invariant.1, more))
