-- What is passed over so far is counted; and each turn leaves fewer bytes.
use Rattle.std.proofs.Common.{length}
use Rattle.built_writing.specs.Measured.{Passed}
use Rattle.built_writing.proofs.weigh.front_blocks.Given as goal

abbrev pub invariant-loop-block : goal.invariant-loop-block
invariant-loop-block g l = Passed l.fn.front.rest.now l.fn.front.bytes l.rest l.bytes

abbrev pub decreases-loop-block : goal.decreases-loop-block
decreases-loop-block g l = length l.rest
