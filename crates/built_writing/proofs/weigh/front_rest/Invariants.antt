-- What is passed over so far is counted; and each turn leaves fewer bytes.
use Rattle.std.proofs.Common.{length}
use Rattle.built_writing.specs.Measured.{Passed}
use Rattle.built_writing.proofs.weigh.front_rest.Given as goal

abbrev pub invariant-loop-b : goal.invariant-loop-b
invariant-loop-b l = Passed l.fn.front.rest.now l.fn.front.bytes l.rest l.bytes

abbrev pub decreases-loop-b : goal.decreases-loop-b
decreases-loop-b l = length l.rest
