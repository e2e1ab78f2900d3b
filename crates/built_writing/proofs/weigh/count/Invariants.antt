-- What is counted, and what is left, are the whole; and each turn leaves fewer bytes.
use Rattle.std.proofs.Common.{◌≡◌, ◌+◌, length}
use Rattle.built_writing.specs.Writing.{spelt}
use Rattle.built_writing.proofs.weigh.count.Given as goal

abbrev pub invariant-loop-block : goal.invariant-loop-block
invariant-loop-block l = l.n + length (spelt l.rest) ≡ length (spelt l.s)

abbrev pub decreases-loop-block : goal.decreases-loop-block
decreases-loop-block l = length l.rest
