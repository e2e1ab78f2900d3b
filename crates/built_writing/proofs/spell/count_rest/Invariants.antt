-- What is counted, and what is left to be spelt, are the whole; and each turn leaves fewer bytes.
use Rattle.std.proofs.Common.{◌≡◌, ◌+◌, length}
use Rattle.built_writing.specs.Writing.{spelt}
use Rattle.built_writing.proofs.spell.count_rest.Given as goal

abbrev pub invariant-loop-b : goal.invariant-loop-b
invariant-loop-b l = l.n + length (spelt l.rest) ≡ length (spelt l.s)

abbrev pub decreases-loop-b : goal.decreases-loop-b
decreases-loop-b l = length l.rest
