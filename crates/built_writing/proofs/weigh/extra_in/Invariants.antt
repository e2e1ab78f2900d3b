-- n is what the bytes so far have more than themselves, at most five each.
use Rattle.std.proofs.Common.{◌≡◌, ◌+◌, ◌*◌, ◌≤◌, length, take}
use Rattle.built_writing.specs.Writing.{spelt}
use Rattle.built_writing.proofs.weigh.extra_in.Given as goal

abbrev pub invariant-loop-b : goal.invariant-loop-b
invariant-loop-b l = (l.n ≤ 5 * l.b-index) × (length (spelt (take l.b-index l.block)) ≡ l.b-index + l.n)
