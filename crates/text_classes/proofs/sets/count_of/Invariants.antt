-- What the blocks passed have and what is still to come have are always the same.
use Rattle.std.proofs.Common.{◌≡◌, ◌+◌, ◌≤◌, length}
use Rattle.std.specs.Prelude.{count_by}
use Rattle.text_classes.proofs.sets.count_of.Given as goal

abbrev pub invariant-loop-block : goal.invariant-loop-block
invariant-loop-block g l = record {
  few : l.n + length l.left ≤ length l.s;
  all : l.n + count_by (g.S.ByteSet.holds l.set) l.left ≡ count_by (g.S.ByteSet.holds l.set) l.s;
}

abbrev pub decreases-loop-block : goal.decreases-loop-block
decreases-loop-block g l = length l.left
