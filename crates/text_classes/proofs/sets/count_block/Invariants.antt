use Rattle.std.proofs.Common.{◌≡◌, ◌≤◌, take}
use Rattle.std.specs.Prelude.{count_by}
use Rattle.text_classes.proofs.sets.count_block.Given as goal

abbrev pub invariant-loop-b : goal.invariant-loop-b
invariant-loop-b g l = record {
  few : l.n ≤ l.b-index;
  all : l.n ≡ count_by (g.S.ByteSet.holds l.set) (take l.b-index l.block);
}
