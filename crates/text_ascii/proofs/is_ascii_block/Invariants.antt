use Prim.Native.Nat.{◌≤◌, ◌<◌}
use Rattle.text_scalars.specs.Utf8Read.{ascii}
use Rattle.text_classes.specs.Runs.{run}
use Rattle.text_classes.proofs.RunLaws.{Block}
use Rattle.text_ascii.proofs.is_ascii_block.Given as goal

abbrev pub invariant-loop-b : goal.invariant-loop-b
invariant-loop-b l = record {
  all : l.bits < 0x80 → Block ascii l.block 0 l.b-index;
  other : 0x80 ≤ l.bits → run ascii l.block < l.b-index;
}
