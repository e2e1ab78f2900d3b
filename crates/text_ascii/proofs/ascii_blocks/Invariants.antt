use Prim.Native.Nat.{◌-◌}
use lib.ListN.{length}
use Rattle.text_scalars.specs.Utf8Read.{ascii}
use Rattle.text_classes.specs.Runs.{run}
use Rattle.text_classes.proofs.RunLaws.{SameEnd}
use Rattle.text_ascii.proofs.ascii_blocks.Given as goal

abbrev pub invariant-loop-block : goal.invariant-loop-block
invariant-loop-block l = SameEnd (run ascii) l.s l.start l.i

abbrev pub decreases-loop-block : goal.decreases-loop-block
decreases-loop-block l = length l.s - l.i
