use Prim.Native.Nat.{◌-◌}
use lib.ListN.{length}
use Rattle.text_scalars.specs.Utf8Read.{Along}
use Rattle.text_characters.proofs.fours_run.Given as goal

abbrev pub invariant-loop-i : goal.invariant-loop-i
invariant-loop-i l = Along l.s l.start l.i

abbrev pub decreases-loop-i : goal.decreases-loop-i
decreases-loop-i l = length l.s - l.i
