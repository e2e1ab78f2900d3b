use Prim.Native.Nat.{◌-◌}
use lib.ListN.{length}
use Rattle.lexer_scans.specs.Scans.{GoesOn}
use Rattle.lexer_scans.proofs.search.find_in_blocks.Given as goal

abbrev pub invariant-loop-i : goal.invariant-loop-i
invariant-loop-i g l = GoesOn (g.S.ByteSet.holds l.set) l.doc l.start l.i

abbrev pub decreases-loop-i : goal.decreases-loop-i
decreases-loop-i g l = length l.doc - l.i
