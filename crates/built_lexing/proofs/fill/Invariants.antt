use Prim.Native.Nat.{◌-◌}
use lib.ListN.{length}
use Rattle.built_lexing.proofs.PartLaws.{Underway}
use Rattle.built_lexing.proofs.fill.Given as goal

abbrev pub invariant-turns : goal.invariant-turns
invariant-turns l = Underway l.part l.fn.lexing l.fn.records l.records l.l l.n l.i

abbrev pub decreases-turns : goal.decreases-turns
decreases-turns l = length l.part - l.i
