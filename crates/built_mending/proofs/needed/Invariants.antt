use Prim.Native.Nat.{◌-◌}
use lib.ListN.{length}
use Rattle.built_mending.proofs.PassLaws.{Counted}
use Rattle.built_mending.proofs.needed.Given as goal

abbrev pub invariant-loop-at : goal.invariant-loop-at
invariant-loop-at l = Counted l.edition l.doc l.at l.line l.quoted l.n l.m

abbrev pub decreases-loop-at : goal.decreases-loop-at
decreases-loop-at l = length l.doc - l.at
