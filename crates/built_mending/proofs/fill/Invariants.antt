use Prim.Native.Nat.{◌-◌}
use lib.ListN.{length}
use Rattle.built_mending.proofs.PassLaws.{Filled}
use Rattle.built_mending.proofs.fill.Given as goal

abbrev pub invariant-loop-at : goal.invariant-loop-at
invariant-loop-at l = Filled l.edition l.doc l.initial.output l.initial.records l.output l.records l.from l.at l.line l.quoted l.o l.m

abbrev pub decreases-loop-at : goal.decreases-loop-at
decreases-loop-at l = length l.doc - l.at
