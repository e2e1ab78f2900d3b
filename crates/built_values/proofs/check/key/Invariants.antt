use Prim.Native.Nat.{◌-◌}
use lib.ListN.{length}
use Rattle.built_values.specs.Answers.{kinds_of}
use Rattle.built_values.proofs.PlaceLaws.{KeyGoing}
use Rattle.built_values.proofs.check.key.Given as goal

abbrev pub invariant-loop-p : goal.invariant-loop-p
invariant-loop-p l = KeyGoing (kinds_of l.records) l.at l.p

abbrev pub decreases-loop-p : goal.decreases-loop-p
decreases-loop-p l = length (kinds_of l.records) - l.p
