use Rattle.std.proofs.Common.{◌≡◌, drop}
use Rattle.built_values.specs.Answers.{kinds_of}
use Rattle.built_values.specs.Checkers.{past}
use Rattle.built_values.proofs.kinds.skip.Given as goal

abbrev pub invariant-loop-i : goal.invariant-loop-i
invariant-loop-i l = past l.run (drop l.i (kinds_of l.records)) ≡ past l.run (drop l.at (kinds_of l.records))
