use Rattle.std.proofs.Common.{◌-◌, length}
use Rattle.built_fronts.specs.Fronts.{Sound}
use Rattle.built_fronts.proofs.line_front.Given as goal

abbrev pub invariant-loop-line : goal.invariant-loop-line
invariant-loop-line l = Sound l.line l.doc l.start l.i

abbrev pub decreases-loop-line : goal.decreases-loop-line
decreases-loop-line l = length l.doc - l.i
