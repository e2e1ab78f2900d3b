use Rattle.built_fronts.specs.Fronts.{Sound}
use Rattle.built_fronts.proofs.few_chars.Given as goal

abbrev pub invariant-loop : goal.invariant-loop
invariant-loop l = Sound l.line l.doc l.start l.i
