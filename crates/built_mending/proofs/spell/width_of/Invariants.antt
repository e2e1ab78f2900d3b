use Rattle.built_mending.proofs.SpellLaws.{Widening}
use Rattle.built_mending.proofs.spell.width_of.Given as goal

abbrev pub invariant-loop-b : goal.invariant-loop-b
invariant-loop-b l = Widening l.s l.b-index l.w
