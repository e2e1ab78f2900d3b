use Rattle.built_mending.proofs.SpellLaws.{Putting}
use Rattle.built_mending.proofs.spell.put_bytes.Given as goal

abbrev pub invariant-loop-b : goal.invariant-loop-b
invariant-loop-b l = Putting l.s l.initial.output l.o0 l.output l.b-index l.o
