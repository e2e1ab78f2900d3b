-- What is left to be spelt, stored from place o on, makes the whole body; and each turn leaves fewer bytes.
use Rattle.std.proofs.Common.{length}
use Rattle.built_writing.proofs.SpellLaws.{Putting}
use Rattle.built_writing.proofs.spell.put_body.Given as goal

abbrev pub invariant-loop-b : goal.invariant-loop-b
invariant-loop-b l = Putting l.s l.initial.output l.o0 l.output l.rest l.o

abbrev pub decreases-loop-b : goal.decreases-loop-b
decreases-loop-b l = length l.rest
