use lib.ListN.{length}
use Rattle.decoder_rules.proofs.StoreLaws.{Copying}
use Rattle.built_writing.proofs.spell.put.Given as goal

abbrev pub invariant-loop-j : goal.invariant-loop-j
invariant-loop-j l = Copying l.bytes (length l.bytes) l.initial.output l.o l.output l.j
