use Rattle.decoder_rules.proofs.StoreLaws.{Copying}
use Rattle.decoder_writing.proofs.write.copy_in.Given as goal

abbrev pub invariant-loop-j : goal.invariant-loop-j
invariant-loop-j l = Copying l.s l.n l.initial.output l.o l.output l.j
