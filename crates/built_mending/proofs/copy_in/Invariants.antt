use lib.ListN.{length}
use Rattle.decoder_rules.proofs.StoreLaws.{Copying}
use Rattle.built_mending.specs.Passes.{between}
use Rattle.built_mending.proofs.copy_in.Given as goal

abbrev pub invariant-loop-j : goal.invariant-loop-j
invariant-loop-j l = Copying (between l.doc l.from l.to) (length (between l.doc l.from l.to)) l.initial.output l.o l.output l.j
