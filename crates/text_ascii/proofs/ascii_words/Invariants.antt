use Rattle.text_scalars.specs.Utf8Read.{ascii}
use Rattle.text_classes.specs.Runs.{run}
use Rattle.text_classes.proofs.RunLaws.{SameEnd}
use Rattle.text_ascii.proofs.ascii_words.Given as goal

abbrev pub invariant-loop : goal.invariant-loop
invariant-loop l = SameEnd (run ascii) l.s l.start l.i
