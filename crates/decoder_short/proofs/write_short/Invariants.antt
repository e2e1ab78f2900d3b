-- What is still to be stored, from place o on, is what the body from place i on stands for.
use Rattle.std.proofs.Common.{◌-◌, length}
use Rattle.decoder_short.proofs.ShortLaws.{Spelling}
use Rattle.decoder_short.proofs.write_short.Given as goal

abbrev pub invariant-loop-i : goal.invariant-loop-i
invariant-loop-i l = Spelling l.text l.initial.output l.i l.o l.output

abbrev pub decreases-loop-i : goal.decreases-loop-i
decreases-loop-i l = length l.text - l.i
