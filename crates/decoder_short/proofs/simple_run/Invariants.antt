use Rattle.std.proofs.Common.{◌-◌, length}
use Rattle.decoder_short.specs.Letters.{SimpleTo}
use Rattle.decoder_short.proofs.simple_run.Given as goal

abbrev pub invariant-loop-i : goal.invariant-loop-i
invariant-loop-i l = SimpleTo l.s l.i

abbrev pub decreases-loop-i : goal.decreases-loop-i
decreases-loop-i l = length l.s - l.i
