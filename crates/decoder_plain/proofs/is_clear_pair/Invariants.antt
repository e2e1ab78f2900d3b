use Rattle.std.proofs.Common.{◌+◌, ◌<◌}
use Rattle.decoder_rules.proofs.PlainLaws.{ClearIn}
use Rattle.decoder_plain.proofs.is_clear_pair.Given as goal

abbrev pub invariant-loop-j : goal.invariant-loop-j
invariant-loop-j l = l.bits < 0x80 → ClearIn l.q l.z l.s l.i (l.i + l.j) × ClearIn l.q l.z l.s l.k (l.k + l.j)
