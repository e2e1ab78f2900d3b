use Rattle.std.proofs.Common.{◌+◌, ◌-◌, ◌<◌, ◌≤◌, inl, inr, arith, rules}
use Rattle.decoder_rules.proofs.PlainLaws.{Held, held_none, held_part, held_pair, held_all}
use Rattle.decoder_plain.proofs.copy_body.Given as goal

abbrev pub invariant-loop-i : goal.invariant-loop-i
invariant-loop-i l = Held l.text l.initial.output l.n l.i l.output

abbrev pub decreases-loop-i : goal.decreases-loop-i
decreases-loop-i l = l.n - l.i
