use Rattle.std.proofs.Common.{◌≡◌, length}
use Rattle.decoder_rules.specs.Marks.{trimmed}
use Rattle.decoder_marks.proofs.trimmed_len.Given as goal

abbrev pub invariant-loop-last : goal.invariant-loop-last
invariant-loop-last l = trimmed l.q l.left ≡ trimmed l.q l.initial.left

abbrev pub decreases-loop-last : goal.decreases-loop-last
decreases-loop-last l = length l.left
