use Rattle.std.proofs.Common.{◌+◌, ◌-◌, ◌<◌, length, sym, ◌∙◌, arith, rules}
use borrow.Author.Tests.{not-false}
use Rattle.decoder_rules.specs.Encodings.{plain}
use Rattle.decoder_rules.proofs.OwnLaws.{OwnTo, own_start, own_ascii, own_wide}
use Rattle.decoder_plain.proofs.own_run.Given as goal

abbrev pub invariant-loop-e : goal.invariant-loop-e
invariant-loop-e l = OwnTo (plain l.e) l.s l.i

abbrev pub decreases-loop-e : goal.decreases-loop-e
decreases-loop-e l = length l.s - l.i
