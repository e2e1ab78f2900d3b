use Rattle.std.proofs.Common.{◌≡◌, ℕ, ◌+◌, ◌-◌, ◌<◌, ◌≤◌, get_or, arith, rules}
use mathlib.Core.Bool.{false≢true}
use native.Mathlib.Decide.{dec_lt}
use borrow.Author.Tests.{not-false}
use Rattle.decoder_rules.proofs.PlainLaws.{Clear, clear_pair}
use Rattle.decoder_plain.proofs.is_clear.Given as goal

abbrev pub invariant-loop-i : goal.invariant-loop-i
invariant-loop-i l = (1 ≤ l.i) × ((k : ℕ) → 1 ≤ k → k < l.i → k < l.end → Clear l.q l.z (get_or l.s k 0))

abbrev pub decreases-loop-i : goal.decreases-loop-i
decreases-loop-i l = l.end - l.i
