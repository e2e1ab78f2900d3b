-- `is_clear` is right because the parts reach from the front to the end. The invariant: all before i is clear.
use Rattle.std.proofs.Common.{◌≡◌, ℕ, ◌+◌, ◌-◌, ◌<◌, ◌≤◌, get_or, arith, rules}
use mathlib.Core.Bool.{false≢true}
use native.Mathlib.Decide.{dec_lt}
use borrow.Author.Tests.{not-false}
use Rattle.decoder_rules.proofs.PlainLaws.{Clear, clear_pair}
use Rattle.decoder_plain.proofs.is_clear.Goals as goal

pub returns-then-n-lt4 : goal.returns-then-n-lt4
returns-then-n-lt4 c =
    let same : c.args.end - 1 + 1 ≡ c.args.end = omega arith in
    λ h. rw same at (c.is_clear_few.ensures h)

pub returns-then-n-lt8 : goal.returns-then-n-lt8
returns-then-n-lt8 c = λ h k l r.
    let p = c.is_clear_pair.ensures h in
    elim (dec_lt k (1 + 4)) [ yes x ↦ p.0 k l x | no x ↦ p.1 k (omega arith) (omega arith) ]

pub loop-i-init : goal.loop-i-init
loop-i-init c = (omega arith, λ k l r e. absurd (omega arith))

pub is_clear_pair-requires-in-loop-i : goal.is_clear_pair-requires-in-loop-i
is_clear_pair-requires-in-loop-i c = omega (arith, c.min.ensures, c.min-in-loop-i.ensures)

pub returns-then-not-is_clear_pair : goal.returns-then-not-is_clear_pair
returns-then-not-is_clear_pair c = λ h. absurd (false≢true h)

pub loop-i-preserved : goal.loop-i-preserved
loop-i-preserved c =
    let a = c.args in
    let at = c.loop-i in
    let p = c.is_clear_pair-in-loop-i.ensures (not-false _ c.if-not-is_clear_pair.false-raw) in (
      omega arith,
      clear_pair a.q a.z a.s.now a.end (a.end - 8) at.i _ _ (omega arith) c.min.ensures c.min-in-loop-i.ensures
          p.0 p.1 at.invariant.1,
    )

pub returns : goal.returns
returns c = λ h k l r. c.loop-i.invariant.1 k l (omega arith) r
