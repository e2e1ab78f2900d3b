-- `own_bit` is right because 1 is 2 to the power 0, and 2 to the power 1.
use Prim.Native.Nat.{ℕ, ◌^◌}
use mathlib.Core.Path.{◌≡◌, sym, ap}
use native.Mathlib.Omega.{arith}
use Rattle.built_review.proofs.own_bit.Goals as goal

pub returns-then-reviewer-eq0 : goal.returns-then-reviewer-eq0
returns-then-reviewer-eq0 c = sym (ap (λ (k : ℕ). 2 ^ k) c.if-reviewer-eq0.true)

pub returns-else-reviewer-eq0 : goal.returns-else-reviewer-eq0
returns-else-reviewer-eq0 c =
    let one : c.args.reviewer ≡ 1 = omega (arith, c.if-reviewer-eq0.false) in
    sym (ap (λ (k : ℕ). 2 ^ k) one)
