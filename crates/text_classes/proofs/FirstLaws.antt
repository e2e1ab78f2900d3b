-- The byte at a place, if one stands there.
-- Assumes nothing.
use Prim.Native.Nat.{ℕ, zero, suc, ◌≤◌, ◌<◌}
use mathlib.Core.Path.{◌≡◌, refl, sym, ap, ◌∙◌}
use mathlib.Core.Bool.{Bool, true, false}
use mathlib.Core.List.{List, [], ◌∷◌}
use native.Mathlib.Decide.{dec_lt}
use native.Mathlib.Omega.{arith}
use borrow.Author.Tests.{eqb-true}
use lib.Dec.{eqb}
use lib.ListN.{length, get_or, take, drop, get_or-eq_default}
use Rattle.text_classes.specs.Runs.{first_is, stands}
use Rattle.text_classes.proofs.Conds.{not_both}

module _ (p : ℕ → Bool) where
  pub first_there : (s : List ℕ) (i : ℕ) → i < length s → first_is p (drop i s) ≡ p (get_or s i 0)
  first_there [] i h = absurd (omega arith)
  first_there (b ∷ s) zero h = refl
  first_there (b ∷ s) (suc i) h = first_there s i (omega arith)

  pub first_beyond : (s : List ℕ) (i : ℕ) → length s ≤ i → first_is p (drop i s) ≡ false
  first_beyond [] zero h = refl
  first_beyond [] (suc i) h = refl
  first_beyond (b ∷ s) zero h = absurd (omega arith)
  first_beyond (b ∷ s) (suc i) h = first_beyond s i (omega arith)

  pub first_within : (s : List ℕ) (i : ℕ) → first_is p (drop i s) ≡ true → i < length s
  first_within s i t = elim (dec_lt i (length s)) [
    | yes h ↦ h
    | no h ↦ not_both t (first_beyond s i (omega arith))
  ]

  -- for a test that 0 does not pass, which is what `get_or` gives past the end
  pub first_at : p 0 ≡ false → (s : List ℕ) (i : ℕ) → first_is p (drop i s) ≡ p (get_or s i 0)
  first_at none s i = elim (dec_lt i (length s)) [
    | yes h ↦ first_there s i h
    | no h ↦
        let filled : get_or s i 0 ≡ 0 = get_or-eq_default s 0 (omega arith) in
        first_beyond s i (omega arith) ∙ sym (ap p filled ∙ none)
  ]

  -- a list that is cut after the place has the same byte there
  pub first_take : (s : List ℕ) (n i : ℕ) → i < n → first_is p (drop i (take n s)) ≡ first_is p (drop i s)
  first_take s zero i h = absurd (omega arith)
  first_take [] (suc n) i h = refl
  first_take (b ∷ s) (suc n) zero h = refl
  first_take (b ∷ s) (suc n) (suc i) h = first_take s n i (omega arith)

-- a byte that stands at a place is the byte there
pub stands_there : (q : ℕ) (s : List ℕ) (i : ℕ) → stands q (drop i s) ≡ true → (i < length s) × (get_or s i 0 ≡ q)
stands_there q s i t =
    let within = first_within (λ b. eqb b q) s i t in
    (within, eqb-true _ _ (sym (first_there (λ b. eqb b q) s i within) ∙ t))
