-- Induction on the length of a list, for claims about it that go back to any shorter list.
-- Assumes nothing.
use Prim.Native.Nat.{ℕ, zero, suc, ◌≤◌}
use mathlib.Core.List.{List, [], ◌∷◌}
use native.Mathlib.Omega.{arith}
use lib.ListN.{length}

pub by_length : (C : List ℕ → Type 0) → C []
    → ((n : ℕ) → ((s : List ℕ) → length s ≤ n → C s) → (b : ℕ) (s : List ℕ) → length s ≤ n → C (b ∷ s))
    → (n : ℕ) (s : List ℕ) → length s ≤ n → C s
by_length C none some zero [] l = none
by_length C none some zero (b ∷ s) l = absurd (omega arith)
by_length C none some (suc n) [] l = none
by_length C none some (suc n) (b ∷ s) l = some n (by_length C none some n) b s (omega arith)
