-- Bytes that are counted: in two parts, and in a block and the rest.
-- Assumes nothing.
use Rattle.std.proofs.Common.{◌≡◌, ℕ, ◌+◌, ◌≤◌, Bool, cond, List, take, drop, ap, ◌∙◌, arith, length-take}
use Rattle.std.specs.Prelude.{count_by}
use Rattle.std.proofs.lemmas.List.Sums.{count_by-le-length, sum_by-take-drop}

module _ (p : ℕ → Bool) where
  pub count_split : (n : ℕ) (s : List ℕ) → count_by p (take n s) + count_by p (drop n s) ≡ count_by p s
  count_split n s = sum_by-take-drop (λ b. cond (p b) 1 0) s n

  -- a block at the front, and what is left after it
  pub count_passed : (n : ℕ) (left : List ℕ) {block rest : List ℕ} {m : ℕ} → block ≡ take n left → rest ≡ drop n left
      → m ≡ count_by p block → (m ≤ n) × (m + count_by p rest ≡ count_by p left)
  count_passed n left e f is =
      let same = is ∙ ap (count_by p) e in (
        omega (arith, same, count_by-le-length p (take n left), length-take n left),
        omega (arith, same, ap (count_by p) f, count_split n left),
      )
