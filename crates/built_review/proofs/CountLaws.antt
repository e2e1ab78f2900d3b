-- Counting: how many of some bytes the code's test tells is how many have the bit set.
-- Assumes nothing.
use Rattle.std.proofs.Common.{◌≡◌, ℕ, zero, suc, ◌^◌, ◌≤◌, ◌<◌, Bool, not, cond, List, [], ◌∷◌, get_or, take, bit_and, refl, ap, ◌∙◌, arith}
use Rattle.std.specs.Prelude.{count_by}
use Rattle.std.proofs.lemmas.List.Sums.{sum_by-cons}
use lib.Dec.{eqb}
use Rattle.text_classes.proofs.Conds.{by_eq}
use Rattle.built_review.specs.Review.{bit, ticks_in}
use Rattle.built_review.proofs.BitLaws.{bit_told, bit_le}

-- the code's test, and what it adds
abbrev pub told_by : ℕ → ℕ → Bool
told_by own b = not (eqb (bit_and b own) 0)

worth : (k b : ℕ) → k ≤ 1 → b < 256 → cond (told_by (2 ^ k) b) 1 0 ≡ bit k b
worth k b h l =
    let low = bit_le k b in
    ap (λ (t : Bool). cond t 1 0) (bit_told k b h l)
    ∙ by_eq (λ (n : ℕ). n ≡ bit k b) (bit k b) 1 (λ one. omega arith) (λ none. omega arith)

-- in the first n of some bytes
pub ticks_counted : (k : ℕ) → k ≤ 1 → (n : ℕ) (s : List ℕ) → ((i : ℕ) → get_or s i 0 < 256)
    → count_by (told_by (2 ^ k)) (take n s) ≡ ticks_in k (take n s)
unfolding ticks_in
ticks_counted k h zero s small = refl
ticks_counted k h (suc n) [] small = refl
ticks_counted k h (suc n) (b ∷ s) small =
    sum_by-cons (λ b. cond (told_by (2 ^ k) b) 1 0) b (take n s)
    ∙ rw (worth k b h (small 0), ticks_counted k h n s (λ i. small (suc i)))
