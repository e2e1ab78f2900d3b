-- Numbers added one by one: the order does not matter, nothing added changes nothing, one more at a place is what a store there
-- makes of it, and sums that fit are sums of numbers that fit.
-- Assumes nothing.
use Prim.Native.Nat.{ℕ, zero, suc, ◌+◌, ◌≤◌, ◌<◌, ◌^◌, ◌-◌}
use mathlib.Core.Path.{◌≡◌, refl, sym, ap}
use Rattle.std.specs.Prelude.{IsTrue, ◌↔◌, EachIndex}
use mathlib.Core.Bool.{Bool, true, false}
use mathlib.Core.List.{List, [], ◌∷◌, ◌++◌}
use native.Mathlib.Omega.{arith}
use borrow.Author.Tests.{leb-true, le-leb}
use Rattle.text_classes.proofs.Conds.{both_left, both_right}
use lib.Dec.{leb}
use lib.ListN.{length, get_or, set, take, replicate}
use Rattle.text_refusals.specs.Refusals.{greatest}
use Rattle.built_figures.specs.Figures.{added, all_fit}
use Rattle.built_figures.specs.Counting.{Fit}

pair : {x y : ℕ} {xs ys : List ℕ} → x ≡ y → xs ≡ ys → (x ∷ xs) ≡ (y ∷ ys)
pair p q = cc

-- ---- the laws of a sum

pub added_none : (xs : List ℕ) → added xs [] ≡ xs
unfolding added
added_none [] = refl
added_none (x ∷ xs) = refl

pub added_comm : (xs ys : List ℕ) → added xs ys ≡ added ys xs
unfolding added
added_comm [] [] = refl
added_comm [] (y ∷ ys) = refl
added_comm (x ∷ xs) [] = refl
added_comm (x ∷ xs) (y ∷ ys) = pair (omega arith) (added_comm xs ys)

pub added_assoc : (xs ys zs : List ℕ) → added (added xs ys) zs ≡ added xs (added ys zs)
unfolding added
added_assoc [] ys zs = refl
added_assoc (x ∷ xs) [] zs = refl
added_assoc (x ∷ xs) (y ∷ ys) [] = refl
added_assoc (x ∷ xs) (y ∷ ys) (z ∷ zs) = pair (omega arith) (added_assoc xs ys zs)

-- at each place the sum of the two numbers there
pub added_at : (xs ys : List ℕ) (i : ℕ) → get_or (added xs ys) i 0 ≡ get_or xs i 0 + get_or ys i 0
unfolding added
added_at [] ys i = omega arith
added_at (x ∷ xs) [] i = omega arith
added_at (x ∷ xs) (y ∷ ys) zero = refl
added_at (x ∷ xs) (y ∷ ys) (suc i) = added_at xs ys i

pub added_length : (xs ys : List ℕ) → length xs ≡ length ys → length (added xs ys) ≡ length xs
unfolding added
added_length [] [] e = refl
added_length [] (y ∷ ys) e = absurd (omega arith)
added_length (x ∷ xs) [] e = absurd (omega arith)
added_length (x ∷ xs) (y ∷ ys) e = ap suc (added_length xs ys (omega arith))

-- two lists, each in two parts of the same lengths
pub added_parts : (a b c d : List ℕ) → length a ≡ length c → added (a ++ b) (c ++ d) ≡ added a c ++ added b d
unfolding added
added_parts [] b [] d e = refl
added_parts [] b (y ∷ c) d e = absurd (omega arith)
added_parts (x ∷ a) b [] d e = absurd (omega arith)
added_parts (x ∷ a) b (y ∷ c) d e = ap (λ (r : List ℕ). (x + y) ∷ r) (added_parts a b c d (omega arith))

-- zeros add nothing
pub added_zeros : (xs : List ℕ) → added xs (replicate (length xs) 0) ≡ xs
unfolding added
added_zeros [] = refl
added_zeros (x ∷ xs) = pair (omega arith) (added_zeros xs)

-- one more at a place
pub added_one : (xs : List ℕ) (i : ℕ) → i < length xs → set xs i (get_or xs i 0 + 1) ≡ added xs (set (replicate (length xs) 0) i 1)
unfolding added
added_one [] i h = absurd (omega arith)
added_one (x ∷ xs) zero h = pair refl (sym (added_zeros xs))
added_one (x ∷ xs) (suc i) h = pair (omega arith) (added_one xs i (omega arith))

-- ---- added up from the front

pub added_front : (xs ys : List ℕ) (i : ℕ) → get_or (added xs (take i ys)) i 0 ≡ get_or xs i 0
unfolding added
added_front [] [] zero = refl
added_front [] [] (suc i) = refl
added_front [] (y ∷ ys) zero = refl
added_front [] (y ∷ ys) (suc i) = added_front [] ys i
added_front (x ∷ xs) ys zero = refl
added_front (x ∷ xs) [] (suc i) = refl
added_front (x ∷ xs) (y ∷ ys) (suc i) = added_front xs ys i

pub added_more : (xs ys : List ℕ) (i : ℕ) → i < length xs → i < length ys
    → set (added xs (take i ys)) i (get_or (added xs (take i ys)) i 0 + get_or ys i 0) ≡ added xs (take (suc i) ys)
unfolding added
added_more [] ys i h l = absurd (omega arith)
added_more (x ∷ xs) [] i h l = absurd (omega arith)
added_more (x ∷ xs) (y ∷ ys) zero h l = pair refl (sym (added_none xs))
added_more (x ∷ xs) (y ∷ ys) (suc i) h l = pair refl (added_more xs ys i (omega arith) (omega arith))

-- ---- sums that fit

-- each part of a sum that fits
pub fit_left : (xs ys : List ℕ) → Fit (added xs ys) → Fit xs
fit_left xs ys f i = omega (arith, f i, added_at xs ys i)

pub all_fit_lem : (ns : List ℕ) → ((i : ℕ) → i < length ns → get_or ns i 0 ≤ greatest) → all_fit ns ≡ true
unfolding all_fit
all_fit_lem [] f = refl
all_fit_lem (n ∷ ns) f = rw (le-leb n greatest (f 0 (omega arith)), all_fit_lem ns (λ i h. f (suc i) (omega arith)))

pub each_fits : (ns : List ℕ) → all_fit ns ≡ true → Fit ns
unfolding all_fit
each_fits [] e i = omega arith
each_fits (n ∷ ns) e zero = omega (arith, leb-true n greatest (both_left (leb n greatest) (all_fit ns) e))
each_fits (n ∷ ns) e (suc i) = each_fits ns (both_right (leb n greatest) (all_fit ns) e) i

-- asked of each place: whether the second number is at most what the first one leaves
pub fits_told : (xs ys : List ℕ) (r : Bool) → length xs ≡ length ys → ((i : ℕ) → get_or xs i 0 < 2 ^ 64)
    → IsTrue r ↔ EachIndex xs (λ i. get_or ys i 0 ≤ greatest - get_or xs i 0) → r ≡ all_fit (added xs ys)
fits_told xs ys true long small told =
    sym (all_fit_lem (added xs ys)
    (λ i h.
    let there : i < length xs = omega (arith, added_length xs ys long) in
    omega (arith, added_at xs ys i, told.0 refl i there, small i)))
fits_told xs ys false long small told = go (all_fit (added xs ys)) refl
  where
    go : (t : Bool) → all_fit (added xs ys) ≡ t → false ≡ t
    go true e = told.1 (λ i h. omega (arith, each_fits (added xs ys) e i, added_at xs ys i))
    go false e = refl
