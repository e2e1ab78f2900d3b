-- The last of a list, and all but the last.
use Prim.Native.Nat.{ℕ, zero, suc, ◌-◌, ◌<◌}
use mathlib.Core.Path.{◌≡◌, refl, ap}
use mathlib.Core.List.{List, [], ◌∷◌, ◌++◌, map, get_last?, drop_last}
use native.Mathlib.Omega.{arith}
use lib.ListN.{length, take, drop}

module _ {A : Type 0} where
  pub last_cons : (x : A) (l : List A) → 0 < length l → get_last? (x ∷ l) ≡ get_last? l
  last_cons x [] h = absurd (omega arith)
  last_cons x (y ∷ l) h = refl

  pub last_drop : (k : ℕ) (l : List A) → k < length l → get_last? (drop k l) ≡ get_last? l
  last_drop zero l h = refl
  last_drop (suc k) [] h = absurd (omega arith)
  last_drop (suc k) (x ∷ []) h = absurd (omega arith)
  last_drop (suc k) (x ∷ y ∷ l) h = last_drop k (y ∷ l) (omega arith)

  pub but_last_cons : (x : A) (l : List A) → 0 < length l → drop_last (x ∷ l) ≡ x ∷ drop_last l
  but_last_cons x [] h = absurd (omega arith)
  but_last_cons x (y ∷ l) h = refl

  pub length_but_last : (l : List A) → length (drop_last l) ≡ length l - 1
  length_but_last [] = refl
  length_but_last (x ∷ []) = refl
  length_but_last (x ∷ y ∷ l) = omega (arith, length_but_last (y ∷ l))

  pub but_last_end : (l : List A) (x : A) → drop_last (l ++ (x ∷ [])) ≡ l
  but_last_end [] x = refl
  but_last_end (y ∷ []) x = refl
  but_last_end (y ∷ z ∷ l) x = ap (λ (r : List A). y ∷ r) (but_last_end (z ∷ l) x)

  -- all but the last, each in another form, with more after them
  pub take_but_last : {B : Type 0} (f : A → B) (l : List A) (more : List B)
      → take (length l - 1) (map f l ++ more) ≡ map f (drop_last l)
  take_but_last f [] more = refl
  take_but_last f (x ∷ []) more = refl
  take_but_last f (x ∷ y ∷ l) more =
      let one : suc (suc (length l)) - 1 ≡ suc (suc (length l) - 1) = omega arith in
      rw one (ap (λ r. f x ∷ r) (take_but_last f (y ∷ l) more))
