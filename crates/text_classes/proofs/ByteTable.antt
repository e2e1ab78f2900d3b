-- A rule of all bytes in a range, proved by one test that antt computes over the range.
-- Assumes nothing.
use Prim.Native.Nat.{ℕ, zero, suc, ◌+◌, ◌≤◌, ◌<◌}
use mathlib.Core.Path.{◌≡◌, refl, sym, ap, ◌∙◌}
use mathlib.Core.Logic.{inl, inr}
use mathlib.Core.Bool.{Bool, true, false, ◌&&◌, ◌||◌}
use mathlib.Core.List.{List, [], ◌∷◌}
use mir.Val.{has_key}
use types.Run.{OneOf, hit}
use native.Mathlib.Decide.{ℕ_discrete}
use native.Mathlib.Omega.{arith}
use lib.Dec.{T}

-- f passes at each of the n numbers from a on
abbrev pub all_from : (ℕ → Bool) → ℕ → ℕ → Bool
all_from f a zero = true
all_from f a (suc n) = f a && all_from f (suc a) n

pub and_left : (x y : Bool) → T (x && y) → T x
and_left true y t = tt
and_left false y t = t

pub and_right : (x y : Bool) → T (x && y) → T y
and_right true y t = t
and_right false y t = absurd t

pub at_each : (f : ℕ → Bool) (a n : ℕ) → T (all_from f a n) → (b : ℕ) → a ≤ b → b < a + n → T (f b)
at_each f a zero t b l h = absurd (omega arith)
at_each f a (suc n) t b l h = go (ℕ_discrete a b) (at_each f (suc a) n (and_right (f a) (all_from f (suc a) n) t) b)
  where
    go : Dec (a ≡ b) → (suc a ≤ b → b < suc a + n → T (f b)) → T (f b)
    go (yes e) rest = rw (← e) (and_left (f a) (all_from f (suc a) n) t)
    go (no d) rest = rest (omega arith) (omega arith)

abbrev pub same : Bool → Bool → Bool
same true b = b
same false true = false
same false false = true

same_is : (x y : Bool) → T (same x y) → x ≡ y
same_is true true t = refl
same_is true false t = absurd t
same_is false true t = absurd t
same_is false false t = refl

-- two classes agree at each of the n bytes from a on
pub classes_agree : (f g : ℕ → Bool) (a n : ℕ) → T (all_from (λ b. same (f b) (g b)) a n)
    → (b : ℕ) → a ≤ b → b < a + n → f b ≡ g b
classes_agree f g a n t b l h = same_is (f b) (g b) (at_each (λ b. same (f b) (g b)) a n t b l h)

-- a class has the value v at each of the n bytes from a on
pub class_is : (v : Bool) (f : ℕ → Bool) (a n : ℕ) → T (all_from (λ b. same v (f b)) a n)
    → (b : ℕ) → a ≤ b → b < a + n → v ≡ f b
class_is v = classes_agree (λ b. v)

-- ---- a `match` on a byte: its arms of single bytes, and what is left

-- f passes at each of the bytes
abbrev pub all_of : (ℕ → Bool) → List ℕ → Bool
all_of f [] = true
all_of f (k ∷ ks) = f k && all_of f ks

-- a class has the value v at each of an arm's bytes
pub keys_are : (v : Bool) (f : ℕ → Bool) (ks : List ℕ) → T (all_of (λ b. same v (f b)) ks) → {b : ℕ} → OneOf ks b → v ≡ f b
keys_are v f [] t o = absurd o
keys_are v f (k ∷ []) t o = same_is v (f k) (and_left (same v (f k)) true t) ∙ ap f (sym o)
keys_are v f (k ∷ j ∷ ks) t (inl e) =
    let first = and_left (same v (f k)) (all_of (λ b. same v (f b)) (j ∷ ks)) t in
    same_is v (f k) first ∙ ap f (sym e)
keys_are v f (k ∷ j ∷ ks) t (inr o) =
    let others = and_right (same v (f k)) (all_of (λ b. same v (f b)) (j ∷ ks)) t in
    keys_are v f (j ∷ ks) others o

-- a class has the value v at each of the n bytes from a on, except the arm's bytes ks
pub rest_is : (v : Bool) (f : ℕ → Bool) (ks : List ℕ) (a n : ℕ) → T (all_from (λ b. has_key ks b || same v (f b)) a n)
    → (b : ℕ) → (OneOf ks b → ⊥) → a ≤ b → b < a + n → v ≡ f b
rest_is v f ks a n t b o l h = go (has_key ks b) (hit ks b) (at_each (λ b. has_key ks b || same v (f b)) a n t b l h)
  where
    go : (k : Bool) → (T k → OneOf ks b) → T (k || same v (f b)) → v ≡ f b
    go true w u = absurd (o (w tt))
    go false w u = same_is v (f b) u
