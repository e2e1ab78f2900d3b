-- Tests: a choice taken apart by its test, two tests at once, and a flag that a test sets.
-- Assumes nothing.
use Prim.Native.Nat.{ℕ, ◌≤◌, ◌<◌}
use mathlib.Core.Path.{◌≡◌, refl, sym, ◌∙◌}
use mathlib.Core.Logic.{◌⊎◌, inl, inr}
use mathlib.Core.Bool.{Bool, true, false, cond, ◌&&◌, ◌||◌, false≢true}
use lib.Dec.{ltb, eqb}
use borrow.Author.Tests.{ltb-true, ltb-false, eqb-true, eqb-false}

-- what holds of both choices, each under its test, holds of the choice
pub cond_case : {A : Type 0} (P : A → Type 0) (t : Bool) {x y : A} → (t ≡ true → P x) → (t ≡ false → P y) → P (cond t x y)
cond_case P true f g = f refl
cond_case P false f g = g refl

-- the same where the test compares two numbers
pub by_lt : {A : Type 0} (P : A → Type 0) (a k : ℕ) {x y : A} → (a < k → P x) → (k ≤ a → P y) → P (cond (ltb a k) x y)
by_lt P a k f g = cond_case P (ltb a k) (λ e. f (ltb-true a k e)) (λ e. g (ltb-false a k e))

-- the same where the test asks whether two numbers are equal
pub by_eq : {A : Type 0} (P : A → Type 0) (a k : ℕ) {x y : A} → (a ≡ k → P x) → ((a ≡ k → ⊥) → P y) → P (cond (eqb a k) x y)
by_eq P a k f g = cond_case P (eqb a k) (λ e. f (eqb-true a k e)) (λ e. g (eqb-false a k e))

-- what is read off a choice is the choice of what is read off: for the laws that say an answer's number and value
pub of_choice : {A B : Type 0} (f : A → B) (t : Bool) {x y : A} {m n : B} → f x ≡ m → f y ≡ n → f (cond t x y) ≡ cond t m n
of_choice f true p q = p
of_choice f false p q = q

-- a test is not both true and false
pub not_both : {t : Bool} {P : Type 0} → t ≡ true → t ≡ false → P
not_both e f = absurd (false≢true (sym f ∙ e))

pub both_left : (x y : Bool) → (x && y) ≡ true → x ≡ true
both_left true y e = refl
both_left false y e = e

pub both_right : (x y : Bool) → (x && y) ≡ true → y ≡ true
both_right true y e = e
both_right false y e = not_both e refl

-- one of two tests
pub or_left : (x y : Bool) → x ≡ true → (x || y) ≡ true
or_left true y e = refl
or_left false y e = not_both e refl

pub or_right : (x y : Bool) → y ≡ true → (x || y) ≡ true
or_right true y e = refl
or_right false y e = e

pub or_inv : {P : Type 0} (x y : Bool) → (x || y) ≡ true → (x ≡ true → P) → (y ≡ true → P) → P
or_inv true y e f g = f refl
or_inv false y e f g = g e

-- where `if test { flag = true; }` leaves the flag off, it was off, and the test failed
pub flag_off : {A B : Type 0} (f old : Bool) → (A × (f ≡ true)) ⊎ (B × (f ≡ old)) → f ≡ false → (old ≡ false) × B
flag_off f old (inl w) h = not_both w.1 h
flag_off f old (inr w) h = (sym w.1 ∙ h, w.0)
