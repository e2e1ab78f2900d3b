-- The kinds of records, and the kind at a place.
-- Assumes nothing.
use Prim.Native.Nat.{ℕ, zero, suc, ◌+◌, ◌<◌}
use mathlib.Core.Path.{◌≡◌, refl, ap, ◌∙◌}
use mathlib.Core.Bool.{Bool, true, false, ◌||◌}
use mathlib.Core.List.{List, [], ◌∷◌}
use native.Mathlib.Numerals.{add-one}
use native.Mathlib.Omega.{arith}
use borrow.Author.Tests.{eqb-true, eq-eqb}
use lib.Dec.{eqb}
use lib.ListN.{length, get_or, drop}
use lib.Seq.{drop-cons}
use Rattle.text_classes.specs.Runs.{stands}
use Rattle.text_classes.proofs.Conds.{not_both}
use Rattle.text_classes.proofs.FirstLaws.{stands_there}
use Rattle.built_values.specs.Values.{SimpleKey, StringToken, ScalarPart}
use Rattle.built_values.specs.Answers.{kinds_of}
use Rattle.built_values.specs.Checkers.{is_string, is_scalar_part, is_simple_key}

pub length_kinds : (records : List (List ℕ)) → length (kinds_of records) ≡ length records
unfolding kinds_of
length_kinds [] = refl
length_kinds (r ∷ records) = ap suc (length_kinds records)

pub kind_is : (records : List (List ℕ)) (i : ℕ) (d : List ℕ) → i < length records
    → get_or (get_or records i d) 0 0 ≡ get_or (kinds_of records) i 0
unfolding kinds_of
kind_is [] i d h = absurd (omega arith)
kind_is (r ∷ records) zero d h = refl
kind_is (r ∷ records) (suc i) d h = kind_is records i d (omega arith)

-- ---- lists of kinds

pub tails : {a b : ℕ} {s t : List ℕ} → a ∷ s ≡ b ∷ t → s ≡ t
tails e = cc

pub tops : {a b : ℕ} {s t : List ℕ} → a ∷ s ≡ b ∷ t → a ≡ b
tops e = cc

pub not_nil : {a : ℕ} {s : List ℕ} → [] ≡ a ∷ s → ⊥
not_nil e = let z : ◌≡◌ {A = ℕ} 0 1 = cc in omega arith

pub at_cons : (s : List ℕ) (i : ℕ) → i < length s → drop i s ≡ get_or s i 0 ∷ drop (i + 1) s
at_cons s i h = rw add-one (drop-cons s i 0 h)

-- a kind that stands at a place is the first of what is left there
pub stands_cons : (q : ℕ) (s : List ℕ) (i : ℕ) → stands q (drop i s) ≡ true → drop i s ≡ q ∷ drop (i + 1) s
stands_cons q s i t =
    let there = stands_there q s i t in
    at_cons s i there.0 ∙ ap (λ (k : ℕ). k ∷ drop (i + 1) s) there.1

pub stands_not : (q : ℕ) {s u : List ℕ} → stands q s ≡ false → s ≡ q ∷ u → ⊥
stands_not q {s} {u} e p = not_both (ap (stands q) p ∙ eq-eqb q q refl) e

-- ---- the tests are the rules'

pub is_string_lem : (k : ℕ) → is_string k ≡ true → StringToken k
is_string_lem k = go (eqb k 1) (eqb k 2) (eqb k 34) (eqb k 39) refl refl refl refl
  where
    go : (x y z w : Bool) → eqb k 1 ≡ x → eqb k 2 ≡ y → eqb k 34 ≡ z → eqb k 39 ≡ w → (x || (y || (z || w))) ≡ true → StringToken k
    go true y z w p q r s h = rw (eqb-true k 1 p) StringToken.ml_literal
    go false true z w p q r s h = rw (eqb-true k 2 q) StringToken.ml_basic
    go false false true w p q r s h = rw (eqb-true k 34 r) StringToken.basic
    go false false false true p q r s h = rw (eqb-true k 39 s) StringToken.literal
    go false false false false p q r s h = not_both h refl

pub string_is : {k : ℕ} → StringToken k → is_string k ≡ true
string_is StringToken.ml_basic = refl
string_is StringToken.basic = refl
string_is StringToken.ml_literal = refl
string_is StringToken.literal = refl

pub is_part : (k : ℕ) → is_scalar_part k ≡ true → ScalarPart k
is_part k = go (eqb k 3) (eqb k 46) refl refl
  where
    go : (x y : Bool) → eqb k 3 ≡ x → eqb k 46 ≡ y → (x || y) ≡ true → ScalarPart k
    go true y p q h = rw (eqb-true k 3 p) ScalarPart.atom
    go false true p q h = rw (eqb-true k 46 q) ScalarPart.dot
    go false false p q h = not_both h refl

pub part_is : {k : ℕ} → ScalarPart k → is_scalar_part k ≡ true
part_is ScalarPart.atom = refl
part_is ScalarPart.dot = refl

pub is_simple : (k : ℕ) → is_simple_key k ≡ true → SimpleKey k
is_simple k = go (eqb k 3) (eqb k 34) (eqb k 39) refl refl refl
  where
    go : (x y z : Bool) → eqb k 3 ≡ x → eqb k 34 ≡ y → eqb k 39 ≡ z → (x || (y || z)) ≡ true → SimpleKey k
    go true y z p q r h = rw (eqb-true k 3 p) SimpleKey.unquoted
    go false true z p q r h = rw (eqb-true k 34 q) SimpleKey.basic
    go false false true p q r h = rw (eqb-true k 39 r) SimpleKey.literal
    go false false false p q r h = not_both h refl

pub simple_is : {k : ℕ} → SimpleKey k → is_simple_key k ≡ true
simple_is SimpleKey.unquoted = refl
simple_is SimpleKey.basic = refl
simple_is SimpleKey.literal = refl
