-- The theorems of specs/Apart.antt, by one induction over the calls: a reviewer's own call keeps two tables alike that were,
-- and anyone else's call keeps a table alike to the other.
-- Assumes nothing.
use Prim.Native.Nat.{ℕ}
use mathlib.Core.Path.{◌≡◌, refl, sym, ap, ◌∙◌}
use mathlib.Core.Bool.{true, false}
use mathlib.Core.List.{List, [], ◌∷◌, map}
use native.Mathlib.Omega.{arith}
use borrow.Author.Tests.{eqb-true, eqb-false}
use lib.ListN.{take}
use lib.Dec.{eqb}
use Rattle.text_classes.proofs.Conds.{cond_case}
use Rattle.built_review.specs.Review.{bit}
use Rattle.built_review.specs.Apart.{ReviewCall, caller, tells, leaves, after, own, told_to, Alike}
use Rattle.built_review.specs.Apart.{ToldAlone, ToldByOwn, BitsByOwn, OthersStay, UnusedStay, RestStays}
use Rattle.built_review.proofs.StepLaws.{leaves_length, leaves_rest, leaves_other, leaves_alike, tells_alike}

module _ (reviewer records : ℕ) where
  -- ---- one more call

  alike_own : (s t : List ℕ) (c : ReviewCall) → caller c ≡ reviewer → Alike reviewer records s t
      → Alike reviewer records (leaves records s c) (leaves records t c)
  alike_own s t c e a = rw (← e) (leaves_alike records s t c (rw e a))

  alike_other : (s t : List ℕ) (c : ReviewCall) → (caller c ≡ reviewer → ⊥) → Alike reviewer records s t
      → Alike reviewer records (leaves records s c) t
  alike_other s t c n a = record {
    long = leaves_length records s c ∙ a.long;
    bits = ap (take records) (leaves_other records s reviewer c (λ _. n)) ∙ a.bits;
  }

  told_own : (s : List ℕ) (c : ReviewCall) (calls : List ReviewCall) → eqb (caller c) reviewer ≡ true
      → told_to reviewer records s (c ∷ calls) ≡ tells records s c ∷ told_to reviewer records (leaves records s c) calls
  unfolding told_to
  told_own s c calls e = rw e

  told_other : (s : List ℕ) (c : ReviewCall) (calls : List ReviewCall) → eqb (caller c) reviewer ≡ false
      → told_to reviewer records s (c ∷ calls) ≡ told_to reviewer records (leaves records s c) calls
  unfolding told_to
  told_other s c calls e = rw e

  -- ---- the induction: P of a table with some calls, and of one that is alike with the reviewer's calls alone

  module _ (P : List ℕ → List ReviewCall → List ℕ → List ReviewCall → Type 0)
      (none_left : (s t : List ℕ) → Alike reviewer records s t → P s [] t [])
      (own-next : (s t : List ℕ) (c : ReviewCall) (calls mine : List ReviewCall) → eqb (caller c) reviewer ≡ true
      → Alike reviewer records s t → P (leaves records s c) calls (leaves records t c) mine → P s (c ∷ calls) t (c ∷ mine))
      (other-next : (s t : List ℕ) (c : ReviewCall) (calls mine : List ReviewCall) → eqb (caller c) reviewer ≡ false
      → P (leaves records s c) calls t mine → P s (c ∷ calls) t mine) where
    by_calls : (calls : List ReviewCall) (s t : List ℕ) → Alike reviewer records s t → P s calls t (own reviewer calls)
    unfolding own
    by_calls [] s t a = none_left s t a
    by_calls (c ∷ calls) s t a =
        let mine = own reviewer calls in
        cond_case (P s (c ∷ calls) t) (eqb (caller c) reviewer)
        (λ e.
        let next = by_calls calls (leaves records s c) (leaves records t c) (alike_own s t c (eqb-true _ _ e) a) in
        own-next s t c calls mine e a next)
        (λ e. other-next s t c calls mine e (by_calls calls (leaves records s c) t (alike_other s t c (eqb-false _ _ e) a)))

-- ---- what a reviewer is told

pub told_alone : ToldAlone
unfolding told_to
told_alone reviewer records marks others calls =
    by_calls reviewer records (λ s some t mine. told_to reviewer records s some ≡ told_to reviewer records t mine)
    (λ s t a. refl)
    (λ s t c some mine e a next.
    let same : tells records s c ≡ tells records t c = tells_alike records s t c (rw (eqb-true (caller c) reviewer e) a) in
    told_own reviewer records s c some e ∙ rw (same, next) (sym (told_own reviewer records t c mine e)))
    (λ s t c some mine e next. told_other reviewer records s c some e ∙ next)
    calls marks others

pub told_by_own : ToldByOwn
told_by_own reviewer records marks others calls more a e =
    told_alone reviewer records marks others calls a ∙ ap (told_to reviewer records others) e
    ∙ sym (told_alone reviewer records others others more record { long = refl; bits = refl })

-- ---- what becomes of the table

some_not_none : {c : ReviewCall} {calls : List ReviewCall} → c ∷ calls ≡ [] → ⊥
some_not_none e = let z : ◌≡◌ {A = ℕ} 0 1 = cc in omega arith

pub bits_by_own : BitsByOwn
unfolding after
bits_by_own reviewer records marks others calls =
    by_calls reviewer records (λ s some t mine. Alike reviewer records (after records s some) (after records t mine))
    (λ s t a. a) (λ s t c some mine e a next. next) (λ s t c some mine e next. next) calls marks others

pub others_stay : OthersStay
unfolding after own
others_stay reviewer records marks [] = λ e. refl
others_stay reviewer records marks (c ∷ calls) =
    cond_case (λ mine. mine ≡ [] → map (bit reviewer) (after records (leaves records marks c) calls) ≡ map (bit reviewer) marks)
    (eqb (caller c) reviewer) (λ t e. absurd (some_not_none e))
    (λ t e.
    others_stay reviewer records (leaves records marks c) calls e
    ∙ leaves_other records marks reviewer c (λ _. eqb-false (caller c) reviewer t))

pub unused_stay : UnusedStay
unfolding after
unused_stay k h records marks [] = refl
unused_stay k h records marks (c ∷ calls) =
    unused_stay k h records (leaves records marks c) calls ∙ leaves_other records marks k c (λ known e. omega arith)

pub rest_stays : RestStays
unfolding after
rest_stays records marks [] = refl
rest_stays records marks (c ∷ calls) = rest_stays records (leaves records marks c) calls ∙ leaves_rest records marks c
