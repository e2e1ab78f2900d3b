-- `deep_from` computes `Deep`; and what a turn of the loop that computes it shows.
-- Assumes nothing.
use Prim.Native.Nat.{ℕ, zero, suc, ◌+◌, ◌≤◌, ◌<◌}
use mathlib.Core.Path.{◌≡◌, refl, ap, ◌∙◌}
use mathlib.Core.Bool.{Bool, true, false, cond}
use mathlib.Core.List.{List, [], ◌∷◌}
use mir.Val.{bool_byte}
use native.Mathlib.Omega.{arith}
use borrow.Author.Tests.{ltb-true, ltb-false}
use lib.Dec.{ltb}
use lib.ListN.{length, get_or, take, drop, drop_of_length-le}
use Rattle.text_classes.proofs.Conds.{cond_case, not_both}
use Rattle.text_refusals.specs.Refusals.{depth}
use Rattle.built_values.specs.Depth.{is_opening, is_closing, count_if, Deep}
use Rattle.built_values.specs.Told.{passes, deep_from}
use Rattle.built_values.proofs.KindLaws.{at_cons}

-- two comparisons that hold at once are the same test
pub same_test : (a b c d : ℕ) → (a < b → c < d) → (c < d → a < b) → ltb a b ≡ ltb c d
same_test a b c d f g = go (ltb a b) (ltb c d) refl refl
  where
    go : (x y : Bool) → ltb a b ≡ x → ltb c d ≡ y → x ≡ y
    go true true p q = refl
    go true false p q = let h = f (ltb-true a b p) in absurd (omega (arith, ltb-false c d q))
    go false true p q = let h = g (ltb-true c d q) in absurd (omega (arith, ltb-false a b p))
    go false false p q = refl

pub counted : (x y : Bool) (n : ℕ) → n ≡ bool_byte x → x ≡ y → (n ≡ cond y 1 0) × (n ≤ 1)
counted x true n e f = let one : n ≡ 1 = e ∙ ap bool_byte f in (one, omega arith)
counted x false n e f = let none : n ≡ 0 = e ∙ ap bool_byte f in (none, omega arith)

-- ---- a turn of the loop: o and k are what it adds to the opening and to the closing brackets

module _ (ks : List ℕ) (i opened closed o k : ℕ) (h : i < length ks)
    (p : o ≡ cond (is_opening (get_or ks i 0)) 1 0) (q : k ≡ cond (is_closing (get_or ks i 0)) 1 0) where
  turn : deep_from opened closed (drop i ks)
      ≡ cond (passes (opened + o) (closed + k)) true (deep_from (opened + o) (closed + k) (drop (i + 1) ks))
  unfolding deep_from
  turn = ap (deep_from opened closed) (at_cons ks i h) ∙ rw (← p, ← q)

  pub deep_now : passes (opened + o) (closed + k) ≡ true → deep_from opened closed (drop i ks) ≡ true
  deep_now e = turn ∙ rw e

  pub deep_later : passes (opened + o) (closed + k) ≡ false
      → deep_from opened closed (drop i ks) ≡ deep_from (opened + o) (closed + k) (drop (i + 1) ks)
  deep_later e = turn ∙ rw e

pub deep_never : (ks : List ℕ) (i opened closed : ℕ) → length ks ≤ i → deep_from opened closed (drop i ks) ≡ false
unfolding deep_from
deep_never ks i opened closed h = ap (deep_from opened closed) (drop_of_length-le ks h)

-- ---- what it computes

-- after so many opening and closing brackets, some first part of s passes the depth
abbrev DeepAfter : ℕ → ℕ → List ℕ → Type 0
DeepAfter opened closed s =
    (n : ℕ) × (closed + count_if is_closing (take n s) + depth < opened + count_if is_opening (take n s))

computed : (opened closed : ℕ) (s : List ℕ) → deep_from opened closed s ≡ true → DeepAfter opened closed s
unfolding deep_from count_if
computed opened closed [] = λ e. not_both e refl
computed opened closed (k ∷ s) =
    let o = opened + cond (is_opening k) 1 0 in
    let c = closed + cond (is_closing k) 1 0 in
    cond_case (λ x. x ≡ true → DeepAfter opened closed (k ∷ s)) (passes o c)
    (λ t e. (1, omega (arith, ltb-true (c + depth) o t)))
    (λ t e. let d = computed o c s e in (suc d.0, omega (arith, d.1)))

found : (opened closed : ℕ) (s : List ℕ) → passes opened closed ≡ false → DeepAfter opened closed s
    → deep_from opened closed s ≡ true
unfolding deep_from count_if
found opened closed s f (zero, h) = absurd (omega (arith, ltb-false (closed + depth) opened f))
found opened closed [] f (suc n, h) = absurd (omega (arith, ltb-false (closed + depth) opened f))
found opened closed (k ∷ s) f (suc n, h) =
    cond_case (λ x. x ≡ true) (passes (opened + cond (is_opening k) 1 0) (closed + cond (is_closing k) 1 0)) (λ t. refl)
    (λ t. found (opened + cond (is_opening k) 1 0) (closed + cond (is_closing k) 1 0) s t (n, omega (arith, h)))

pub deep_is : (s : List ℕ) → deep_from 0 0 s ≡ true → Deep s
deep_is s e = let d = computed 0 0 s e in (d.0, omega (arith, d.1))

pub is_deep : (s : List ℕ) → Deep s → deep_from 0 0 s ≡ true
is_deep s (n, h) = found 0 0 s refl (n, omega (arith, h))

pub not_deep : (s : List ℕ) → deep_from 0 0 s ≡ false → Deep s → ⊥
not_deep s e d = not_both (is_deep s d) e
