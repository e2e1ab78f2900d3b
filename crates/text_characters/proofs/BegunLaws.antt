-- How many bytes begin a character as the first one asks: how each count comes about, that there is one count only, and
-- that `begun_by` computes it.
-- Assumes nothing.
use Prim.Native.Nat.{ℕ, ◌≤◌}
use mathlib.Core.Path.{◌≡◌}
use mathlib.Core.Bool.{true, false, ◌&&◌}
use native.Mathlib.Omega.{arith}
use native.Mathlib.Decide.{dec_lt}
use lib.Dec.{leb}
use borrow.Author.Tests.{leb-true, le-leb}
use Rattle.text_characters.specs.declared.Lead.{Lead}
use Rattle.text_characters.specs.Lead.{Among, Begun, goes_on, begun_by}
use Rattle.text_classes.proofs.Conds.{cond_case, not_both, both_left, both_right}

-- ---- one byte more

module _ (l : Lead) (left : ℕ) where
  goes_on_lem : (n low high x : ℕ) → goes_on l left n low high x ≡ true → ((n ≤ l.0) × (n ≤ left)) × Among low high x
  goes_on_lem n low high x e =
      let p = both_left (leb n l.0 && leb n left) (leb low x && leb x high) e in
      let q = both_right (leb n l.0 && leb n left) (leb low x && leb x high) e in (
        (leb-true _ _ (both_left (leb n l.0) (leb n left) p), leb-true _ _ (both_right (leb n l.0) (leb n left) p)),
        (leb-true _ _ (both_left (leb low x) (leb x high) q), leb-true _ _ (both_right (leb low x) (leb x high) q)),
      )

  goes_not : (n low high x : ℕ) → goes_on l left n low high x ≡ false → n ≤ l.0 → n ≤ left → Among low high x → ⊥
  goes_not n low high x e h k a =
      let t : goes_on l left n low high x ≡ true = simp (le-leb _ _ h, le-leb _ _ k, le-leb _ _ a.0, le-leb _ _ a.1) in
      not_both t e

-- ---- how each count comes about

module _ {l : Lead} {left b c d : ℕ} where
  pub begun_1 : 1 ≤ left → (2 ≤ l.0 → 2 ≤ left → Among l.1 l.2 b → ⊥) → Begun l left b c d 1
  begun_1 h f = record {
    some = omega arith;
    second = λ n. absurd (omega arith);
    third = λ n. absurd (omega arith);
    fourth = λ n. absurd (omega arith);
    not_second = λ e. f;
    not_third = λ e. absurd (omega arith);
    not_fourth = λ e. absurd (omega arith);
  }

  pub begun_2 : 2 ≤ left → 2 ≤ l.0 → Among l.1 l.2 b → (3 ≤ l.0 → 3 ≤ left → Among 0x80 0xBF c → ⊥) → Begun l left b c d 2
  begun_2 h k s f = record {
    some = omega arith;
    second = λ n. (k, s);
    third = λ n. absurd (omega arith);
    fourth = λ n. absurd (omega arith);
    not_second = λ e. absurd (omega arith);
    not_third = λ e. f;
    not_fourth = λ e. absurd (omega arith);
  }

  pub begun_3 : 3 ≤ left → 3 ≤ l.0 → Among l.1 l.2 b → Among 0x80 0xBF c → (4 ≤ l.0 → 4 ≤ left → Among 0x80 0xBF d → ⊥)
      → Begun l left b c d 3
  begun_3 h k s t f = record {
    some = omega arith;
    second = λ n. (omega arith, s);
    third = λ n. (k, t);
    fourth = λ n. absurd (omega arith);
    not_second = λ e. absurd (omega arith);
    not_third = λ e. absurd (omega arith);
    not_fourth = λ e. f;
  }

  pub begun_4 : 4 ≤ left → 4 ≤ l.0 → Among l.1 l.2 b → Among 0x80 0xBF c → Among 0x80 0xBF d → Begun l left b c d 4
  begun_4 h k s t u = record {
    some = omega arith;
    second = λ n. (omega arith, s);
    third = λ n. (omega arith, t);
    fourth = λ n. (k, u);
    not_second = λ e. absurd (omega arith);
    not_third = λ e. absurd (omega arith);
    not_fourth = λ e. absurd (omega arith);
  }

  -- ---- one count only

  no_more : (r q : ℕ) → Begun l left b c d r → Begun l left b c d q → q ≤ r
  no_more r q h k =
      let h1 = h.some in
      let k1 = k.some in
      elim (dec_lt r q) [
        | no p ↦ omega arith
        | yes p ↦ elim (dec_lt r 2) [
          | yes u ↦ let y = k.second (omega arith) in absurd (h.not_second (omega arith) y.0 (omega arith) y.1)
          | no u ↦ elim (dec_lt r 3) [
            | yes v ↦ let y = k.third (omega arith) in absurd (h.not_third (omega arith) y.0 (omega arith) y.1)
            | no v ↦ let y = k.fourth (omega arith) in absurd (h.not_fourth (omega arith) y.0 (omega arith) y.1)
          ]
        ]
      ]

  pub begun_only : (r q : ℕ) → Begun l left b c d r → Begun l left b c d q → r ≡ q
  begun_only r q h k = omega (arith, no_more r q h k, no_more q r k h)

  -- ---- the computed one

  pub begun_by_lem : 1 ≤ left → Begun l left b c d (begun_by l left b c d)
  unfolding begun_by
  begun_by_lem h =
      cond_case (Begun l left b c d) (goes_on l left 2 l.1 l.2 b)
      (λ e. let s = goes_on_lem l left 2 l.1 l.2 b e in
      cond_case (Begun l left b c d) (goes_on l left 3 0x80 0xBF c)
      (λ f. let t = goes_on_lem l left 3 0x80 0xBF c f in
      cond_case (Begun l left b c d) (goes_on l left 4 0x80 0xBF d)
      (λ g. let u = goes_on_lem l left 4 0x80 0xBF d g in begun_4 u.0.1 u.0.0 s.1 t.1 u.1)
      (λ g. begun_3 t.0.1 t.0.0 s.1 t.1 (goes_not l left 4 0x80 0xBF d g)))
      (λ f. begun_2 s.0.1 s.0.0 s.1 (goes_not l left 3 0x80 0xBF c f)))
      (λ e. begun_1 h (goes_not l left 2 l.1 l.2 b e))
