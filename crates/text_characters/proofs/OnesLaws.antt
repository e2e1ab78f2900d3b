-- The leading ones of a first byte tell what table 3-7 says of it: one test, computed over all bytes.
-- Assumes nothing.
use Prim.Native.Nat.{ℕ, ◌≤◌, ◌<◌}
use mathlib.Core.Path.{◌≡◌, refl, ◌∙◌}
use mathlib.Core.Bool.{cond}
use native.Mathlib.Omega.{arith}
use lib.Count.{count_leading_zeros}
use lib.Dec.{ltb, eqb}
use borrow.Author.Tests.{lt-ltb, le-ltb, eq-eqb, ne_eqb}
use Rattle.text_characters.specs.declared.Lead.{Lead}
use Rattle.text_characters.specs.Lead.{row, lead_of, ones_of}
use Rattle.text_classes.proofs.Conds.{by_lt, by_eq}
use Rattle.text_characters.proofs.LeadLaws.{leads_agree}

-- what a byte with n leading ones, two to four, says: n is the length, except where the table leaves the byte out
abbrev beyond : ℕ → ℕ → Lead
beyond n a =
    cond (ltb a 0xC2) (cond (ltb a 0xC0) (row n 0x80 0xBF) (row 0 0 0))
    (cond (eqb a 0xE0) (row n 0xA0 0xBF)
    (cond (eqb a 0xED) (row n 0x80 0x9F)
    (cond (eqb a 0xF0) (row n 0x90 0xBF)
    (cond (eqb a 0xF4) (row n 0x80 0x8F)
    (cond (ltb a 0xF5) (row n 0x80 0xBF)
    (cond (ltb a 0xF8) (row 0 0 0) (row n 0x80 0xBF)))))))

-- what a byte with n leading ones says: no character begins with one of them, nor with more than four
abbrev by_ones : ℕ → ℕ → Lead
by_ones n a = cond (eqb n 0) (row 1 0 0) (cond (ltb n 2) (row 0 0 0) (cond (ltb 4 n) (row 0 0 0) (beyond n a)))

by_ones_lem : (a : ℕ) → a < 256 → by_ones (ones_of a) a ≡ lead_of a
unfolding lead_of count_leading_zeros
by_ones_lem a h = leads_agree (λ b. by_ones (ones_of b) b) lead_of 0 256 tt a (omega arith) h

-- ---- the tests of the code that reads four bytes at once

abbrev by_tests : ℕ → Lead
by_tests a =
    cond (ltb (ones_of a) 3) (cond (ltb a 0xC2) (lead_of a) (row 2 0x80 0xBF))
    (cond (eqb (ones_of a) 3)
    (cond (eqb a 0xE0) (row 3 0xA0 0xBF) (cond (eqb a 0xED) (row 3 0x80 0x9F) (row 3 0x80 0xBF)))
    (cond (eqb a 0xF0) (row 4 0x90 0xBF)
    (cond (ltb a 0xF4) (row 4 0x80 0xBF) (cond (eqb a 0xF4) (row 4 0x80 0x8F) (lead_of a)))))

by_tests_lem : (a : ℕ) → a < 256 → by_tests a ≡ lead_of a
unfolding lead_of count_leading_zeros
by_tests_lem a h = leads_agree by_tests lead_of 0 256 tt a (omega arith) h

module _ (a : ℕ) (h : a < 256) where
  pub two_ones : ones_of a < 3 → 0xC2 ≤ a → row 2 0x80 0xBF ≡ lead_of a
  two_ones l g = simp (lt-ltb _ _ l, le-ltb _ _ g) at (by_tests_lem a h)

  module _ (e : ones_of a ≡ 3) where
    more_than_two : 3 ≤ ones_of a
    more_than_two = omega arith

    pub three_e0 : a ≡ 0xE0 → row 3 0xA0 0xBF ≡ lead_of a
    three_e0 k = simp (le-ltb _ _ more_than_two, eq-eqb _ _ e, eq-eqb _ _ k) at (by_tests_lem a h)

    pub three_ed : (a ≡ 0xE0 → ⊥) → a ≡ 0xED → row 3 0x80 0x9F ≡ lead_of a
    three_ed m k = simp (le-ltb _ _ more_than_two, eq-eqb _ _ e, ne_eqb _ _ m, eq-eqb _ _ k) at (by_tests_lem a h)

    pub three_rest : (a ≡ 0xE0 → ⊥) → (a ≡ 0xED → ⊥) → row 3 0x80 0xBF ≡ lead_of a
    three_rest m k = simp (le-ltb _ _ more_than_two, eq-eqb _ _ e, ne_eqb _ _ m, ne_eqb _ _ k) at (by_tests_lem a h)

  module _ (l : 3 < ones_of a) where
    at_least : 3 ≤ ones_of a
    at_least = omega arith

    not_three : ones_of a ≡ 3 → ⊥
    not_three e = omega arith

    pub four_f0 : a ≡ 0xF0 → row 4 0x90 0xBF ≡ lead_of a
    four_f0 k = simp (le-ltb _ _ at_least, ne_eqb _ _ not_three, eq-eqb _ _ k) at (by_tests_lem a h)

    pub four_mid : (a ≡ 0xF0 → ⊥) → a < 0xF4 → row 4 0x80 0xBF ≡ lead_of a
    four_mid m k = simp (le-ltb _ _ at_least, ne_eqb _ _ not_three, ne_eqb _ _ m, lt-ltb _ _ k) at (by_tests_lem a h)

    pub four_f4 : (a ≡ 0xF0 → ⊥) → 0xF4 ≤ a → a ≡ 0xF4 → row 4 0x80 0x8F ≡ lead_of a
    four_f4 m g k = simp (le-ltb _ _ at_least, ne_eqb _ _ not_three, ne_eqb _ _ m, le-ltb _ _ g, eq-eqb _ _ k) at (by_tests_lem a h)

-- ---- the cases of the code

-- a is the byte k of an arm
pub ones_key : (a k low high : ℕ) → row (ones_of k) low high ≡ lead_of k → a ≡ k → row (ones_of a) low high ≡ lead_of a
ones_key a k low high f e = rw e f

module _ (a : ℕ) (h : a < 256) where
  pub ones_none : ones_of a ≡ 0 → row 1 0 0 ≡ lead_of a
  ones_none e = simp (eq-eqb _ _ e) at (by_ones_lem a h)

  pub ones_few : (ones_of a ≡ 0 → ⊥) → ones_of a < 2 → row 0 0 0 ≡ lead_of a
  ones_few d l = simp (ne_eqb _ _ d, lt-ltb _ _ l) at (by_ones_lem a h)

  pub ones_many : 4 < ones_of a → row 0 0 0 ≡ lead_of a
  ones_many l =
      let d : ones_of a ≡ 0 → ⊥ = omega arith in
      let least : 2 ≤ ones_of a = omega arith in
      simp (ne_eqb _ _ d, le-ltb _ _ least, lt-ltb _ _ l) at (by_ones_lem a h)

  module _ (least : 2 ≤ ones_of a) (most : ones_of a ≤ 4) where
    within : beyond (ones_of a) a ≡ lead_of a
    within =
        let d : ones_of a ≡ 0 → ⊥ = omega arith in
        simp (ne_eqb _ _ d, le-ltb _ _ least, le-ltb _ _ most) at (by_ones_lem a h)

    -- any other byte
    pub ones_rest : (a ≡ 0xE0 → ⊥) → (a ≡ 0xED → ⊥) → (a ≡ 0xF0 → ⊥) → (a ≡ 0xF4 → ⊥)
        → (0xC0 ≤ a → a < 0xC2 → ⊥) → (0xF5 ≤ a → a < 0xF8 → ⊥) → row (ones_of a) 0x80 0xBF ≡ lead_of a
    ones_rest e0 ed f0 f4 overlong large =
        by_lt P a 0xC2 (λ l. by_lt P a 0xC0 (λ _. refl) (λ g. absurd (overlong g l)))
        (λ _. by_eq P a 0xE0 (λ e. absurd (e0 e))
        (λ _. by_eq P a 0xED (λ e. absurd (ed e))
        (λ _. by_eq P a 0xF0 (λ e. absurd (f0 e))
        (λ _. by_eq P a 0xF4 (λ e. absurd (f4 e))
        (λ _. by_lt P a 0xF5 (λ _. refl)
        (λ g. by_lt P a 0xF8 (λ l. absurd (large g l)) (λ _. refl)))))))
        ∙ within
      where
        P : Lead → Type 0
        P x = row (ones_of a) 0x80 0xBF ≡ x
