-- A replacement is a basic string that each edition of TOML derives with its value; so it is UTF-8, and decodes to that value without
-- an error. Bytes and code points are spelt alike.
use Prim.Native.Nat.{ℕ, ◌≤◌, ◌<◌}
use mathlib.Core.Path.{◌≡◌, refl, sym, ◌∙◌, ap, subst}
use mathlib.Core.Bool.{true, false}
use mathlib.Core.List.{List, [], ◌∷◌, ◌++◌, append-nil}
use native.Mathlib.Decide.{dec_lt, ℕ_discrete}
use native.Mathlib.Omega.{arith}
use borrow.Author.Tests.{eqb-true, eqb-false, ltb-true, ltb-false, ne_eqb, eq-eqb, le-leb, lt-leb, lt-ltb}
use lib.Dec.{eqb, ltb}
use Rattle.text_classes.specs.Classes.{basic_unescaped}
use Rattle.text_classes.proofs.Conds.{cond_case, not_both, or_inv, or_left, or_right}
use Rattle.text_scalars.specs.Utf8.{Scalar, All, encode_scalar, encodes, Utf8}
use Rattle.text_scalars.proofs.EncodeLaws.{encode_1}
use Rattle.text_scalars.proofs.ReadLaws.{encodes_append}
use Rattle.decoder_rules.specs.declared.Edition.{Edition}
use Rattle.decoder_rules.specs.declared.Edition.TheVariants.{Toml10}
use Rattle.decoder_rules.specs.declared.Encoding.TheVariants.{BasicString as BasicText}
use Rattle.decoder_rules.specs.Decoding.{bytes_of, errors_of}
use Rattle.theorems_grammar.specs.Grammar.{x22, x5C, BasicChars, BasicString, basic_string}
use Rattle.theorems_grammar.specs.Strings.{basic}
use Rattle.theorems_grammar.proofs.Encoded.{ascii, beyond, side, ascii_whole, char_bytes}
use Rattle.theorems_grammar.proofs.LineMarks.{marked, encodes_marked}
use Rattle.theorems_grammar.proofs.NameLaws.{basic_names}
use Rattle.theorems_grammar.proofs.BasicStrings.{basic_complete}
use Rattle.theorems_grammar.proofs.ScalarTexts.{derived_scalar}
use Rattle.theorems_writing.proofs.Spelling.{Spelled, plainly, shortly, by_code, spelled_derived, spelled_ascii, one_char}
use Rattle.built_mending.specs.Mending.{slashed, coded, respell, respelt, replacement}
use Rattle.built_mending.proofs.SpellLaws.{high_is, respelt_append, respelt_high}

-- ---- one character

coded_low : (c : ℕ) → coded c ≡ true → c < 0x80
coded_low c h =
    or_inv (ltb c 0x20) (eqb c 0x7F) h (λ f. omega (arith, ltb-true c 0x20 f)) (λ f. omega (arith, eqb-true c 0x7F f))

-- what is neither escaped nor coded may stand in a basic string
own_plain : (c : ℕ) → (c ≡ 0x22 → ⊥) → (c ≡ 0x5C → ⊥) → (c ≡ 0x7F → ⊥) → 0x20 ≤ c → basic_unescaped c ≡ true
unfolding basic_unescaped
own_plain c mark slash del low = elim (ℕ_discrete c 0x20) [
  | yes e ↦ rw e refl
  | no n ↦ elim (ℕ_discrete c 0x21) [
    | yes e ↦ rw e refl
    | no m ↦
        let tab = ne_eqb c 0x09 (λ e. omega arith) in
        elim (dec_lt c 0x5C) [
          | yes h ↦ rw (ne_eqb c 0x20 n, tab, ne_eqb c 0x21 m, le-leb 0x23 c (omega arith), le-leb c 0x5B (omega arith))
          | no h ↦
              let above = lt-leb c 0x5B (omega arith) in
              let from = le-leb 0x23 c (omega arith) in
              elim (dec_lt c 0x7F) [
                | yes l ↦ rw (ne_eqb c 0x20 n, tab, ne_eqb c 0x21 m, from, above, le-leb 0x5D c (omega arith), le-leb c 0x7E (omega arith))
                | no l ↦ rw (ne_eqb c 0x20 n, tab, ne_eqb c 0x21 m, from, above, le-leb 0x5D c (omega arith), lt-leb c 0x7E (omega arith), le-leb 0x80 c (omega arith))
              ]
        ]
  ]
]

respelled : (c : ℕ) → Spelled c (respell c)
unfolding respell
respelled c =
    cond_case (Spelled c) (slashed c)
    (λ h. or_inv (eqb c 0x22) (eqb c 0x5C) h
    (λ e. rw (eqb-true c 0x22 e) (shortly (λ ed. x22) (omega arith) (omega arith)))
    (λ e. rw (eqb-true c 0x5C e) (shortly (λ ed. x5C) (omega arith) (omega arith))))
    (λ n. cond_case (Spelled c) (coded c) (λ h. by_code (coded_low c h))
    (λ m. plainly (own_plain c
    (λ e. not_both (or_left (eqb c 0x22) (eqb c 0x5C) (eq-eqb c 0x22 e)) n)
    (λ e. not_both (or_right (eqb c 0x22) (eqb c 0x5C) (eq-eqb c 0x5C e)) n)
    (λ e. not_both (or_right (ltb c 0x20) (eqb c 0x7F) (eq-eqb c 0x7F e)) m)
    (elim (dec_lt c 0x20) [
      | yes l ↦ not_both (or_left (ltb c 0x20) (eqb c 0x7F) (lt-ltb c 0x20 l)) m
      | no l ↦ omega arith
    ]))))

-- ---- a value

respelt_one : (c : ℕ) → respelt (c ∷ []) ≡ respell c
unfolding respelt
respelt_one c = append-nil (respell c)

respelt_char : (c : ℕ) → respelt (encode_scalar c) ≡ encodes (respell c)
respelt_char c = elim (side c) [
  | ascii h ↦ ap respelt (encode_1 c h) ∙ respelt_one c ∙ sym (ascii_whole (respell c) (spelled_ascii h (respelled c)))
  | beyond h ↦
      respelt_high (encode_scalar c) (char_bytes (λ b l. l) c h) ∙ sym (one_char c) ∙ sym (ap encodes (high_is c h))
]

respelt_bytes : (v : List ℕ) → respelt (encodes v) ≡ encodes (respelt v)
unfolding respelt
respelt_bytes [] = refl
respelt_bytes (c ∷ v) =
    respelt_append (encode_scalar c) (encodes v) ∙ ap (λ (l : List ℕ). l ++ respelt (encodes v)) (respelt_char c)
    ∙ ap (λ (l : List ℕ). encodes (respell c) ++ l) (respelt_bytes v) ∙ sym (encodes_append (respell c) (respelt v))

respelt_derived : (ed : Edition) (v : List ℕ) → All Scalar v → BasicChars ed (respelt v) v
unfolding respelt
respelt_derived ed [] h = BasicChars.stop
respelt_derived ed (c ∷ v) h = BasicChars.more (spelled_derived h.0 (respelled c)) (respelt_derived ed v h.1)

-- ---- the string

module _ (v : List ℕ) (scalar : All Scalar v) where
  abbrev points : List ℕ
  points = marked 0x22 (respelt v)

  derived : (ed : Edition) → BasicString ed points v
  derived ed = basic_string (respelt_derived ed v scalar)

  bytes_are : encodes points ≡ replacement (encodes v)
  bytes_are = encodes_marked 0x22 (omega arith) (respelt v) ∙ ap (marked 0x22) (sym (respelt_bytes v))

  decodes : (ed : Edition) → (errors_of (BasicText ed) (replacement (encodes v)) ≡ []) × (bytes_of (BasicText ed) (replacement (encodes v)) ≡ encodes v)
  decodes ed =
      let all = basic_complete ed (derived ed) (basic_names (derived ed) scalar) in
      (ap (errors_of (BasicText ed)) (sym bytes_are) ∙ all.0, ap (bytes_of (BasicText ed)) (sym bytes_are) ∙ all.1)

pub string_decodes : (ed : Edition) (value : List ℕ) → Utf8 value
    → (errors_of (BasicText ed) (replacement value) ≡ []) × (bytes_of (BasicText ed) (replacement value) ≡ value)
string_decodes ed value (v, scalar, is) =
    subst (λ (x : List ℕ). (errors_of (BasicText ed) (replacement x) ≡ []) × (bytes_of (BasicText ed) (replacement x) ≡ x)) is
    (decodes v scalar ed)

pub string_utf8 : (value : List ℕ) → Utf8 value → Utf8 (replacement value)
string_utf8 value (v, scalar, is) =
    (points v scalar, derived_scalar Toml10 basic (points v scalar) v (derived v scalar Toml10, scalar), bytes_are v scalar ∙ ap replacement is)
