-- The escapes: their pieces case by case, what their letters and digits are, and that the pieces are fine.
-- Assumes nothing.
use Prim.Native.Nat.{ℕ, suc, ◌+◌, ◌*◌, ◌≤◌, ◌<◌}
use mathlib.Core.Path.{◌≡◌, refl, ap, subst}
use mathlib.Core.Logic.{inl, inr}
use mathlib.Core.Bool.{true, false}
use mathlib.Core.List.{List, [], ◌∷◌, ◌++◌}
use native.Mathlib.Omega.{arith}
use lib.ListN.{length, take, drop, get_or, length-drop}
use lib.Seq.{take-suc}
use native.Mathlib.Numerals.{add-one}
use borrow.Author.Tests.{ne_eqb, lt-ltb, le-ltb}
use Rattle.text_classes.specs.Classes.{hexdig}
use Rattle.text_classes.specs.Runs.{run}
use Rattle.text_classes.proofs.Conds.{cond_case, by_lt, by_eq}
use Rattle.text_classes.proofs.RunLaws.{run_le}
use Rattle.text_scalars.specs.Utf8.{encode_scalar}
use Rattle.text_scalars.specs.Utf8Read.{is_scalar}
use Rattle.text_scalars.proofs.EncodeLaws.{encode_1, encode_length, true_scalar}
use Rattle.decoder_rules.specs.declared.Edition.{Edition}
use Rattle.decoder_rules.specs.declared.Edition.TheVariants.{Toml10, Toml11}
use Rattle.decoder_rules.specs.declared.Letter.{Letter}
use Rattle.decoder_rules.specs.declared.Letter.TheVariants.{Stands, Asks, Neither}
use Rattle.decoder_rules.specs.declared.Piece.{Piece}
use Rattle.decoder_rules.specs.declared.DecodeError.TheVariants.{MissingEscape, FewDigits, NotScalar}
use Rattle.decoder_rules.specs.Pieces.{char_piece, bad_char}
use Rattle.decoder_rules.specs.Escapes.{new_letter, letter_of, letter_at, hex_value, hex_from, hex_piece, escape_by, escape_piece}
use Rattle.decoder_rules.proofs.Fine.{FineAt, fine_char, fine_bad_char}

-- ---- letters

-- a letter that is for something is one visible byte; a character that it stands for is ASCII, and digits that it asks for
-- are two to eight
unfoldable Fit : ℕ → Letter → Type 0
Fit b (Stands c) = (0x22 ≤ b) × (b < 0x80) × (c < 0x80)
Fit b (Asks n) = (0x22 ≤ b) × (b < 0x80) × (2 ≤ n) × (n ≤ 8)
Fit b Neither = Unit {0}

fit_stands : (b c : ℕ) → 0x22 ≤ b → b < 0x80 → c < 0x80 → Fit b (Stands c)
unfolding Fit
fit_stands b c h l k = (h, l, k)

fit_asks : (b n : ℕ) → 0x22 ≤ b → b < 0x80 → 2 ≤ n → n ≤ 8 → Fit b (Asks n)
unfolding Fit
fit_asks b n h l k m = (h, l, k, m)

fit_neither : (b : ℕ) → Fit b Neither
unfolding Fit
fit_neither b = tt

new_fit : (v : Edition) (b : ℕ) → Fit b (new_letter v b)
new_fit Toml10 b = fit_neither b
new_fit Toml11 b =
    by_eq (Fit b) b 0x65 (λ e. fit_stands b 0x1B (omega arith) (omega arith) (omega arith))
    λ _. by_eq (Fit b) b 0x78 (λ e. fit_asks b 2 (omega arith) (omega arith) (omega arith) (omega arith)) (λ _. fit_neither b)

letter_fit : (v : Edition) (b : ℕ) → Fit b (letter_of v b)
unfolding letter_of
letter_fit v b =
    by_eq (Fit b) b 0x22 (λ e. fit_stands b 0x22 (omega arith) (omega arith) (omega arith))
    λ _. by_eq (Fit b) b 0x5C (λ e. fit_stands b 0x5C (omega arith) (omega arith) (omega arith))
    λ _. by_eq (Fit b) b 0x62 (λ e. fit_stands b 0x08 (omega arith) (omega arith) (omega arith))
    λ _. by_eq (Fit b) b 0x66 (λ e. fit_stands b 0x0C (omega arith) (omega arith) (omega arith))
    λ _. by_eq (Fit b) b 0x6E (λ e. fit_stands b 0x0A (omega arith) (omega arith) (omega arith))
    λ _. by_eq (Fit b) b 0x72 (λ e. fit_stands b 0x0D (omega arith) (omega arith) (omega arith))
    λ _. by_eq (Fit b) b 0x74 (λ e. fit_stands b 0x09 (omega arith) (omega arith) (omega arith))
    λ _. by_eq (Fit b) b 0x75 (λ e. fit_asks b 4 (omega arith) (omega arith) (omega arith) (omega arith))
    λ _. by_eq (Fit b) b 0x55 (λ e. fit_asks b 8 (omega arith) (omega arith) (omega arith) (omega arith)) (λ _. new_fit v b)

-- a byte is there, and it is a visible one of ASCII
pub record Visible (s : List ℕ) : Type 0 where
  pub some : 0 < length s
  pub visible : 0x22 ≤ get_or s 0 0
  pub low : get_or s 0 0 < 0x80

module _ (v : Edition) where
  pub stands_fit : (s : List ℕ) (c : ℕ) → letter_at v s ≡ Stands c → Visible s × (c < 0x80)
  unfolding Fit
  stands_fit [] c e = let z : ◌≡◌ {A = ℕ} 0 1 = cc in absurd (omega arith)
  stands_fit (b ∷ s) c e =
      let f : Fit b (Stands c) = subst (Fit b) e (letter_fit v b) in
      (record { some = omega arith; visible = f.0; low = f.1 }, f.2)

  pub asks_fit : (s : List ℕ) (n : ℕ) → letter_at v s ≡ Asks n → Visible s × (2 ≤ n) × (n ≤ 8)
  unfolding Fit
  asks_fit [] n e = let z : ◌≡◌ {A = ℕ} 0 1 = cc in absurd (omega arith)
  asks_fit (b ∷ s) n e =
      let f : Fit b (Asks n) = subst (Fit b) e (letter_fit v b) in
      (record { some = omega arith; visible = f.0; low = f.1 }, f.2, f.3)

-- ---- digits

-- one more digit
pub hex_snoc : (v : ℕ) (s : List ℕ) (b : ℕ) → hex_from v (s ++ (b ∷ [])) ≡ hex_from v s * 16 + hex_value b
unfolding hex_from
hex_snoc v [] b = refl
hex_snoc v (a ∷ s) b = hex_snoc (v * 16 + hex_value a) s b

pub hex_more : (s : List ℕ) (i : ℕ) → i < length s
    → hex_from 0 (take (i + 1) s) ≡ hex_from 0 (take i s) * 16 + hex_value (get_or s i 0)
hex_more s i h = rw (add-one, take-suc s i 0 h) (hex_snoc 0 (take i s) (get_or s i 0))

-- ---- pieces, case by case

module _ (n at : ℕ) (s : List ℕ) where
  pub hex_few : (k : ℕ) → k ≡ run hexdig s → k < n → bad_char (2 + k) 0xFFFD FewDigits (at + (2 + k)) ≡ hex_piece n at s
  unfolding hex_piece
  hex_few k e h =
      let l : run hexdig s < n = omega arith in
      rw (lt-ltb _ _ l, e)

  pub hex_char : (v : ℕ) → n ≤ run hexdig s → v ≡ hex_from 0 (take n s) → is_scalar v ≡ true
      → char_piece (2 + n) v ≡ hex_piece n at s
  unfolding hex_piece
  hex_char v h e t = rw (le-ltb _ _ h, ← e, t)

  pub hex_none : (v : ℕ) → n ≤ run hexdig s → v ≡ hex_from 0 (take n s) → is_scalar v ≡ false
      → bad_char (2 + n) 0xFFFD NotScalar (at + 2) ≡ hex_piece n at s
  unfolding hex_piece
  hex_none v h e t = rw (le-ltb _ _ h, ← e, t)

module _ (v : Edition) (at : ℕ) (s : List ℕ) where
  pub escape_hex : (n : ℕ) → letter_at v s ≡ Asks n → hex_piece n at (drop 1 s) ≡ escape_piece v at s
  unfolding escape_piece
  escape_hex n e = rw e

  pub escape_simple : (c : ℕ) → letter_at v s ≡ Stands c → char_piece 2 c ≡ escape_piece v at s
  unfolding escape_piece
  escape_simple c e = rw e

  pub escape_none : letter_at v s ≡ Neither → bad_char 1 0x5C MissingEscape (at + 1) ≡ escape_piece v at s
  unfolding escape_piece
  escape_none e = rw e

-- ---- they are fine

replacement : length (encode_scalar 0xFFFD) ≡ 3
unfolding encode_scalar
replacement = refl

-- n digits asked for after the first two bytes of s
module _ (n at : ℕ) (s t : List ℕ) (two : 2 ≤ n) (long : 2 + length t ≤ length s) where
  pub hex_fine : FineAt (hex_piece n at t) s
  unfolding hex_piece
  hex_fine =
      let r = run_le hexdig t in
      by_lt (λ (p : Piece). FineAt p s) (run hexdig t) n
      (λ h. fine_bad_char _ 0xFFFD FewDigits _ s (omega arith) (omega arith) (inr (omega arith)) (omega (arith, replacement)))
      λ h. cond_case (λ (p : Piece). FineAt p s) (is_scalar (hex_from 0 (take n t)))
      (λ v.
      let size = encode_length (hex_from 0 (take n t)) in
      fine_char _ _ s (omega arith) (omega arith) (true_scalar _ v) (omega arith))
      (λ v. fine_bad_char _ 0xFFFD NotScalar _ s (omega arith) (omega arith) (inr (omega arith)) (omega (arith, replacement)))

-- an escape, where t stands after the backslash at the front of s
module _ (v : Edition) (at : ℕ) (s t : List ℕ) (long : length s ≡ suc (length t)) where
  pub escape_fine : FineAt (escape_piece v at t) s
  unfolding escape_piece
  escape_fine = go (letter_at v t) refl
    where
      go : (l : Letter) → letter_at v t ≡ l → FineAt (escape_by l at (drop 1 t)) s
      go (Stands c) e =
          let f = stands_fit v t c e in
          let one : length (encode_scalar c) ≡ 1 = ap length (encode_1 c f.1) in
          fine_char 2 c s (omega arith) (omega (arith, f.0.some)) (inl (omega (arith, f.1))) (omega arith)
      go (Asks n) e =
          let f = asks_fit v t n e in
          hex_fine n at s (drop 1 t) f.1 (omega (arith, f.0.some, length-drop 1 t))
      go Neither e =
          let one : length (encode_scalar 0x5C) ≡ 1 = ap length (encode_1 0x5C (omega arith)) in
          fine_bad_char 1 0x5C MissingEscape _ s (omega arith) (omega arith) (inl (omega arith)) (omega arith)
