-- The pieces of each body are fine.
-- Assumes nothing.
use Rattle.std.specs.Prelude.{Option, None}
use Prim.Native.Nat.{ℕ, suc, ◌+◌, ◌≤◌, ◌<◌}
use mathlib.Core.Path.{◌≡◌, refl}
use mathlib.Core.Bool.{Bool, true, false, ◌&&◌}
use mathlib.Core.List.{List, [], ◌++◌}
use native.Mathlib.Omega.{arith}
use lib.ListN.{length, drop, get_or, length-drop}
use borrow.Author.Tests.{ne_eqb}
use Rattle.text_classes.specs.Classes.{wschar, literal_char, basic_unescaped, unquoted_char}
use Rattle.text_classes.specs.Runs.{run}
use Rattle.text_classes.proofs.Conds.{cond_case, by_eq}
use Rattle.text_classes.proofs.RunLaws.{run_le, run_step, there}
use Rattle.decoder_rules.specs.declared.Piece.{Piece}
use Rattle.decoder_rules.specs.declared.Edition.{Edition}
use Rattle.decoder_rules.specs.declared.Encoding.{Encoding}
use Rattle.decoder_rules.specs.declared.Encoding.TheVariants.{LiteralString, BasicString, MlLiteralString, MlBasicString, UnquotedKey}
use Rattle.decoder_rules.specs.Encodings.{mll_plain, mlb_plain, basic_invalid, mlb_invalid}
use Rattle.decoder_rules.specs.declared.Given.TheVariants.{Copy}
use Rattle.decoder_rules.specs.declared.Wrong.{Wrong}
use Rattle.decoder_rules.specs.Pieces.{collect}
use Rattle.decoder_rules.specs.Bodies.{literal_piece, ml_literal_piece, basic_piece, skips, escaped_nl, escaped_more, mlb_content, ml_basic_piece, key_piece, piece_of}
use Rattle.decoder_rules.proofs.PlaceForms.{literal_piece_is, ml_literal_piece_is, basic_piece_is, line_by, escaped_nl_is, escaped_more_is, content_is, ml_basic_piece_is, key_piece_is}
use Rattle.decoder_rules.proofs.PieceLaws.{collect_step}
use Rattle.decoder_rules.proofs.Fine.{FineAt, Fine, fine_copy, fine_drop}
use Rattle.decoder_rules.proofs.EscapeLaws.{escape_fine}

-- a byte of the class begins a run of at least one
pub run_some : (f : ℕ → Bool) (s : List ℕ) → 0 < length s → f (get_or s 0 0) ≡ true → 0 < run f s
run_some f s h e = omega (arith, run_step f s 0 h e)

pub invalid_basic : (b : ℕ) → basic_unescaped b ≡ false → (b ≡ 0x5C → ⊥) → basic_invalid b ≡ true
unfolding basic_invalid
invalid_basic b e f = rw (e, ne_eqb _ _ f)

pub invalid_mlb : (b : ℕ) → mlb_plain b ≡ false → (b ≡ 0x5C → ⊥) → (b ≡ 0x0D → ⊥) → mlb_invalid b ≡ true
unfolding mlb_invalid
invalid_mlb b e f g = rw (e, ne_eqb _ _ f, ne_eqb _ _ g)

module _ (at : ℕ) (s : List ℕ) (h : 0 < length s) where
  abbrev Good : Piece → Type 0
  Good p = FineAt p s

  -- a run that starts here, as one piece
  fine_run : (f : ℕ → Bool) (w : Option Wrong) → f (get_or s 0 0) ≡ true
      → FineAt (record { take = run f s; given = Copy; verdict = w; dropping = false }) s
  fine_run f w e = fine_copy (run f s) w s (run_some f s h e) (run_le f s)

  fine_one : (w : Option Wrong) → FineAt (record { take = 1; given = Copy; verdict = w; dropping = false }) s
  fine_one w = fine_copy 1 w s (omega arith) h

  literal_fine : FineAt (literal_piece at s) s
  literal_fine = rw literal_piece_is (cond_case Good (literal_char (get_or s 0 0)) (fine_run literal_char None) (λ e. fine_one _))

  ml_literal_fine : FineAt (ml_literal_piece at s) s
  ml_literal_fine =
      rw ml_literal_piece_is
      (cond_case Good (mll_plain (get_or s 0 0)) (fine_run mll_plain None)
      λ e. by_eq Good (get_or s 0 0) 0x0D (λ f. by_eq Good (get_or s 1 0) 0x0A (λ g. fine_one _) (λ g. fine_one _)) (λ f. fine_one _))

  basic_fine : (v : Edition) → FineAt (basic_piece v at s) s
  basic_fine v =
      rw basic_piece_is
      (cond_case Good (basic_unescaped (get_or s 0 0)) (fine_run basic_unescaped None)
      λ e. by_eq Good (get_or s 0 0) 0x5C (λ f. escape_fine v at s (drop 1 s) (omega (arith, length-drop 1 s)))
      (λ f. fine_run basic_invalid _ (invalid_basic (get_or s 0 0) e f)))

  -- a line-ending escape, where t stands after the backslash at the front of s
  line_fine : (t : List ℕ) (w : ℕ) → length s ≡ suc (length t) → w ≤ length t → FineAt (line_by at w (get_or t w 0) (get_or t (w + 1) 0)) s
  line_fine t w long l =
      by_eq Good (get_or t w 0) 0x0A (λ e. let k = there t w (omega arith) in fine_drop (2 + w) _ s (omega arith) (omega arith))
      λ e. by_eq Good (get_or t w 0) 0x0D
      (λ f.
      let k = there t w (omega arith) in
      by_eq Good (get_or t (w + 1) 0) 0x0A
      (λ g. let m = there t (w + 1) (omega arith) in fine_drop (3 + w) _ s (omega arith) (omega arith))
      (λ g. fine_drop (2 + w) _ s (omega arith) (omega arith)))
      (λ f. fine_drop (1 + w) _ s (omega arith) (omega arith))

  escaped_fine : (t : List ℕ) → length s ≡ suc (length t) → FineAt (escaped_nl at t) s
  escaped_fine t long = rw escaped_nl_is (line_fine t (run wschar t) long (run_le wschar t))

  more_fine : FineAt (escaped_more at s) s
  more_fine =
      rw escaped_more_is
      (by_eq Good (get_or s 0 0) 0x0D
      (λ e. by_eq Good (get_or s 1 0) 0x0A
      (λ f. let k = there s 1 (omega arith) in fine_drop 2 _ s (omega arith) (omega arith))
      (λ f. fine_drop 1 _ s (omega arith) h))
      (λ e. fine_drop 1 _ s (omega arith) h))

  content_fine : (v : Edition) → FineAt (mlb_content v at s) s
  content_fine v =
      rw content_is
      (cond_case Good (mlb_plain (get_or s 0 0)) (fine_run mlb_plain None)
      λ e. by_eq Good (get_or s 0 0) 0x5C
      (λ f. cond_case Good (skips (get_or s 1 0))
      (λ g. escaped_fine (drop 1 s) (omega (arith, length-drop 1 s)))
      (λ g. escape_fine v at s (drop 1 s) (omega (arith, length-drop 1 s))))
      λ f. by_eq Good (get_or s 0 0) 0x0D
      (λ g. by_eq Good (get_or s 1 0) 0x0A
      (λ i. let k = there s 1 (omega arith) in fine_copy 2 _ s (omega arith) (omega arith))
      (λ i. fine_one _))
      (λ g. fine_run mlb_invalid _ (invalid_mlb (get_or s 0 0) e f g)))

  ml_basic_fine : (v : Edition) (d : Bool) → FineAt (ml_basic_piece v d at s) s
  ml_basic_fine v d = rw ml_basic_piece_is (cond_case Good (d && skips (get_or s 0 0)) (λ e. more_fine) (λ e. content_fine v))

  key_fine : FineAt (key_piece at s) s
  key_fine = rw key_piece_is (cond_case Good (unquoted_char (get_or s 0 0)) (fine_run unquoted_char None) (λ e. fine_one _))

pub piece_fine : (e : Encoding) → Fine (piece_of e)
piece_fine LiteralString d at s h = literal_fine at s h
piece_fine MlLiteralString d at s h = ml_literal_fine at s h
piece_fine (BasicString v) d at s h = basic_fine at s h v
piece_fine (MlBasicString v) d at s h = ml_basic_fine at s h v d
piece_fine UnquotedKey d at s h = key_fine at s h

-- ---- what is collected of a body, without the count of bytes to skip

module _ {A : Type 0} (e : Encoding) (g : Piece → List ℕ → List A) where
  -- of no bytes nothing
  pub collected_none : (d : Bool) (at : ℕ) → collect (piece_of e) g 0 d at [] ≡ []
  collected_none d at = refl

  -- else what g says of the first piece p, and then what is collected of the rest after the bytes that it takes
  pub collected_step : (d : Bool) (at : ℕ) (s : List ℕ) → 0 < length s
      → let p = piece_of e d at s in
      collect (piece_of e) g 0 d at s ≡ g p s ++ collect (piece_of e) g 0 p.dropping (at + p.take) (drop p.take s)
  collected_step d at s h = collect_step (piece_of e) g d at s h (piece_fine e d at s h).some
