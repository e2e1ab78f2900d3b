-- The rules ask whether a byte stands at the front and passes a test. The laws ask for the byte at a place, which past the end
-- reads 0: all these tests fail at 0, so that it is the same. An equation for each rule.
-- Assumes nothing.
use Prim.Native.Nat.{ℕ, ◌+◌}
use mathlib.Core.Path.{◌≡◌, refl}
use mathlib.Core.Bool.{Bool, false, cond, ◌&&◌}
use mathlib.Core.List.{List}
use native.Mathlib.Omega.{arith}
use lib.Dec.{eqb}
use lib.ListN.{drop, get_or}
use lib.Seq.{drop-drop, get_or-drop}
use Rattle.text_classes.specs.Classes.{wschar, literal_char, mll_char, basic_unescaped, mlb_unescaped, unquoted_char}
use Rattle.text_classes.specs.Runs.{run}
use Rattle.text_classes.proofs.FirstLaws.{first_at}
use Rattle.decoder_rules.specs.declared.DecodeError.TheVariants.{LiteralInvalid, LoneCr, MlLiteralInvalid, BasicInvalid, MlBasicInvalid, MissingNewline, KeyInvalid}
use Rattle.decoder_rules.specs.declared.Edition.{Edition}
use Rattle.decoder_rules.specs.declared.Piece.{Piece}
use Rattle.decoder_rules.specs.Encodings.{mll_plain, mlb_plain, basic_invalid, mlb_invalid}
use Rattle.decoder_rules.specs.Pieces.{copy_piece, bad_copy, drop_piece, bad_drop}
use Rattle.decoder_rules.specs.Escapes.{escape_piece}
use Rattle.decoder_rules.specs.Bodies.{literal_piece, ml_literal_piece, basic_piece, skips, escaped_nl, escaped_more, mlb_content, ml_basic_piece, key_piece}
use Rattle.decoder_rules.specs.Marks.{newline_len}

-- ---- 0 passes no test

literal_zero : literal_char 0 ≡ false
unfolding literal_char
literal_zero = refl

mll_zero : mll_plain 0 ≡ false
unfolding mll_plain mll_char
mll_zero = refl

basic_zero : basic_unescaped 0 ≡ false
unfolding basic_unescaped
basic_zero = refl

mlb_zero : mlb_plain 0 ≡ false
unfolding mlb_plain mlb_unescaped
mlb_zero = refl

unquoted_zero : unquoted_char 0 ≡ false
unfolding unquoted_char
unquoted_zero = refl

skips_zero : skips 0 ≡ false
unfolding skips wschar
skips_zero = refl

-- ---- the bodies

module _ (at : ℕ) (s : List ℕ) where
  pub literal_piece_is : literal_piece at s
      ≡ cond (literal_char (get_or s 0 0)) (copy_piece (run literal_char s)) (bad_copy 1 LiteralInvalid at at)
  unfolding literal_piece
  literal_piece_is = rw (first_at literal_char literal_zero s 0)

  pub ml_literal_piece_is : ml_literal_piece at s
      ≡ cond (mll_plain (get_or s 0 0)) (copy_piece (run mll_plain s))
      (cond (eqb (get_or s 0 0) 0x0D) (cond (eqb (get_or s 1 0) 0x0A) (copy_piece 1) (bad_copy 1 LoneCr (at + 1) (at + 1)))
      (bad_copy 1 MlLiteralInvalid at at))
  unfolding ml_literal_piece
  ml_literal_piece_is = rw (first_at mll_plain mll_zero s 0, first_at (λ b. eqb b 0x0D) refl s 0, first_at (λ b. eqb b 0x0A) refl s 1)

  pub basic_piece_is : (v : Edition) → basic_piece v at s
      ≡ cond (basic_unescaped (get_or s 0 0)) (copy_piece (run basic_unescaped s))
      (cond (eqb (get_or s 0 0) 0x5C) (escape_piece v at (drop 1 s))
      (bad_copy (run basic_invalid s) BasicInvalid at (at + run basic_invalid s)))
  unfolding basic_piece
  basic_piece_is v = rw (first_at basic_unescaped basic_zero s 0, first_at (λ b. eqb b 0x5C) refl s 0)

  pub escaped_more_is : escaped_more at s
      ≡ cond (eqb (get_or s 0 0) 0x0D) (cond (eqb (get_or s 1 0) 0x0A) (drop_piece 2) (bad_drop 1 LoneCr (at + 1))) (drop_piece 1)
  unfolding escaped_more
  escaped_more_is = rw (first_at (λ b. eqb b 0x0D) refl s 0, first_at (λ b. eqb b 0x0A) refl s 1)

  pub content_is : (v : Edition) → mlb_content v at s
      ≡ cond (mlb_plain (get_or s 0 0)) (copy_piece (run mlb_plain s))
      (cond (eqb (get_or s 0 0) 0x5C) (cond (skips (get_or s 1 0)) (escaped_nl at (drop 1 s)) (escape_piece v at (drop 1 s)))
      (cond (eqb (get_or s 0 0) 0x0D) (cond (eqb (get_or s 1 0) 0x0A) (copy_piece 2) (bad_copy 1 LoneCr (at + 1) (at + 1)))
      (bad_copy (run mlb_invalid s) MlBasicInvalid at (at + run mlb_invalid s))))
  unfolding mlb_content
  content_is v =
      rw (
        first_at mlb_plain mlb_zero s 0,
        first_at (λ b. eqb b 0x5C) refl s 0,
        first_at skips skips_zero s 1,
        first_at (λ b. eqb b 0x0D) refl s 0,
        first_at (λ b. eqb b 0x0A) refl s 1,
      )

  pub ml_basic_piece_is : (v : Edition) (dropping : Bool) → ml_basic_piece v dropping at s
      ≡ cond (dropping && skips (get_or s 0 0)) (escaped_more at s) (mlb_content v at s)
  unfolding ml_basic_piece
  ml_basic_piece_is v dropping = rw (first_at skips skips_zero s 0)

  pub key_piece_is : key_piece at s
      ≡ cond (unquoted_char (get_or s 0 0)) (copy_piece (run unquoted_char s)) (bad_copy 1 KeyInvalid at at)
  unfolding key_piece
  key_piece_is = rw (first_at unquoted_char unquoted_zero s 0)

-- the line of a line-ending escape, by the bytes b and next after its w blanks
abbrev pub line_by : ℕ → ℕ → ℕ → ℕ → Piece
line_by at w b next =
    cond (eqb b 0x0A) (drop_piece (2 + w))
    (cond (eqb b 0x0D) (cond (eqb next 0x0A) (drop_piece (3 + w)) (bad_drop (2 + w) LoneCr (at + (2 + w))))
    (bad_drop (1 + w) MissingNewline (at + (1 + w))))

pub escaped_nl_is : (at : ℕ) (s : List ℕ)
    → escaped_nl at s ≡ line_by at (run wschar s) (get_or s (run wschar s) 0) (get_or s (run wschar s + 1) 0)
unfolding escaped_nl
escaped_nl_is at s =
    let w = run wschar s in
    rw (drop-drop 1 w s, first_at (λ b. eqb b 0x0A) refl s w, first_at (λ b. eqb b 0x0D) refl s w, first_at (λ b. eqb b 0x0A) refl s (w + 1))

-- the same of an s that begins with the backslash: n bytes are that and the blanks
pub escaped_line_is : (at : ℕ) (s : List ℕ) (n : ℕ) → n ≡ 1 + run wschar (drop 1 s)
    → escaped_nl at (drop 1 s)
    ≡ cond (eqb (get_or s n 0) 0x0A) (drop_piece (n + 1))
    (cond (eqb (get_or s n 0) 0x0D)
    (cond (eqb (get_or s (n + 1) 0) 0x0A) (drop_piece (n + 2)) (bad_drop (n + 1) LoneCr (at + (n + 1))))
    (bad_drop n MissingNewline (at + n)))
escaped_line_is at s n h =
    let w = run wschar (drop 1 s) in
    let one : 1 + w ≡ n = omega arith in
    let two : 2 + w ≡ n + 1 = omega arith in
    let next : 1 + (w + 1) ≡ n + 1 = omega arith in
    let three : 3 + w ≡ n + 2 = omega arith in
    rw (escaped_nl_is at (drop 1 s), get_or-drop 1 s w 0, get_or-drop 1 s (w + 1) 0, next, two, three, one)

-- ---- the newline after an opening

pub newline_len_is : (s : List ℕ)
    → newline_len s ≡ cond (eqb (get_or s 0 0) 0x0A) 1 (cond (eqb (get_or s 0 0) 0x0D && eqb (get_or s 1 0) 0x0A) 2 0)
unfolding newline_len
newline_len_is s = rw (first_at (λ b. eqb b 0x0A) refl s 0, first_at (λ b. eqb b 0x0D) refl s 0, first_at (λ b. eqb b 0x0A) refl s 1)
