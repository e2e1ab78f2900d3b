-- The pieces of an ml-basic body, on bytes: what each reads, and what a piece without error is.
use Prim.Native.Nat.{ℕ, suc, ◌+◌, ◌≤◌, ◌<◌}
use mathlib.Core.Path.{◌≡◌, refl, sym, ◌∙◌, ap, subst}
use mathlib.Core.Bool.{Bool, true, false, cond}
use mathlib.Core.List.{List, [], ◌∷◌, ◌++◌, append_assoc}
use native.Mathlib.Omega.{arith}
use native.Mathlib.Nat.{add-zero}
use lib.ListN.{length, take, drop, get_or, length-append, take-append-drop}
use lib.Seq.{drop_at, get_or-drop}
use lib.Dec.{eqb}
use borrow.Author.Tests.{eqb-true, ne_eqb}
use Rattle.text_classes.specs.Classes.{wschar, mlb_unescaped}
use Rattle.text_classes.specs.Runs.{run, first_is}
use Rattle.text_classes.proofs.Conds.{cond_case, by_eq, or_left, or_inv}
use Rattle.text_scalars.specs.Utf8.{encode_scalar}
use Rattle.text_scalars.proofs.EncodeLaws.{parts}
use Rattle.decoder_rules.specs.declared.Edition.{Edition}
use Rattle.decoder_rules.specs.declared.Piece.{Piece}
use Rattle.std.specs.Prelude.{None}
use Rattle.decoder_rules.specs.declared.Encoding.TheVariants.{MlBasicString as MlBasicText}
use Rattle.decoder_rules.specs.Encodings.{mlb_plain}
use Rattle.decoder_rules.specs.Pieces.{Pieces, copy_piece, drop_piece}
use Rattle.decoder_rules.specs.Escapes.{escape_piece}
use Rattle.decoder_rules.specs.Bodies.{skips, escaped_line, escaped_nl, escaped_more, mlb_content, ml_basic_piece, piece_of}
use Rattle.decoder_rules.proofs.PieceLaws.{wrong≢none}
use Rattle.decoder_rules.proofs.PlaceForms.{escaped_nl_is, escaped_more_is, content_is, ml_basic_piece_is}
use Rattle.decoder_rules.proofs.AsciiLaws.{mlb_high}
use Rattle.theorems_grammar.specs.Grammar.{x20, x09, Newline, x0A, x0D-0A, EscapeSeqChar, Ws, MlbUnescaped, WscharNewline, newline}
use Rattle.theorems_grammar.proofs.ListLaws.{first_splits, two_split}
use Rattle.theorems_grammar.proofs.Encoded.{side, ascii, beyond}
use Rattle.theorems_grammar.proofs.Reading.{IfClean, CopiesRuns, Reads, ReadsChars, ReadsNewlines, reads_char, reads_plain, reads_copy, reads_drop}
use Rattle.theorems_grammar.proofs.ClassLaws.{wschar_is, basic_at, mlb_basic, mlb_same}
use Rattle.theorems_grammar.proofs.Escapes.{shape, EscapedAt, escape_inv}

-- ---- plain bytes

pub char_plain : {c : ℕ} → MlbUnescaped c → mlb_plain c ≡ true
unfolding mlb_plain
char_plain {c} class = or_left (mlb_unescaped c) _ (mlb_same c ∙ basic_at (mlb_basic.0 class))

lf_plain : mlb_plain 0x0A ≡ true
unfolding mlb_plain mlb_unescaped
lf_plain = refl

pub mark_plain : mlb_plain 0x22 ≡ true
unfolding mlb_plain mlb_unescaped
mark_plain = refl

-- ---- what a line-ending backslash is

pub visible_out : (b : ℕ) → 0x21 ≤ b → skips b ≡ false
unfolding skips wschar
visible_out b h =
    rw (
      ne_eqb b 0x20 (λ e. omega arith),
      ne_eqb b 0x09 (λ e. omega arith),
      ne_eqb b 0x0A (λ e. omega arith),
      ne_eqb b 0x0D (λ e. omega arith),
    )

ws_run : {w n : List ℕ} → Ws w → Newline n → (s : List ℕ) → run wschar (w ++ (n ++ s)) ≡ length w
unfolding wschar run
ws_run Ws.stop x0A s = refl
ws_run Ws.stop x0D-0A s = refl
ws_run (Ws.more x20 w) n s = ap suc (ws_run w n s)
ws_run (Ws.more x09 w) n s = ap suc (ws_run w n s)

line_front : {w n : List ℕ} → Ws w → Newline n → (s : List ℕ) → first_is skips (w ++ (n ++ s)) ≡ true
unfolding skips wschar
line_front Ws.stop x0A s = refl
line_front Ws.stop x0D-0A s = refl
line_front (Ws.more x20 w) n s = refl
line_front (Ws.more x09 w) n s = refl

line_at : (at : ℕ) {w n : List ℕ} → Ws w → Newline n → (s : List ℕ)
    → escaped_nl at (w ++ (n ++ s)) ≡ drop_piece (1 + (length w + length n))
unfolding escaped_nl
line_at at {w} {n} blanks line s = rw (ws_run blanks line s, drop_at w (n ++ s) (length w) refl) (by_line line)
  where
    by_line : {n : List ℕ} → Newline n → escaped_line at (length w) (n ++ s) ≡ drop_piece (1 + (length w + length n))
    by_line x0A = ap drop_piece (omega arith)
    by_line x0D-0A = ap drop_piece (omega arith)

-- after a line-ending backslash the bytes r are blanks, a newline, and `rest`
pub record Ended (r : List ℕ) : Type 0 where
  pub blanks : List ℕ
  pub line : List ℕ
  pub rest : List ℕ
  pub split : r ≡ blanks ++ (line ++ rest)
  pub are_blanks : Ws blanks
  pub is_newline : Newline line

ws_taken : (r : List ℕ) → Ws (take (run wschar r) r)
unfolding run
ws_taken [] = Ws.stop
ws_taken (b ∷ r) = by_test (wschar b) refl (ws_taken r)
  where
    by_test : (test : Bool) → wschar b ≡ test → Ws (take (run wschar r) r) → Ws (take (cond test (suc (run wschar r)) 0) (b ∷ r))
    by_test true is rest = Ws.more (wschar_is b is) rest
    by_test false is rest = Ws.stop

ended : (at : ℕ) (r : List ℕ) → (escaped_nl at r).verdict ≡ None → Ended r
ended at r =
    rw escaped_nl_is
    (by_eq (IfClean (Ended r)) (get_or r blank_len 0) 0x0A
    (λ is clean. let split = first_splits onward 0x0A (omega arith) (zeroth ∙ is) in found (0x0A ∷ []) split.0 x0A split.1)
    λ _. by_eq (IfClean (Ended r)) (get_or r blank_len 0) 0x0D
    (λ is. by_eq (IfClean (Ended r)) (get_or r (blank_len + 1) 0) 0x0A
    (λ lf clean.
    let split = two_split onward 0x0D 0x0A (omega arith) (omega arith) (zeroth ∙ is) (get_or-drop blank_len r 1 0 ∙ lf) in
    found (0x0D ∷ (0x0A ∷ [])) split.0 x0D-0A split.1)
    (λ not-lf clean. absurd (wrong≢none clean)))
    (λ not-cr clean. absurd (wrong≢none clean)))
  where
    blank_len : ℕ
    blank_len = run wschar r

    onward : List ℕ
    onward = drop blank_len r

    zeroth : get_or onward 0 0 ≡ get_or r blank_len 0
    zeroth = get_or-drop blank_len r 0 0 ∙ ap (λ (i : ℕ). get_or r i 0) (add-zero blank_len)

    found : (n rest : List ℕ) → Newline n → onward ≡ n ++ rest → Ended r
    found n rest line splits =
        record {
          blanks = take blank_len r;
          line = n;
          rest = rest;
          split = sym (take-append-drop blank_len r) ∙ ap (λ text. take blank_len r ++ text) splits;
          are_blanks = ws_taken r;
          is_newline = line;
        }

-- ---- what a line-ending backslash drops

pub skip_some : {t : List ℕ} → WscharNewline t → 0 < length t
skip_some (WscharNewline.wschar w) = omega arith
skip_some (newline x0A) = omega arith
skip_some (newline x0D-0A) = omega arith

-- at the byte b, which r follows, the line-ending escape has ended, or it drops one byte or two
pub data Skipped (b : ℕ) (r : List ℕ) : Type 0 where
  is_out : skips b ≡ false → Skipped b r
  is_one : WscharNewline (b ∷ []) → Skipped b r
  is_two : (s : List ℕ) → b ≡ 0x0D → r ≡ 0x0A ∷ s → Skipped b r

skip_is : (b : ℕ) → skips b ≡ true → (b ≡ 0x0D → ⊥) → WscharNewline (b ∷ [])
unfolding skips
skip_is b skipped not-cr =
    or_inv (wschar b) _ skipped (λ is. WscharNewline.wschar (wschar_is b is))
    (λ test. or_inv (eqb b 0x0A) (eqb b 0x0D) test
    (λ is. subst (λ y. WscharNewline (y ∷ [])) (sym (eqb-true b 0x0A is)) (newline x0A))
    (λ is. absurd (not-cr (eqb-true b 0x0D is))))

-- in one edition of TOML
module _ (ed : Edition) where
  abbrev pub pieces : Pieces
  pieces = piece_of (MlBasicText ed)

  -- ---- plain bytes, newlines and escapes are read

  plain : CopiesRuns pieces mlb_plain
  unfolding ml_basic_piece mlb_content run
  plain at b s is = rw is

  pub char_reads : ReadsChars pieces mlb_plain
  char_reads = reads_char pieces mlb_plain plain mlb_high

  crlf_piece : (at : ℕ) (s : List ℕ) → pieces false at (0x0D ∷ (0x0A ∷ s)) ≡ copy_piece 2
  unfolding ml_basic_piece mlb_content mlb_plain mlb_unescaped
  crlf_piece at s = refl

  pub newline_reads : ReadsNewlines pieces
  newline_reads n x0A at s = reads_plain pieces mlb_plain plain at 0x0A s lf_plain
  newline_reads n x0D-0A at s = reads_copy pieces false at (0x0D ∷ (0x0A ∷ [])) s (crlf_piece at s) (omega arith)

  slash_piece : (at : ℕ) (r : List ℕ) → pieces false at (0x5C ∷ r) ≡ cond (first_is skips r) (escaped_nl at r) (escape_piece ed at r)
  unfolding ml_basic_piece mlb_content mlb_plain mlb_unescaped
  slash_piece at r = refl

  pub escape_piece_lem : {t : List ℕ} {v : ℕ} → EscapeSeqChar ed t v → (at : ℕ) (s : List ℕ)
      → pieces false at (0x5C ∷ (t ++ s)) ≡ escape_piece ed at (t ++ s)
  escape_piece_lem {t} char at s =
      let form = shape char in
      let out : first_is skips (t ++ s) ≡ false =
      ap (λ x. first_is skips (x ++ s)) form.is ∙ visible_out form.letter (omega (arith, form.visible)) in
      slash_piece at (t ++ s) ∙ rw out

  -- ---- a line-ending backslash is read, and what it drops

  pub line_reads : {w n : List ℕ} → Ws w → Newline n → (at : ℕ) (s : List ℕ)
      → Reads pieces false at ((0x5C ∷ (w ++ n)) ++ s) [] true s
  line_reads {w} {n} blanks line at s =
      let long : length (0x5C ∷ (w ++ n)) ≡ 1 + (length w + length n) = ap suc (length-append w n) ∙ omega arith in
      let piece : pieces false at ((0x5C ∷ (w ++ n)) ++ s) ≡ drop_piece (1 + (length w + length n)) =
      rw (append_assoc w n s) (slash_piece at (w ++ (n ++ s)) ∙ rw (line_front blanks line s) (line_at at blanks line s)) in
      reads_drop pieces false at (0x5C ∷ (w ++ n)) s (piece ∙ ap drop_piece (sym long)) (omega arith)

  skip_piece : (at : ℕ) (s : List ℕ) {t : List ℕ} → WscharNewline t → pieces true at (t ++ s) ≡ drop_piece (length t)
  unfolding ml_basic_piece skips wschar escaped_more
  skip_piece at s (WscharNewline.wschar x20) = refl
  skip_piece at s (WscharNewline.wschar x09) = refl
  skip_piece at s (newline x0A) = refl
  skip_piece at s (newline x0D-0A) = refl

  pub skip_reads : {t : List ℕ} → WscharNewline t → (at : ℕ) (s : List ℕ) → Reads pieces true at (t ++ s) [] true s
  skip_reads {t} skip at s = reads_drop pieces true at t s (skip_piece at s skip) (skip_some skip)

  -- a byte that is no blank and no newline ends the line-ending escape
  same_piece : (at b : ℕ) (s : List ℕ) → skips b ≡ false → pieces true at (b ∷ s) ≡ pieces false at (b ∷ s)
  unfolding ml_basic_piece
  same_piece at b s out = rw out

  pub out_reads : (at b : ℕ) (s : List ℕ) → skips b ≡ false → Reads pieces true at (b ∷ s) [] false (b ∷ s)
  out_reads at b s out = record { to = at; place = refl; quiet = rw (same_piece at b s out); bytes = rw (same_piece at b s out) }

  pub char_out : (c at : ℕ) (s : List ℕ) → skips c ≡ false
      → Reads pieces true at (encode_scalar c ++ s) [] false (encode_scalar c ++ s)
  char_out c at s visible =
      let char = parts c in
      let out : skips char.first ≡ false = elim (side c) [
        | ascii size ↦ ap skips (char.same size) ∙ visible
        | beyond size ↦ visible_out char.first (omega (arith, char.more size))
      ] in
      rw char.whole (out_reads at char.first (char.tails ++ s) out)

  -- ---- a piece without error

  pub data Content (b : ℕ) (r : List ℕ) : Type 0 where
    is_plain : mlb_plain b ≡ true → Content b r
    is_crlf : (s : List ℕ) → b ≡ 0x0D → r ≡ 0x0A ∷ s → Content b r
    is_escape : b ≡ 0x5C → EscapedAt ed r → Content b r
    is_ended : b ≡ 0x5C → Ended r → Content b r

  pub content_inv : (at b : ℕ) (r : List ℕ) → (pieces false at (b ∷ r)).verdict ≡ None → Content b r
  content_inv at b r =
      let Claim : Piece → Type 0 = IfClean (Content b r) in
      rw (ml_basic_piece_is, content_is)
      (cond_case Claim (mlb_plain b) (λ plain clean. is_plain plain)
      λ _. by_eq Claim b 0x5C
      (λ is. cond_case Claim (skips (get_or r 0 0)) (λ skip clean. is_ended is (ended at r clean))
      (λ no-skip clean. is_escape is (escape_inv ed at r clean)))
      λ _. by_eq Claim b 0x0D
      (λ is. by_eq Claim (get_or r 0 0) 0x0A
      (λ lf clean. let split = first_splits r 0x0A (omega arith) lf in is_crlf split.0 is split.1)
      (λ not-lf clean. absurd (wrong≢none clean)))
      (λ not-cr clean. absurd (wrong≢none clean)))

  -- within a line-ending escape
  pub skip_inv : (at b : ℕ) (r : List ℕ) → (pieces true at (b ∷ r)).verdict ≡ None → Skipped b r
  skip_inv at b r =
      let Claim : Piece → Type 0 = IfClean (Skipped b r) in
      rw (ml_basic_piece_is, escaped_more_is)
      (cond_case Claim (skips b)
      (λ test. by_eq Claim b 0x0D
      (λ is. by_eq Claim (get_or r 0 0) 0x0A
      (λ lf clean. let split = first_splits r 0x0A (omega arith) lf in is_two split.0 is split.1)
      (λ not-lf clean. absurd (wrong≢none clean)))
      (λ not-cr clean. is_one (skip_is b test not-cr)))
      (λ out clean. is_out out))
