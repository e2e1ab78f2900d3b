-- Basic strings: the decoder's pieces and the grammar.
use Prim.Native.Nat.{ℕ, ◌+◌, ◌≤◌, ◌<◌}
use mathlib.Core.Path.{◌≡◌, refl, sym, ◌∙◌, ap, subst}
use mathlib.Core.Logic.{◌⊎◌, inl, inr}
use mathlib.Core.Bool.{true, false}
use mathlib.Core.List.{List, [], ◌∷◌, ◌++◌, append-nil}
use native.Mathlib.Omega.{arith}
use lib.ListN.{length, length-append}
use Rattle.text_classes.specs.Classes.{basic_unescaped}
use Rattle.text_classes.specs.Runs.{run}
use Rattle.text_classes.proofs.Conds.{cond_case, by_eq}
use Rattle.text_scalars.specs.Utf8.{Scalar, encodes, All}
use Rattle.text_scalars.proofs.EncodeLaws.{encode_1}
use Rattle.text_scalars.proofs.CutLaws.{all_parts}
use Rattle.decoder_rules.specs.declared.Edition.{Edition}
use Rattle.decoder_rules.specs.declared.Encoding.TheVariants.{BasicString as BasicText}
use Rattle.std.specs.Prelude.{None}
use Rattle.decoder_rules.specs.Pieces.{notes_at, Pieces, collect}
use Rattle.decoder_rules.specs.Escapes.{escape_piece}
use Rattle.decoder_rules.specs.Bodies.{basic_piece, piece_of}
use Rattle.decoder_rules.specs.Decoding.{bytes_of, errors_of}
use Rattle.decoder_rules.proofs.PieceLaws.{wrong≢none}
use Rattle.decoder_rules.proofs.AsciiLaws.{basic_high}
use Rattle.theorems_tokens.proofs.ByLength.{by_length}
use Rattle.theorems_grammar.specs.Grammar.{escaped, unescaped, escaped_char, BasicChars, stop, more, BasicString, basic_string}
use Rattle.theorems_grammar.specs.Scalars.{CharsName, BasicNames}
use Rattle.theorems_grammar.proofs.Encoded.{side, ascii, beyond, encodes_ascii, ascii_led}
use Rattle.theorems_grammar.proofs.Reading.{IfClean, CopiesRuns, ErrorFree, ReadsAs, ReadsChars, reads_none, reads_then, reads_char, first_clean}
use Rattle.theorems_grammar.proofs.ClassLaws.{basic_at, basic_is}
use Rattle.theorems_grammar.proofs.Escapes.{escape_ascii, escape_reads, EscapedAt, escape_inv}
use Rattle.theorems_grammar.proofs.LineMarks.{marked, line_errors, line_bytes, line_text}

-- in one edition of TOML
module _ (ed : Edition) where
  abbrev pieces : Pieces
  pieces = piece_of (BasicText ed)

  -- ---- the pieces, on bytes

  plain : CopiesRuns pieces basic_unescaped
  unfolding basic_piece run
  plain at b s class = rw class

  slash : (at : ℕ) (s : List ℕ) → pieces false at (0x5C ∷ s) ≡ escape_piece ed at s
  unfolding basic_piece basic_unescaped
  slash at s = refl

  -- a piece without error is of the class, or an escape
  abbrev Good : ℕ → List ℕ → Type 0
  Good b r = (basic_unescaped b ≡ true) ⊎ ((b ≡ 0x5C) × EscapedAt ed r)

  clean : (at b : ℕ) (r : List ℕ) → (pieces false at (b ∷ r)).verdict ≡ None → Good b r
  unfolding basic_piece
  clean at b r =
      cond_case (IfClean (Good b r)) (basic_unescaped b) (λ test clean-piece. inl test)
      λ test. by_eq (IfClean (Good b r)) b 0x5C (λ is-slash clean-piece. inr (is-slash, escape_inv ed at r clean-piece))
      (λ is-slash clean-piece. absurd (wrong≢none clean-piece))

  char_reads : ReadsChars pieces basic_unescaped
  char_reads = reads_char pieces basic_unescaped plain basic_high

  -- ---- from the grammar

  chars_read : {cs v : List ℕ} (d : BasicChars ed cs v) → CharsName d → ReadsAs pieces cs v
  chars_read stop names at = reads_none pieces false at []
  chars_read (more {r = r} (unescaped {c} class) rest) names at =
      let first = char_reads c at (encodes r) (basic_at class) in reads_then pieces first (chars_read rest names.1 first.to)
  chars_read (more {r = r} (escaped_char (escaped {t} char)) rest) names at =
      let first = escape_reads pieces char names.0 at (encodes r) (slash at (t ++ encodes r)) in
      rw (encodes_ascii (0x5C ∷ t) r (omega arith, escape_ascii char))
      (reads_then pieces first (chars_read rest names.1 first.to))

  -- ---- to the grammar

  abbrev Chars : List ℕ → Type 0
  Chars cs = (v : List ℕ) × (d : BasicChars ed cs v) × CharsName d

  put_char : (c : ℕ) (cs : List ℕ) → Scalar c → basic_unescaped c ≡ true → Chars cs → Chars (c ∷ cs)
  put_char c cs scalar class (v, chars, names) = (c ∷ v, more (unescaped (basic_is c scalar class)) chars, (tt, names))

  put_escape : (s : List ℕ) (escape : EscapedAt ed s) (r : List ℕ) → Chars r → Chars (0x5C ∷ (escape.text ++ r))
  put_escape s escape r (v, chars, names) =
      (escape.value ∷ v, more (escaped_char (escaped escape.char)) chars, (escape.names, names))

  -- code points without error are derived
  abbrev CharsIf : List ℕ → Type 0
  CharsIf cs = All Scalar cs → (at : ℕ) → ErrorFree pieces false at (encodes cs) → Chars cs

  module _ (n : ℕ) (shorter : (ds : List ℕ) → length ds ≤ n → CharsIf ds) (c : ℕ) (cs : List ℕ) (few : length cs ≤ n)
      (scalars : All Scalar (c ∷ cs)) (at : ℕ) (clean-text : ErrorFree pieces false at (encodes (c ∷ cs))) where
    char_clean : basic_unescaped c ≡ true → Chars (c ∷ cs)
    char_clean class =
        let reading = char_reads c at (encodes cs) class in
        put_char c cs scalars.0 class (shorter cs few scalars.1 reading.to (sym reading.quiet ∙ clean-text))

    escape_clean : (escape : EscapedAt ed (encodes cs)) → ErrorFree pieces false at (0x5C ∷ encodes cs) → Chars (0x5C ∷ cs)
    escape_clean escape clean-escape =
        let led = ascii_led escape.text cs escape.rest (escape_ascii escape.char) escape.split in
        let reading =
        escape_reads pieces escape.char escape.names at escape.rest (slash at (escape.text ++ escape.rest)) in
        let clean-left : ErrorFree pieces false reading.to (encodes led.rest) =
        rw led.bytes
        (sym reading.quiet ∙ (sym (ap (λ y. collect pieces notes_at 0 false at (0x5C ∷ y)) escape.split) ∙ clean-escape)) in
        let scalars-left : All Scalar led.rest =
        (all_parts Scalar escape.text led.rest (subst (All Scalar) led.text scalars.1)).1 in
        let lengths : length cs ≡ length escape.text + length led.rest =
        ap length led.text ∙ length-append escape.text led.rest in
        let chars = shorter led.rest (omega arith) scalars-left reading.to clean-left in
        subst (λ y. Chars (0x5C ∷ y)) (sym led.text) (put_escape (encodes cs) escape led.rest chars)

    some_clean : Chars (c ∷ cs)
    some_clean = elim (side c) [
      | beyond size ↦ char_clean (basic_high c size)
      | ascii size ↦
          let clean-bytes : ErrorFree pieces false at (c ∷ encodes cs) = rw (encode_1 c size) at clean-text in
          elim (clean at c (encodes cs) (first_clean pieces false at c (encodes cs) clean-bytes)) [
            | inl class ↦ char_clean class
            | inr escaped-here ↦
                let clean-escape = subst (λ y. ErrorFree pieces false at (y ∷ encodes cs)) escaped-here.0 clean-bytes in
                subst (λ y. Chars (y ∷ cs)) (sym escaped-here.0) (escape_clean escaped-here.1 clean-escape)
          ]
    ]

  chars_clean : (cs : List ℕ) → CharsIf cs
  chars_clean cs = by_length CharsIf (λ scalars at clean-text. ([], stop, tt)) some_clean (length cs) cs (omega arith)

  -- ---- the text

  -- a derived text has no error, and its bytes are its value's
  pub basic_complete : {cs v : List ℕ} (chars : BasicString ed cs v) → BasicNames chars
      → (errors_of (BasicText ed) (encodes cs) ≡ []) × (bytes_of (BasicText ed) (encodes cs) ≡ encodes v)
  basic_complete (basic_string {t} {v} chars) names =
      let reading = chars_read chars names 1 in
      let low : 0x22 < 0x80 = omega arith in (
        line_errors (BasicText ed) 0x22 low (λ t. refl) t ∙ reading.quiet,
        line_bytes (BasicText ed) 0x22 low (λ t. refl) t ∙ (reading.bytes ∙ append-nil (encodes v)),
      )

  -- a text without error is derived
  pub basic_sound : (cs : List ℕ) → All Scalar cs → errors_of (BasicText ed) (encodes cs) ≡ []
      → (v : List ℕ) × (d : BasicString ed cs v) × BasicNames d
  basic_sound cs scalars clean-text =
      let parts = line_text (BasicText ed) 0x22 (omega arith) (λ t. refl) cs scalars clean-text in
      subst (λ x. (v : List ℕ) × (d : BasicString ed x v) × BasicNames d) (sym parts.text)
      (put parts.body (chars_clean parts.body parts.each 1 parts.clean))
    where
      put : (m : List ℕ) → Chars m → (v : List ℕ) × (d : BasicString ed (marked 0x22 m) v) × BasicNames d
      put m (v, d, names) = (v, basic_string d, names)
