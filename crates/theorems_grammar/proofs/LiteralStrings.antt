-- Literal strings: the decoder's pieces and the grammar.
use Prim.Native.Nat.{ℕ, ◌<◌}
use mathlib.Core.Path.{◌≡◌, refl, sym, ◌∙◌, subst}
use mathlib.Core.Bool.{true, false}
use mathlib.Core.List.{List, [], ◌∷◌, ◌++◌, append-nil}
use native.Mathlib.Omega.{arith}
use Rattle.text_classes.specs.Classes.{literal_char}
use Rattle.text_classes.specs.Runs.{run}
use Rattle.text_classes.proofs.Conds.{cond_case}
use Rattle.text_scalars.specs.Utf8.{Scalar, encode_scalar, encodes, All}
use Rattle.text_scalars.proofs.EncodeLaws.{encode_1}
use Rattle.decoder_rules.specs.declared.Encoding.TheVariants.{LiteralString as LiteralText}
use Rattle.std.specs.Prelude.{None}
use Rattle.decoder_rules.specs.Pieces.{Pieces}
use Rattle.decoder_rules.specs.Bodies.{literal_piece, piece_of}
use Rattle.decoder_rules.specs.Decoding.{bytes_of, errors_of}
use Rattle.decoder_rules.proofs.PieceLaws.{wrong≢none}
use Rattle.decoder_rules.proofs.AsciiLaws.{literal_high}
use Rattle.theorems_grammar.specs.Grammar.{LiteralChars, stop, more, LiteralString, literal_string}
use Rattle.theorems_grammar.proofs.Encoded.{side, ascii, beyond}
use Rattle.theorems_grammar.proofs.Reading.{IfClean, CopiesRuns, ErrorFree, ReadsAs, ReadsChars, reads_none, reads_then, reads_char, first_clean}
use Rattle.theorems_grammar.proofs.ClassLaws.{literal_at, literal_is}
use Rattle.theorems_grammar.proofs.LineMarks.{line_errors, line_bytes, line_text}

abbrev pieces : Pieces
pieces = piece_of LiteralText

-- ---- the pieces, on bytes

plain : CopiesRuns pieces literal_char
unfolding literal_piece run
plain at b s class = rw class

clean : (at b : ℕ) (r : List ℕ) → (pieces false at (b ∷ r)).verdict ≡ None → literal_char b ≡ true
unfolding literal_piece
clean at b r =
    cond_case (IfClean (literal_char b ≡ true)) (literal_char b) (λ test clean-piece. test)
    (λ test clean-piece. absurd (wrong≢none clean-piece))

char_reads : ReadsChars pieces literal_char
char_reads = reads_char pieces literal_char plain literal_high

-- a code point that is read without error is of the class
char_clean : (c at : ℕ) (s : List ℕ) → ErrorFree pieces false at (encode_scalar c ++ s) → literal_char c ≡ true
char_clean c at s clean-text = elim (side c) [
  | ascii size ↦ clean at c s (first_clean pieces false at c s (rw (encode_1 c size) at clean-text))
  | beyond size ↦ literal_high c size
]

-- ---- from the grammar, and to it

chars_read : {cs : List ℕ} → LiteralChars cs → ReadsAs pieces cs cs
chars_read stop at = reads_none pieces false at []
chars_read (more {c} {s} class rest) at =
    let first = char_reads c at (encodes s) (literal_at class) in
    reads_then pieces first (chars_read rest first.to)

chars_clean : (cs : List ℕ) → All Scalar cs → (at : ℕ) → ErrorFree pieces false at (encodes cs) → LiteralChars cs
chars_clean [] scalars at clean-text = stop
chars_clean (c ∷ cs) scalars at clean-text =
    let class = char_clean c at (encodes cs) clean-text in
    let first = char_reads c at (encodes cs) class in
    more (literal_is c scalars.0 class) (chars_clean cs scalars.1 first.to (sym first.quiet ∙ clean-text))

-- ---- the text

-- a derived text has no error, and its bytes are its value's
pub literal_complete : {cs v : List ℕ} → LiteralString cs v
    → (errors_of LiteralText (encodes cs) ≡ []) × (bytes_of LiteralText (encodes cs) ≡ encodes v)
literal_complete (literal_string {s} chars) =
    let reading = chars_read chars 1 in
    let low : 0x27 < 0x80 = omega arith in (
      line_errors LiteralText 0x27 low (λ t. refl) s ∙ reading.quiet,
      line_bytes LiteralText 0x27 low (λ t. refl) s ∙ (reading.bytes ∙ append-nil (encodes s)),
    )

-- a text without error is derived
pub literal_sound : (cs : List ℕ) → All Scalar cs → errors_of LiteralText (encodes cs) ≡ [] → (v : List ℕ) × LiteralString cs v
literal_sound cs scalars clean-text =
    let parts = line_text LiteralText 0x27 (omega arith) (λ t. refl) cs scalars clean-text in
    let chars = chars_clean parts.body parts.each 1 parts.clean in
    (parts.body, subst (λ x. LiteralString x parts.body) (sym parts.text) (literal_string chars))
