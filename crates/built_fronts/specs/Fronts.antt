-- How far a token is known to be sound, from a place within it on. None of it is a rule: no promise of the library cites it.
-- Assumes nothing.
use Rattle.std.specs.Prelude.{◌≡◌, ℕ, ◌+◌, ◌-◌, Bool, false, not, ◌&&◌, List, take, drop, ◌==◌, nat_le, nat_lt}
use Rattle.text_classes.specs.Classes.{literal_char, basic_unescaped}
use Rattle.text_classes.proofs.RunLaws.{SameEnd}
use Rattle.text_scalars.specs.Utf8Read.{Along}
use Rattle.lexer_scans.specs.Extents.{in_atom, line_tail}
use Rattle.decoder_rules.specs.Pieces.{notes_at, collect}
use Rattle.decoder_rules.specs.Bodies.{piece_of}
use Rattle.decoder_rules.specs.declared.Edition.{Edition}
use Rattle.decoder_rules.specs.declared.Encoding.{Encoding}
use Rattle.decoder_rules.specs.declared.Encoding.TheVariants.{LiteralString, BasicString}
use Rattle.built_fronts.specs.declared.Line.{Line}
use Rattle.built_fronts.specs.declared.Line.TheVariants.{Literal, Basic}

-- an ASCII byte that goes on with an atom
abbrev pub ascii_atom : ℕ → Bool
ascii_atom b = in_atom b && nat_lt b 0x80

-- ---- strings on one line

-- the encoding by which it is decoded in an edition
abbrev pub encoding_in : Edition → Line → Encoding
encoding_in v Literal = LiteralString
encoding_in v Basic = BasicString v

-- the mark that closes it
abbrev pub mark_of : Line → ℕ
mark_of Literal = 0x27
mark_of Basic = 0x22

-- the other byte of printable ASCII that does not stand for itself, if there is one
abbrev pub stop_of : Line → ℕ
stop_of Literal = 0x27
stop_of Basic = 0x5C

-- the bytes that stand for themselves
abbrev pub plain_of : Line → ℕ → Bool
plain_of Literal = literal_char
plain_of Basic = basic_unescaped

-- printable ASCII, and neither of two bytes
abbrev pub clear_byte : ℕ → ℕ → ℕ → Bool
clear_byte q z b = (nat_le 0x20 b && nat_lt b 0x7F) && (not (b == q) && not (b == z))

-- the errors of a body s that begins at the place `at` of its text
abbrev pub body_errors : Encoding → ℕ → List ℕ → List (List ℕ)
body_errors e at s = collect (piece_of e) notes_at 0 false at s

-- from place i of a body up to place r the string goes on, and no error lies there: a body that goes on for n bytes after r has
-- the errors of those
pub record Goes (line : Line) (doc : List ℕ) (i r : ℕ) : Type 0 where
  pub same : SameEnd (line_tail (mark_of line) false) doc i r
  pub clean : (v : Edition) (at n : ℕ)
      → body_errors (encoding_in v line) at (take (r - i + n) (drop i doc)) ≡ body_errors (encoding_in v line) (at + (r - i)) (take n (drop r doc))

-- that, and over whole characters
pub record Sound (line : Line) (doc : List ℕ) (i r : ℕ) : Type 0 where
  pub along : Along doc i r
  pub goes : Goes line doc i r
