-- The escape at the front of a body, where it stands for a character: its piece, read off before any piece is made. Not a rule of
-- its own: `good_escape_piece` in proofs/EscapeAtLaws.antt shows that the rule's piece there is this one.
-- Assumes nothing.
use Rattle.std.specs.Prelude.{ℕ, Option, Some, None, ◌+◌, cond, ◌&&◌, List, take, drop, ◌==◌, nat_le, slice_index}
use Rattle.text_classes.specs.Classes.{hexdig}
use Rattle.text_classes.specs.Runs.{run}
use Rattle.text_scalars.specs.Utf8Read.{is_scalar}
use Rattle.decoder_rules.specs.declared.Edition.{Edition}
use Rattle.decoder_rules.specs.declared.Letter.{Letter}
use Rattle.decoder_rules.specs.declared.Letter.TheVariants.{Stands, Asks, Neither}
use Rattle.decoder_rules.specs.declared.Encoding.{Encoding}
use Rattle.decoder_rules.specs.declared.Encoding.TheVariants.{LiteralString, BasicString, MlLiteralString, MlBasicString, UnquotedKey}
use Rattle.decoder_rules.specs.Escapes.{letter_at, hex_from}
use Rattle.decoder_pieces.specs.declared.string.Escape.{Escape}

-- n bytes that stand for the character c
abbrev pub escape_to : ℕ → ℕ → Option Escape
escape_to n c = Some (record { take = n; char = c })

-- n digits that make a scalar value, at the front of s
unfoldable pub good_hex : ℕ → List ℕ → Option Escape
good_hex n s =
    cond (nat_le n (run hexdig s) && is_scalar (hex_from 0 (take n s))) (escape_to (2 + n) (hex_from 0 (take n s))) None

-- by the letter after the backslash, with s after that
abbrev pub good_by : Letter → List ℕ → Option Escape
good_by (Stands c) s = escape_to 2 c
good_by (Asks n) s = good_hex n s
good_by Neither s = None

-- after the backslash
unfoldable pub good_escape : Edition → List ℕ → Option Escape
good_escape v s = good_by (letter_at v s) (drop 1 s)

-- at the front of s
unfoldable pub escape_in : Encoding → List ℕ → Option Escape
escape_in LiteralString s = None
escape_in (BasicString v) s = good_escape v (drop 1 s)
escape_in MlLiteralString s = None
escape_in (MlBasicString v) s = good_escape v (drop 1 s)
escape_in UnquotedKey s = None

unfoldable pub escape_at : Encoding → List ℕ → Option Escape
escape_at e s = cond (slice_index s 0 == 0x5C) (escape_in e s) None
