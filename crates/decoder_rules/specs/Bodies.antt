-- RULE. The piece at the front of each kind of body, whose first byte stands at place `at` of the text. A run of bytes
-- that stand for themselves is one piece. Errors 2, 4, 5, 7, 12 and 15 keep their bytes; 13 gives nothing, and neither
-- does a CR within a line-ending escape.
use Rattle.std.specs.Prelude.{ℕ, ◌+◌}
use mathlib.Core.{Bool.Bool, Bool.cond, Bool.◌&&◌, Bool.◌||◌, List.List}
use lib.{Dec.eqb, ListN.drop}
use Rattle.text_classes.specs.{Classes.wschar, Classes.literal_char, Classes.basic_unescaped, Classes.unquoted_char, Runs.run, Runs.first_is, Runs.stands}
use Rattle.decoder_rules.specs.{Encodings.mll_plain, Encodings.mlb_plain, Encodings.basic_invalid, Encodings.mlb_invalid, Pieces.Pieces, Pieces.copy_piece, Pieces.bad_copy, Pieces.drop_piece, Pieces.bad_drop, Escapes.escape_piece}
use Rattle.decoder_rules.specs.declared.{Edition.Edition, Piece.Piece, Encoding.Encoding, Encoding.TheVariants.LiteralString, Encoding.TheVariants.BasicString, Encoding.TheVariants.MlLiteralString, Encoding.TheVariants.MlBasicString, Encoding.TheVariants.UnquotedKey, DecodeError.TheVariants.LiteralInvalid, DecodeError.TheVariants.LoneCr, DecodeError.TheVariants.MlLiteralInvalid, DecodeError.TheVariants.BasicInvalid, DecodeError.TheVariants.MlBasicInvalid, DecodeError.TheVariants.MissingNewline, DecodeError.TheVariants.KeyInvalid}

-- a byte that is not allowed in a literal string: error 2 at it
unfoldable pub literal_piece : ℕ → List ℕ → Piece
literal_piece at s =
    cond (first_is literal_char s) (copy_piece (run literal_char s))
    (bad_copy 1 LiteralInvalid at at)

-- a CR: error 4 after it, unless the byte there is an LF. A byte that is not allowed in an ml-literal string: error 5 at it
unfoldable pub ml_literal_piece : ℕ → List ℕ → Piece
ml_literal_piece at s =
    cond (first_is mll_plain s) (copy_piece (run mll_plain s))
    (cond (stands 0x0D s) (cond (stands 0x0A (drop 1 s)) (copy_piece 1) (bad_copy 1 LoneCr (at + 1) (at + 1)))
    (bad_copy 1 MlLiteralInvalid at at))

-- bytes that are not allowed in a basic string: error 7 at their whole run
unfoldable pub basic_piece : Edition → ℕ → List ℕ → Piece
basic_piece v at s =
    cond (first_is basic_unescaped s) (copy_piece (run basic_unescaped s))
    (cond (stands 0x5C s) (escape_piece v at (drop 1 s))
    (bad_copy (run basic_invalid s) BasicInvalid at (at + run basic_invalid s)))

-- what a line-ending escape drops: blanks, LF and CR
unfoldable pub skips : ℕ → Bool
skips b = wschar b || (eqb b 0x0A || eqb b 0x0D)

-- a line-ending escape's own line, whose backslash is at place `at`: w blanks, and then s
abbrev pub escaped_line : ℕ → ℕ → List ℕ → Piece
escaped_line at w s =
    cond (stands 0x0A s) (drop_piece (2 + w))
    (cond (stands 0x0D s) (cond (stands 0x0A (drop 1 s)) (drop_piece (3 + w)) (bad_drop (2 + w) LoneCr (at + (2 + w))))
    (bad_drop (1 + w) MissingNewline (at + (1 + w))))

-- mlb-escaped-nl = escape ws newline *( wschar / newline )
-- the backslash, the blanks after it and the newline; s stands after the backslash. No newline: error 13 after the blanks
unfoldable pub escaped_nl : ℕ → List ℕ → Piece
escaped_nl at s = escaped_line at (run wschar s) (drop (run wschar s) s)

-- what it drops in the lines that follow, a piece for each blank and each newline
unfoldable pub escaped_more : ℕ → List ℕ → Piece
escaped_more at s =
    cond (stands 0x0D s) (cond (stands 0x0A (drop 1 s)) (drop_piece 2) (bad_drop 1 LoneCr (at + 1)))
    (drop_piece 1)

-- bytes that are not allowed in an ml-basic string: error 12 at their run, which ends at a CR too
unfoldable pub mlb_content : Edition → ℕ → List ℕ → Piece
mlb_content v at s =
    cond (first_is mlb_plain s) (copy_piece (run mlb_plain s))
    (cond (stands 0x5C s) (cond (first_is skips (drop 1 s)) (escaped_nl at (drop 1 s)) (escape_piece v at (drop 1 s)))
    (cond (stands 0x0D s) (cond (stands 0x0A (drop 1 s)) (copy_piece 2) (bad_copy 1 LoneCr (at + 1) (at + 1)))
    (bad_copy (run mlb_invalid s) MlBasicInvalid at (at + run mlb_invalid s))))

-- within a line-ending escape, what it drops comes first
unfoldable pub ml_basic_piece : Edition → Bool → ℕ → List ℕ → Piece
ml_basic_piece v dropping at s = cond (dropping && first_is skips s) (escaped_more at s) (mlb_content v at s)

-- a byte that is not allowed in a key: error 15 at it
unfoldable pub key_piece : ℕ → List ℕ → Piece
key_piece at s =
    cond (first_is unquoted_char s) (copy_piece (run unquoted_char s))
    (bad_copy 1 KeyInvalid at at)

-- the kinds; only an ml-basic body has line-ending escapes
abbrev pub piece_of : Encoding → Pieces
piece_of LiteralString dropping at s = literal_piece at s
piece_of MlLiteralString dropping at s = ml_literal_piece at s
piece_of (BasicString v) dropping at s = basic_piece v at s
piece_of (MlBasicString v) dropping at s = ml_basic_piece v dropping at s
piece_of UnquotedKey dropping at s = key_piece at s
