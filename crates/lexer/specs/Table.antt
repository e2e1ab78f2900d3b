-- RULE. The token table: a token's kind by its first bytes, and its extent by its kind.
use Rattle.std.specs.Prelude.{ℕ, suc}
use mathlib.Core.{Bool.Bool, Bool.false, Bool.cond, List.List, List.[], List.◌∷◌}
use lib.{ListN.drop, Dec.eqb}
use Rattle.text_classes.specs.{Classes.wschar, Runs.run, Runs.triple}
use Rattle.lexer_token.specs.declared.{TokenKind.TokenKind}
use Rattle.lexer_token.specs.declared.TokenKind.TheVariants.{Dot, Equals, Comma, LeftSquareBracket, RightSquareBracket, LeftCurlyBracket, RightCurlyBracket, Whitespace, Comment, Newline, LiteralString, BasicString, MlLiteralString, MlBasicString, Atom, Eof}
use Rattle.lexer_scans.specs.{Extents.eol, Extents.in_comment, Extents.in_atom, Extents.line_tail, Extents.ml_tail, Extents.newline_tail}

-- the kind by the first byte, and by whether three of it stand there: three quote marks always open the multi-line kind.
-- In this order: . = , [ ] { } space or tab # CR or LF ' " and any other
unfoldable pub kind_by : ℕ → Bool → TokenKind
kind_by b three =
    cond (eqb b 0x2E) Dot
    (cond (eqb b 0x3D) Equals
    (cond (eqb b 0x2C) Comma
    (cond (eqb b 0x5B) LeftSquareBracket
    (cond (eqb b 0x5D) RightSquareBracket
    (cond (eqb b 0x7B) LeftCurlyBracket
    (cond (eqb b 0x7D) RightCurlyBracket
    (cond (wschar b) Whitespace
    (cond (eqb b 0x23) Comment
    (cond (eol b) Newline
    (cond (eqb b 0x27) (cond three MlLiteralString LiteralString)
    (cond (eqb b 0x22) (cond three MlBasicString BasicString)
    Atom)))))))))))

-- no bytes are the end
unfoldable pub kind_of : List ℕ → TokenKind
kind_of [] = Eof
kind_of (b ∷ s) = kind_by b (triple b (b ∷ s))

-- the length of a token by its kind, on the bytes from its first on
unfoldable pub extent : TokenKind → List ℕ → ℕ
-- . = , [ ] { }: one byte
extent Dot s = 1
extent Equals s = 1
extent Comma s = 1
extent LeftSquareBracket s = 1
extent RightSquareBracket s = 1
extent LeftCurlyBracket s = 1
extent RightCurlyBracket s = 1
-- the whole run of spaces and tabs
extent Whitespace s = suc (run wschar (drop 1 s))
-- up to the next CR or LF, not included
extent Comment s = suc (run in_comment (drop 1 s))
-- LF; CR LF; or a CR alone
extent Newline s = suc (newline_tail s)
-- the opening mark and what it opens
extent LiteralString s = suc (line_tail 0x27 false (drop 1 s))
extent BasicString s = suc (line_tail 0x22 false (drop 1 s))
-- the three opening marks and what they open
extent MlLiteralString s = suc (suc (suc (ml_tail 0x27 false (drop 3 s))))
extent MlBasicString s = suc (suc (suc (ml_tail 0x22 false (drop 3 s))))
-- up to one of . = , [ ] { } space tab # CR LF
extent Atom s = suc (run in_atom (drop 1 s))
-- empty
extent Eof s = 0

unfoldable pub token_len : List ℕ → ℕ
token_len s = extent (kind_of s) s
