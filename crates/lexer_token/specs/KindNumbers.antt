-- RULE. The sixteen kinds of token and their numbers.
use Rattle.std.specs.Prelude.{ℕ, Result, Ok, Err}
use mathlib.Core.{Bool.cond, List.List, List.[], List.◌∷◌}
use lib.{Dec.eqb}
use Rattle.text_refusals.specs.declared.{Refusal.Refusal, Refusal.TheVariants.NoKind}
use Rattle.lexer_token.specs.declared.{TokenKind.TokenKind}
use Rattle.lexer_token.specs.declared.TokenKind.TheVariants.{Dot, Equals, Comma, LeftSquareBracket, RightSquareBracket, LeftCurlyBracket, RightCurlyBracket, Whitespace, Comment, Newline, LiteralString, BasicString, MlLiteralString, MlBasicString, Atom, Eof}

-- the number of a kind: a byte with which it begins; 1 to 4 for the multi-line strings, the atom and the end
abbrev pub kind_number : TokenKind → ℕ
kind_number Dot = 46
kind_number Equals = 61
kind_number Comma = 44
kind_number LeftSquareBracket = 91
kind_number RightSquareBracket = 93
kind_number LeftCurlyBracket = 123
kind_number RightCurlyBracket = 125
kind_number Whitespace = 32
kind_number Comment = 35
kind_number Newline = 10
kind_number LiteralString = 39
kind_number BasicString = 34
kind_number MlLiteralString = 1
kind_number MlBasicString = 2
kind_number Atom = 3
kind_number Eof = 4

-- all sixteen kinds
abbrev pub kinds : List TokenKind
kinds =
    Dot ∷ Equals ∷ Comma ∷ LeftSquareBracket ∷ RightSquareBracket ∷ LeftCurlyBracket ∷ RightCurlyBracket ∷ Whitespace ∷ Comment
    ∷ Newline ∷ LiteralString ∷ BasicString ∷ MlLiteralString ∷ MlBasicString ∷ Atom ∷ Eof ∷ []

-- of some kinds the one that has the number n; refusal 7 with n itself where none has it
abbrev pub kind_among : List TokenKind → ℕ → Result TokenKind Refusal
kind_among [] n = Err (NoKind n)
kind_among (k ∷ ks) n = cond (eqb n (kind_number k)) (Ok k) (kind_among ks n)

-- the kind of a number
unfoldable pub kind_of_number : ℕ → Result TokenKind Refusal
kind_of_number n = kind_among kinds n
