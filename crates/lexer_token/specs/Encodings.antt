-- RULE. The encoding of a kind: the number by which a decoder is chosen.
use Rattle.std.specs.Prelude.{ℕ, Result, Ok, Err}
use Rattle.text_refusals.specs.declared.{Refusal.Refusal}
use Rattle.lexer_token.specs.declared.{TokenKind.TokenKind}
use Rattle.lexer_token.specs.declared.TokenKind.TheVariants.{Dot, Equals, Comma, LeftSquareBracket, RightSquareBracket, LeftCurlyBracket, RightCurlyBracket, Whitespace, Comment, Newline, LiteralString, BasicString, MlLiteralString, MlBasicString, Atom, Eof}
use Rattle.lexer_token.specs.{KindNumbers.kind_number, KindNumbers.kind_of_number}

-- the kind's own number for the four kinds of string, else 0
abbrev pub kind_encoding : TokenKind → ℕ
kind_encoding Dot = 0
kind_encoding Equals = 0
kind_encoding Comma = 0
kind_encoding LeftSquareBracket = 0
kind_encoding RightSquareBracket = 0
kind_encoding LeftCurlyBracket = 0
kind_encoding RightCurlyBracket = 0
kind_encoding Whitespace = 0
kind_encoding Comment = 0
kind_encoding Newline = 0
kind_encoding LiteralString = kind_number LiteralString
kind_encoding BasicString = kind_number BasicString
kind_encoding MlLiteralString = kind_number MlLiteralString
kind_encoding MlBasicString = kind_number MlBasicString
kind_encoding Atom = 0
kind_encoding Eof = 0

abbrev pub encoding_by : Result TokenKind Refusal → Result ℕ Refusal
encoding_by (Ok k) = Ok (kind_encoding k)
encoding_by (Err r) = Err r

-- the encoding of the kind that has a number; refusal 7 where none has it
unfoldable pub encoding_of : ℕ → Result ℕ Refusal
encoding_of n = encoding_by (kind_of_number n)
