-- No two kinds have one number: a kind's number, read back, is that kind again. And no kind's words have more than 25 bytes.
-- Assumes nothing.
use mathlib.Core.Path.{◌≡◌, refl}
use Rattle.lexer_token.specs.KindNumbers.{kind_number, kind_of_number}
use Rattle.lexer_token.specs.declared.TokenKind.{TokenKind}
use Rattle.lexer_token.specs.declared.TokenKind.TheVariants.{Dot, Equals, Comma, LeftSquareBracket, RightSquareBracket, LeftCurlyBracket, RightCurlyBracket, Whitespace, Comment, Newline, LiteralString, BasicString, MlLiteralString, MlBasicString, Atom, Eof}
use Rattle.std.proofs.Common.{true, ◌≤◌, leb, leb-true, length, Ok}
use Rattle.lexer_token.specs.Descriptions.{kind_text}

pub kind_back : (k : TokenKind) → kind_of_number (kind_number k) ≡ Ok k
unfolding kind_of_number
kind_back Dot = refl
kind_back Equals = refl
kind_back Comma = refl
kind_back LeftSquareBracket = refl
kind_back RightSquareBracket = refl
kind_back LeftCurlyBracket = refl
kind_back RightCurlyBracket = refl
kind_back Whitespace = refl
kind_back Comment = refl
kind_back Newline = refl
kind_back LiteralString = refl
kind_back BasicString = refl
kind_back MlLiteralString = refl
kind_back MlBasicString = refl
kind_back Atom = refl
kind_back Eof = refl

text_measured : (k : TokenKind) → leb (length (kind_text k)) 25 ≡ true
text_measured Dot = refl
text_measured Equals = refl
text_measured Comma = refl
text_measured LeftSquareBracket = refl
text_measured RightSquareBracket = refl
text_measured LeftCurlyBracket = refl
text_measured RightCurlyBracket = refl
text_measured Whitespace = refl
text_measured Comment = refl
text_measured Newline = refl
text_measured LiteralString = refl
text_measured BasicString = refl
text_measured MlLiteralString = refl
text_measured MlBasicString = refl
text_measured Atom = refl
text_measured Eof = refl

pub text_short : (k : TokenKind) → length (kind_text k) ≤ 25
text_short k = leb-true (length (kind_text k)) 25 (text_measured k)
