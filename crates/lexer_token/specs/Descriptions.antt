-- RULE. What a kind is called, in ASCII: at most 25 bytes.
use Rattle.std.specs.Prelude.{ℕ, Result, Ok, Err}
use Prim.Native.Char.{code}
use Prim.Native.String.{String, [] as none, ◌∷◌ as ◌then◌}
use mathlib.Core.{List.List, List.[], List.◌∷◌}
use Rattle.text_refusals.specs.declared.{Refusal.Refusal}
use Rattle.lexer_token.specs.{KindNumbers.kind_of_number}
use Rattle.lexer_token.specs.declared.{TokenKind.TokenKind}
use Rattle.lexer_token.specs.declared.TokenKind.TheVariants.{Dot, Equals, Comma, LeftSquareBracket, RightSquareBracket, LeftCurlyBracket, RightCurlyBracket, Whitespace, Comment, Newline, LiteralString, BasicString, MlLiteralString, MlBasicString, Atom, Eof}

-- the code points of a text, which are its bytes where it is ASCII
abbrev pub codes : String → List ℕ
codes none = []
codes (c then s) = code c ∷ codes s

-- the words for each kind
abbrev pub kind_text : TokenKind → List ℕ
kind_text Dot = codes "`.`"
kind_text Equals = codes "`=`"
kind_text Comma = codes "`,`"
kind_text LeftSquareBracket = codes "`[`"
kind_text RightSquareBracket = codes "`]`"
kind_text LeftCurlyBracket = codes "`{`"
kind_text RightCurlyBracket = codes "`}`"
kind_text Whitespace = codes "whitespace"
kind_text Comment = codes "comment"
kind_text Newline = codes "newline"
kind_text LiteralString = codes "literal string"
kind_text BasicString = codes "basic string"
kind_text MlLiteralString = codes "multi-line literal string"
kind_text MlBasicString = codes "multi-line basic string"
kind_text Atom = codes "token"
kind_text Eof = codes "end-of-input"

abbrev pub description_by : Result TokenKind Refusal → Result (List ℕ) Refusal
description_by (Ok k) = Ok (kind_text k)
description_by (Err r) = Err r

-- the description of the kind that has a number; refusal 7 where none has it
unfoldable pub description_of : ℕ → Result (List ℕ) Refusal
description_of n = description_by (kind_of_number n)
