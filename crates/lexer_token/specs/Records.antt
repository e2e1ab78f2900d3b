-- RULE. A token is its kind, its span and the line of its first byte; its record is four numbers.
use Rattle.std.specs.Prelude.{ℕ, ◌-◌}
use mathlib.Core.{List.List, List.[], List.◌∷◌}
use lib.{ListN.take, ListN.drop}
use Rattle.lexer_token.specs.declared.{TokenKind.TokenKind, Span.Span, Token.Token}
use Rattle.lexer_token.specs.{KindNumbers.kind_number}

abbrev pub span_of : ℕ → ℕ → Span
span_of start end = record { start = start; end = end }

-- how every token is made
abbrev pub token_of : TokenKind → ℕ → ℕ → ℕ → Token
token_of kind start end line = record { kind = kind; span = span_of start end; line = line }

-- how every token is read into a record: kind number, start, end, line
abbrev pub record_of : Token → List ℕ
record_of t = kind_number t.kind ∷ t.span.start ∷ t.span.end ∷ t.line ∷ []

-- the bytes of a token of the document doc: those from its start to its end
abbrev pub text_of : List ℕ → Token → List ℕ
text_of doc t = take (t.span.end - t.span.start) (drop t.span.start doc)
