-- RULE. The state between two bytes of a document that comes in parts, with its places and lines, which are those of the parts
-- joined; the tokens that bytes give from there, and the state after them.
use Rattle.std.specs.Prelude.{ℕ, ◌+◌, Option, Some, None}
use mathlib.Core.{List.List, List.[], List.◌∷◌, List.◌++◌}
use Rattle.lexer_token.specs.declared.{TokenKind.TokenKind, Token.Token}
use Rattle.lexer_token.specs.{Records.token_of}
use Rattle.lexer.specs.{Lines.line_behind, Tokens.eof_at}
use Rattle.built_bytes.specs.declared.{Mode.Mode, Mode.TheVariants.Start, Mode.TheVariants.Idle, Turn.Turn}
use Rattle.built_bytes.specs.declared.Turn.TheVariants.{Opens, Single, More, Ends, Apart, Skipped}
use Rattle.built_bytes.specs.{Turns.opening, Turns.turn_of, Turns.pending_of}
use Rattle.built_lexing.specs.declared.{states.Lexing.Lexing, states.Moved.Moved}

-- the mode; the place and the line of the first byte of the token in progress; and those of the next byte
abbrev pub lexing_of : Mode → ℕ → ℕ → ℕ → ℕ → Lexing
lexing_of mode start first at line = record { mode = mode; start = start; first = first; at = at; line = line }

-- between two tokens
abbrev pub idle_at : ℕ → ℕ → Lexing
idle_at at line = lexing_of Idle at line at line

-- before the first byte
abbrev pub unread : Lexing
unread = lexing_of Start 0 1 0 1

-- the token in progress of a state, were it to end at a place
abbrev pub token_from : TokenKind → Lexing → ℕ → Token
token_from k l end = token_of k l.start end l.first

-- a byte that does not end the token in progress before it: the token that ends with it, if one does, and the state after it
abbrev pub moved_by : Turn → Lexing → ℕ → Moved
moved_by (Opens m) l b =
    record { before = None; through = None; next = lexing_of m l.at l.line (l.at + 1) (line_behind l.line b) }
moved_by (Single k) l b =
    record { before = None; through = Some (token_of k l.at (l.at + 1) l.line); next = idle_at (l.at + 1) (line_behind l.line b) }
moved_by (More m) l b =
    record { before = None; through = None; next = lexing_of m l.start l.first (l.at + 1) (line_behind l.line b) }
moved_by (Ends k) l b =
    record { before = None; through = Some (token_from k l (l.at + 1)); next = idle_at (l.at + 1) (line_behind l.line b) }
moved_by (Apart k) l b = record { before = None; through = None; next = idle_at (l.at + 1) (line_behind l.line b) }
moved_by Skipped l b = record { before = None; through = None; next = idle_at (l.at + 1) (line_behind l.line b) }

-- a token that ended before a byte, and what the byte then does
abbrev pub after_token : Token → Moved → Moved
after_token t m = record { before = Some t; through = m.through; next = m.next }

-- one byte: where it is apart from the token in progress, that token ended before it, and it opens another
abbrev pub moved_from : Turn → Lexing → ℕ → Moved
moved_from (Opens m) l b = moved_by (Opens m) l b
moved_from (Single k) l b = moved_by (Single k) l b
moved_from (More m) l b = moved_by (More m) l b
moved_from (Ends k) l b = moved_by (Ends k) l b
moved_from (Apart k) l b = after_token (token_from k l l.at) (moved_by (opening b) (idle_at l.at l.line) b)
moved_from Skipped l b = moved_by Skipped l b

unfoldable pub moved : Lexing → ℕ → Moved
moved l b = moved_from (turn_of l.mode b) l b

abbrev pub tokens_in : Option Token → List Token
tokens_in None = []
tokens_in (Some t) = t ∷ []

-- the tokens that one byte gives: none, one or two
abbrev pub gives : Moved → List Token
gives m = tokens_in m.before ++ tokens_in m.through

-- the tokens that bytes give, and the state after them
unfoldable pub given_by : Lexing → List ℕ → List Token
given_by l [] = []
given_by l (b ∷ s) = gives (moved l b) ++ given_by (moved l b).next s

unfoldable pub state_after : Lexing → List ℕ → Lexing
state_after l [] = l
state_after l (b ∷ s) = state_after (moved l b).next s

-- at the closing word: the token in progress, if there is one
abbrev pub pending_token : Option TokenKind → Lexing → Option Token
pending_token None l = None
pending_token (Some k) l = Some (token_from k l l.at)

-- and Eof after it
unfoldable pub last_tokens : Lexing → List Token
last_tokens l = tokens_in (pending_token (pending_of l.mode) l) ++ (eof_at l.at l.line ∷ [])
