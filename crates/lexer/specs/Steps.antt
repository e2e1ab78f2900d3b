-- RULE. The starting cursor and one step, for every document and every cursor.
use Rattle.std.specs.Prelude.{ℕ, ◌+◌, Result, Ok, Err, Option, Some, None}
use mathlib.Core.{Bool.Bool, Bool.true, Bool.false, Bool.cond, Bool.◌||◌, List.List}
use lib.{ListN.length, ListN.drop, Dec.ltb, Dec.eqb}
use Rattle.text_refusals.specs.{Refusals.limit}
use Rattle.text_refusals.specs.declared.{Refusal.Refusal, Refusal.TheVariants.TooLong, Refusal.TheVariants.OutOfPlace}
use Rattle.lexer_token.specs.declared.{Token.Token}
use Rattle.lexer.specs.{Table.token_len, Tokens.token_at, Tokens.eof_at, Tokens.line_after, Tokens.start_of}
use Rattle.lexer.specs.declared.{Cursor.Cursor}

abbrev pub cursor_of : ℕ → ℕ → Bool → Cursor
cursor_of place line ended = record { place = place; line = line; ended = ended }

-- the start: refusal 2; else past a byte order mark, on line 1, not ended
unfoldable pub start_answer : List ℕ → Result Cursor Refusal
start_answer doc = cond (ltb limit (length doc)) (Err TooLong) (Ok (cursor_of (start_of doc) 1 false))

-- its cursor: all zero where refused
abbrev pub start_cursor : Result Cursor Refusal → Cursor
start_cursor (Ok c) = c
start_cursor (Err r) = cursor_of 0 0 false

-- what a step answers: a token and the next cursor, or none at the end; or why it is refused
abbrev pub Step : Type 0
Step = Result (Option (Token × Cursor)) Refusal

-- at the end of the document a cursor not yet ended gives Eof and becomes ended, and an ended one gives the end;
-- before it the token at the place, whatever byte stands there, and the ended flag is carried along. The cursor's line,
-- right or wrong, is the token's, and the next cursor's is counted on from it
abbrev pub step_within : List ℕ → Cursor → Step
step_within doc c =
    cond (eqb c.place (length doc))
    (cond c.ended (Ok None) (Ok (Some (eof_at c.place c.line, cursor_of c.place c.line true))))
    (Ok (Some (
      token_at c.place c.line (drop c.place doc),
      cursor_of (c.place + token_len (drop c.place doc)) (line_after c.line (drop c.place doc)) c.ended,
    )))

-- a place beyond the document, or a line that passes the place plus 1, as no line does
abbrev pub astray : List ℕ → Cursor → Bool
astray doc c = ltb (length doc) c.place || ltb (c.place + 1) c.line

-- a step: refusal 2, then 6 with the document's length for a cursor that is astray
unfoldable pub step_of : List ℕ → Cursor → Step
step_of doc c =
    cond (ltb limit (length doc)) (Err TooLong)
    (cond (astray doc c) (Err (OutOfPlace (length doc)))
    (step_within doc c))
