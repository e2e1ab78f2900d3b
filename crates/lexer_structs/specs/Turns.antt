-- What one turn of the loop does, and what stands in the records after some turns: the promises of helpers, not rules.
-- Assumes nothing.
use Rattle.std.specs.Prelude.{ℕ, zero, suc, cond, List, ◌++◌, take, drop, ltb, Result, Ok, Err, Some, None}
use Rattle.std.specs.Result.{result_unwrap_or}
use Rattle.text_refusals.specs.declared.Refusal.{Refusal}
use Rattle.text_refusals.specs.declared.Refusal.TheVariants.{FewTokens}
use Rattle.lexer_token.specs.declared.Token.{Token}
use Rattle.lexer.specs.Tokens.{tokens_of, eof_at}
use Rattle.lexer.specs.Steps.{start_answer, start_cursor, Step, step_of}
use Rattle.lexer.specs.declared.Cursor.{Cursor}
use Rattle.theorems_tokens.specs.Lexing.{next_cursor}
use Rattle.lexer_structs.specs.declared.Turn.{Turn}

-- the answer where a document is UTF-8, by the tokens needed and the records lent
abbrev pub room_for : ℕ → ℕ → Result ℕ Refusal
room_for needed room = cond (ltb room needed) (Err (FewTokens needed)) (Ok needed)

-- how many records are written
abbrev pub writes_of : Result ℕ Refusal → ℕ
writes_of a = result_unwrap_or a 0

-- the token of a step; an Eof at place 0 of line 0 where there is none
abbrev pub token_given : Step → Token
token_given (Ok (Some w)) = w.0
token_given (Ok None) = eof_at 0 0
token_given (Err r) = eof_at 0 0

-- a step's token, and the cursor after the step
unfoldable pub next_of : List ℕ → Cursor → Turn
next_of doc c = record { token = token_given (step_of doc c); cursor = next_cursor c (step_of doc c) }

-- the cursor after k steps from c, and after k steps from the start
unfoldable pub stepped : ℕ → List ℕ → Cursor → Cursor
stepped zero doc c = c
stepped (suc k) doc c = stepped k doc (next_of doc c).cursor

unfoldable pub cursor_after : List ℕ → ℕ → Cursor
cursor_after doc k = stepped k doc (start_cursor (start_answer doc))

-- the records after k turns, where they held `old` before
unfoldable pub stored : List ℕ → List Token → ℕ → List Token
stored doc old k = take k (tokens_of doc) ++ drop k old
