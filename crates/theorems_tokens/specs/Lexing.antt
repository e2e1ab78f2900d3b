-- STATEMENT. Theorems about lexing, each proved in proofs/Lexing.antt under the name that its comment gives.
-- Assumes nothing.
use Rattle.std.specs.Prelude.{ℕ, zero, suc, ◌+◌, ◌-◌, ◌≤◌, ◌<◌, ◌≡◌, length, get_or, take, drop, Ok, Err, Some, None}
use mathlib.Core.List.{List, [], ◌∷◌, map, Memᴰ}
use Rattle.text_refusals.specs.Refusals.{limit}
use Rattle.text_scalars.specs.Utf8.{Utf8}
use Rattle.lexer_token.specs.declared.TokenKind.TheVariants.{Eof}
use Rattle.lexer_token.specs.declared.Token.{Token}
use Rattle.lexer_token.specs.Records.{token_of, text_of}
use Rattle.lexer.specs.Lines.{line_of}
use Rattle.lexer.specs.Table.{kind_of, token_len}
use Rattle.lexer.specs.Tokens.{start_of, tokens_of}
use Rattle.lexer.specs.Steps.{cursor_of, start_answer, start_cursor, Step, step_of}
use Rattle.lexer.specs.Whole.{records_of}
use Rattle.lexer_place.specs.Positions.{position_answer}
use Rattle.lexer_place.specs.Told.{position_line}
use Rattle.lexer.specs.declared.Cursor.{Cursor}

-- ---- steps and whole lexing

-- the cursor after a step from c; after the end or a refusal it is c still
abbrev pub next_cursor : Cursor → Step → Cursor
next_cursor c (Ok (Some w)) = w.1
next_cursor c (Ok None) = c
next_cursor c (Err r) = c

-- the answers of k steps, each at the cursor that the one before it left
unfoldable pub steps_from : ℕ → List ℕ → Cursor → List Step
steps_from zero doc c = []
steps_from (suc k) doc c = step_of doc c ∷ steps_from k doc (next_cursor c (step_of doc c))

-- answers that give these tokens, one after the other, then the end for ever, and never a refusal
abbrev pub Gives : List Token → List Step → Type 0
Gives ts [] = Unit
Gives [] (Ok (Some w) ∷ rest) = ⊥
Gives [] (Ok None ∷ rest) = Gives [] rest
Gives [] (Err r ∷ rest) = ⊥
Gives (t ∷ ts) (Ok (Some w) ∷ rest) = (w.0 ≡ t) × Gives ts rest
Gives (t ∷ ts) (Ok None ∷ rest) = ⊥
Gives (t ∷ ts) (Err r ∷ rest) = ⊥

-- `steps_whole`: the steps from the start, however many, give the tokens of whole lexing, then the end for ever
abbrev pub StepsWhole : Type 0
StepsWhole =
    (doc : List ℕ) → length doc ≤ limit → (k : ℕ) → Gives (tokens_of doc) (steps_from k doc (start_cursor (start_answer doc)))

-- ---- lines

-- `token_line`: each token of whole lexing bears the line of its first byte, Eof that of the end
abbrev pub TokenLine : Type 0
TokenLine = (doc : List ℕ) (t : Token) → Memᴰ t (tokens_of doc) → t.line ≡ line_of doc t.span.start

-- the last number of each record, its line, is the line that `position_of` answers for its second, the start
abbrev pub OnLines : List ℕ → List (List ℕ) → Type 0
OnLines doc [] = Unit
OnLines doc (r ∷ rs) = (get_or r 3 0 ≡ position_line (position_answer doc (get_or r 1 0))) × OnLines doc rs

-- `record_lines`: that holds of the records of whole lexing
abbrev pub RecordLines : Type 0
RecordLines = (doc : List ℕ) → length doc ≤ limit → OnLines doc (records_of doc)

-- a cursor, and a step's answer, with d added to each line
abbrev pub moved_cursor : ℕ → Cursor → Cursor
moved_cursor d c = cursor_of c.place (c.line + d) c.ended

abbrev pub moved_step : ℕ → Step → Step
moved_step d (Ok (Some (t, c))) = Ok (Some (token_of t.kind t.span.start t.span.end (t.line + d), moved_cursor d c))
moved_step d (Ok None) = Ok None
moved_step d (Err r) = Err r

-- `steps_moved`: where d is added to a cursor's line, which its place still allows, it is added to the lines of all answers, and
-- nothing else changes
abbrev pub StepsMoved : Type 0
StepsMoved =
    (doc : List ℕ) (c : Cursor) (d : ℕ) → c.line + d ≤ c.place + 1
    → (k : ℕ) → steps_from k doc (moved_cursor d c) ≡ map (moved_step d) (steps_from k doc c)

-- ---- the tokens of a document

-- each token begins where the one before it ends, the first at `at`; the last ends at `end`
abbrev pub Follow : ℕ → List Token → ℕ → Type 0
Follow at [] end = at ≡ end
Follow at (t ∷ ts) end = (t.span.start ≡ at) × Follow t.span.end ts end

-- `no_gap`: tokens follow without gap from the start to the end
abbrev pub NoGap : Type 0
NoGap = (doc : List ℕ) → Follow (start_of doc) (tokens_of doc) (length doc)

-- `not_empty`: every token but Eof has at least one byte
abbrev pub NotEmpty : Type 0
NotEmpty = (doc : List ℕ) (t : Token) → Memᴰ t (tokens_of doc) → (t.kind ≡ Eof → ⊥) → t.span.start < t.span.end

-- `uncut`: on UTF-8 no token cuts a character, so the text of each token is UTF-8
abbrev pub Uncut : Type 0
Uncut = (doc : List ℕ) → Utf8 doc → (t : Token) → Memᴰ t (tokens_of doc) → Utf8 (text_of doc t)

-- ---- which bytes a token depends on

-- `local`: a token depends only on its own bytes and on the byte after them
abbrev pub Local : Type 0
Local = (s t : List ℕ) → take (suc (token_len s)) s ≡ take (suc (token_len s)) t → (kind_of t ≡ kind_of s) × (token_len t ≡ token_len s)
