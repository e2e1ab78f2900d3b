-- FOLLOWS. The answers of span check and position in numbers, by the arguments: promises say that they are those that the answer
-- tells, `told_number` and `told_value`, as the check proves.
-- Assumes nothing.
use Rattle.std.specs.Prelude.{ℕ, Result, Ok, Err}
use mathlib.Core.{Bool.cond, List.List}
use lib.{ListN.length, Dec.ltb}
use Rattle.text_refusals.specs.{Refusals.limit}
use Rattle.text_refusals.specs.declared.{Refusal.Refusal}
use Rattle.lexer_token.specs.declared.{Span.Span}
use Rattle.lexer_place.specs.{Spans.misplaced}
use Rattle.lexer_place.specs.declared.{Position.Position}

-- the span check, by a document and a span: 2 with the limit, 6 with the document's length, else 0
abbrev pub span_refusal : List ℕ → Span → ℕ
span_refusal doc s = cond (ltb limit (length doc)) 2 (cond (misplaced doc s) 6 0)

abbrev pub span_returned : List ℕ → Span → ℕ
span_returned doc s = cond (ltb limit (length doc)) limit (cond (misplaced doc s) (length doc) 0)

-- the position: its line, 0 where refused
abbrev pub position_line : Result Position Refusal → ℕ
position_line (Ok p) = p.line
position_line (Err r) = 0

-- by a document and an offset: 2 with the limit, 6 with the document's length, else 0
abbrev pub position_refusal : List ℕ → ℕ → ℕ
position_refusal doc offset = cond (ltb limit (length doc)) 2 (cond (ltb (length doc) offset) 6 0)

abbrev pub position_returned : List ℕ → ℕ → ℕ
position_returned doc offset = cond (ltb limit (length doc)) limit (cond (ltb (length doc) offset) (length doc) 0)
