-- RULE. Spans of a document: which are refused, and the text of one.
use Rattle.std.specs.Prelude.{ℕ, ◌-◌, Result, Ok, Err, ⊤}
use mathlib.Core.{Bool.Bool, Bool.cond, Bool.◌||◌, List.List, List.[]}
use lib.{ListN.length, ListN.take, ListN.drop, Dec.ltb}
use Rattle.text_classes.specs.{Classes.continuation, Runs.first_is}
use Rattle.text_refusals.specs.{Refusals.limit}
use Rattle.text_refusals.specs.declared.{Refusal.Refusal, Refusal.TheVariants.TooLong, Refusal.TheVariants.OutOfPlace}
use Rattle.lexer_token.specs.declared.{Span.Span}

-- a place lies inside a character if a byte stands there that is 80 to BF
abbrev pub inside : List ℕ → ℕ → Bool
inside doc at = first_is continuation (drop at doc)

-- the end is beyond the document, the start is after the end, or either is inside a character; a start beyond the document is
-- after the end, or the end is beyond the document too
abbrev pub misplaced : List ℕ → Span → Bool
misplaced doc s = ltb (length doc) s.end || (ltb s.end s.start || (inside doc s.start || inside doc s.end))

-- the span check: refusal 2, then 6 with the document's length
unfoldable pub span_answer : List ℕ → Span → Result ⊤ Refusal
span_answer doc s =
    cond (ltb limit (length doc)) (Err TooLong)
    (cond (misplaced doc s) (Err (OutOfPlace (length doc))) (Ok tt))

-- the text of a span: the document's bytes from start to end, none where the span is refused
abbrev pub text_checked : Result ⊤ Refusal → List ℕ → Span → List ℕ
text_checked (Ok _) doc s = take (s.end - s.start) (drop s.start doc)
text_checked (Err r) doc s = []

unfoldable pub span_text : List ℕ → Span → List ℕ
span_text doc s = text_checked (span_answer doc s) doc s
