-- `check_span` is right because its tests are the definition's, in its order.
use mathlib.Core.Path.{sym, ◌∙◌}
use borrow.Author.Tests.{lt-ltb, le-ltb}
use Rattle.lexer_place.specs.Spans.{span_answer}
use Rattle.lexer_place.proofs.check_span.Goals as goal

pub returns-then-doc-gt-LIMIT-clause-answer : goal.returns-then-doc-gt-LIMIT-clause-answer
unfolding span_answer
returns-then-doc-gt-LIMIT-clause-answer c =
    simp (lt-ltb _ _ c.if-doc-gt-LIMIT.true)

pub returns-then-doc-end-clause-answer : goal.returns-then-doc-end-clause-answer
unfolding span_answer
returns-then-doc-end-clause-answer c =
    simp (le-ltb _ _ c.if-doc-gt-LIMIT.false, lt-ltb _ _ c.if-doc-end.true)

pub returns-then-end-start-clause-answer : goal.returns-then-end-start-clause-answer
unfolding span_answer
returns-then-end-start-clause-answer c =
    simp (le-ltb _ _ c.if-doc-gt-LIMIT.false, le-ltb _ _ c.if-doc-end.false, lt-ltb _ _ c.if-end-start.true)

pub returns-then-is_inside-clause-answer : goal.returns-then-is_inside-clause-answer
unfolding span_answer
returns-then-is_inside-clause-answer c =
    let start = sym c.is_inside.ensures ∙ c.if-is_inside.true in
    simp (le-ltb _ _ c.if-doc-gt-LIMIT.false, le-ltb _ _ c.if-doc-end.false, le-ltb _ _ c.if-end-start.false, start)

pub returns-then-is_inside-2-clause-answer : goal.returns-then-is_inside-2-clause-answer
unfolding span_answer
returns-then-is_inside-2-clause-answer c =
    let start = sym c.is_inside.ensures ∙ c.if-is_inside.false in
    let end = sym c.is_inside-2.ensures ∙ c.if-is_inside-2.true in
    simp (le-ltb _ _ c.if-doc-gt-LIMIT.false, le-ltb _ _ c.if-doc-end.false, le-ltb _ _ c.if-end-start.false, start, end)

pub returns-clause-answer : goal.returns-clause-answer
unfolding span_answer
returns-clause-answer c =
    let start = sym c.is_inside.ensures ∙ c.if-is_inside.false in
    let end = sym c.is_inside-2.ensures ∙ c.if-is_inside-2.false in
    simp (le-ltb _ _ c.if-doc-gt-LIMIT.false, le-ltb _ _ c.if-doc-end.false, le-ltb _ _ c.if-end-start.false, start, end)
