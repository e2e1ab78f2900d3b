-- `position_of` is right because its tests are the definition's, in its order.
use borrow.Author.Tests.{lt-ltb, le-ltb}
use Rattle.lexer_place.specs.Positions.{position_answer}
use Rattle.lexer_place.proofs.position_of.Goals as goal

pub returns-then-doc-gt-LIMIT-clause-answer : goal.returns-then-doc-gt-LIMIT-clause-answer
unfolding position_answer
returns-then-doc-gt-LIMIT-clause-answer c =
    simp (lt-ltb _ _ c.if-doc-gt-LIMIT.true)

pub returns-then-doc-offset-clause-answer : goal.returns-then-doc-offset-clause-answer
unfolding position_answer
returns-then-doc-offset-clause-answer c =
    simp (le-ltb _ _ c.if-doc-gt-LIMIT.false, lt-ltb _ _ c.if-doc-offset.true)

pub returns-clause-answer : goal.returns-clause-answer
unfolding position_answer
returns-clause-answer c =
    simp (
      le-ltb _ _ c.if-doc-gt-LIMIT.false,
      le-ltb _ _ c.if-doc-offset.false,
      c.line_of-line.ensures,
      c.column_of-column.ensures,
    )
