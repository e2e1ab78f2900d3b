-- `start` is right because its test is the definition's.
use borrow.Author.Tests.{lt-ltb, le-ltb}
use Rattle.lexer.specs.Steps.{start_answer}
use Rattle.lexer.proofs.Cursor.start.Goals as goal

pub returns-then-doc-gt-LIMIT-clause-answer : goal.returns-then-doc-gt-LIMIT-clause-answer
unfolding start_answer
returns-then-doc-gt-LIMIT-clause-answer c = simp (lt-ltb _ _ c.if-doc-gt-LIMIT.true)

pub returns-clause-answer : goal.returns-clause-answer
unfolding start_answer
returns-clause-answer c = simp (le-ltb _ _ c.if-doc-gt-LIMIT.false, c.start_of.ensures)
