-- `step_at_the_end` is right because its tests are the definition's, in its order, and past them the cursor is at the end.
use Prim.Native.Nat.{ℕ, ◌+◌, ◌≤◌}
use mathlib.Core.Path.{◌≡◌}
use mathlib.Core.List.{List}
use native.Mathlib.Decide.{dec_lt}
use native.Mathlib.Omega.{arith}
use borrow.Author.Tests.{lt-ltb, le-ltb}
use lib.ListN.{length}
use Rattle.text_refusals.specs.Refusals.{limit}
use Rattle.lexer.specs.declared.Cursor.{Cursor}
use Rattle.lexer.specs.Loops.{Before}
use Rattle.lexer.specs.Steps.{step_within, step_of}
use Rattle.lexer.proofs.StepLaws.{step_end, step_eof}
use Rattle.lexer.proofs.Cursor.step_at_the_end.Goals as goal

-- past the three refusals the step is one within the document, at its end
module _ (doc : List ℕ) (c : Cursor) (short : length doc ≤ limit) (near : c.place ≤ length doc) (low : c.line ≤ c.place + 1) where
  within : step_of doc c ≡ step_within doc c
  unfolding step_of
  within = simp (le-ltb _ _ short, le-ltb _ _ near, le-ltb _ _ low)

  at_end : (Before doc c → ⊥) → c.place ≡ length doc
  at_end not =
      elim (dec_lt c.place (length doc)) [
        | yes l ↦ absurd (not (short, l, low))
        | no l ↦ omega arith
      ]

pub returns-then-doc-gt-LIMIT-clause-answer : goal.returns-then-doc-gt-LIMIT-clause-answer
unfolding step_of
returns-then-doc-gt-LIMIT-clause-answer c = simp (lt-ltb _ _ c.if-doc-gt-LIMIT.true)

pub returns-then-doc-self-clause-answer : goal.returns-then-doc-self-clause-answer
unfolding step_of
returns-then-doc-self-clause-answer c = simp (le-ltb _ _ c.if-doc-gt-LIMIT.false, lt-ltb _ _ c.if-doc-self.true)

pub returns-then-self-clause-answer : goal.returns-then-self-clause-answer
unfolding step_of
returns-then-self-clause-answer c =
    simp (le-ltb _ _ c.if-doc-gt-LIMIT.false, le-ltb _ _ c.if-doc-self.false, lt-ltb _ _ c.if-self.true)

pub returns-then-self-2-clause-answer : goal.returns-then-self-2-clause-answer
returns-then-self-2-clause-answer c =
    let is = c.args in
    let one = within is.doc.now is.self c.if-doc-gt-LIMIT.false c.if-doc-self.false c.if-self.false in
    let end = at_end is.doc.now is.self c.if-doc-gt-LIMIT.false c.if-doc-self.false c.if-self.false c.requires in
    step_end is.doc.now is.self one end c.if-self-2.true

pub returns-clause-answer : goal.returns-clause-answer
returns-clause-answer c =
    let is = c.args in
    let one = within is.doc.now is.self c.if-doc-gt-LIMIT.false c.if-doc-self.false c.if-self.false in
    let end = at_end is.doc.now is.self c.if-doc-gt-LIMIT.false c.if-doc-self.false c.if-self.false c.requires in
    step_eof is.doc.now is.self one end c.if-self-2.false _ _ c.token_of-eof.ensures c.cursor_of.ensures
