-- `over_marks` is right because it asks of the two places in the definition's order.
use mathlib.Core.Path.{sym, ◌∙◌}
use Rattle.lexer_scans.proofs.MarkLaws.{up_to_two_at}
use native.Mathlib.Omega.{arith}
use Rattle.table_scans.proofs.over_marks.Goals as goal

pub returns-then-is_at-2 : goal.returns-then-is_at-2
returns-then-is_at-2 c =
    let first = sym c.is_at.ensures ∙ c.if-is_at.true in
    simp (up_to_two_at, first, sym c.is_at-then-is_at.ensures ∙ c.if-is_at-2.true)

pub returns-then-is_at : goal.returns-then-is_at
returns-then-is_at c =
    let first = sym c.is_at.ensures ∙ c.if-is_at.true in
    simp (up_to_two_at, first, sym c.is_at-then-is_at.ensures ∙ c.if-is_at-2.false)

pub returns : goal.returns
returns c = simp (up_to_two_at, sym c.is_at.ensures ∙ c.if-is_at.false) (omega arith)
