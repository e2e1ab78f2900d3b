-- `literal_tail` is right because a byte that is neither a mark nor an LF does not move the end of the string, and the one
-- that is met is the end.
use mathlib.Core.Path.{sym, ◌∙◌}
use native.Mathlib.Omega.{arith}
use Rattle.lexer_scans.proofs.TailLaws.{literal_found, literal_halts, line_closed}
use Rattle.lexer_scans.proofs.literal_tail.Goals as goal

pub returns-then-is_at : goal.returns-then-is_at
returns-then-is_at c =
    let is = c.args in
    let i = c.find-i.result in
    let found = literal_found is.doc.now is.start i c.find-i.ensures in
    let marked = sym c.is_at.ensures ∙ c.if-is_at.true in
    omega (arith, found.same, line_closed 39 is.doc.now i marked)

pub returns : goal.returns
returns c =
    let is = c.args in
    let i = c.find-i.result in
    let found = literal_found is.doc.now is.start i c.find-i.ensures in
    let unmarked = sym c.is_at.ensures ∙ c.if-is_at.false in
    omega (arith, found.same, literal_halts is.doc.now is.start i found unmarked)
