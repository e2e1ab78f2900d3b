-- `line_to` is right because the string ends within the part, or goes on: then up to the marks at the part's end its bytes lead to a
-- mode that is known by whether they hide the next one.
use native.Mathlib.Omega.{arith}
use Rattle.built_ahead.proofs.LookLaws.{line_leads}
use Rattle.built_ahead.proofs.line_to.Goals as goal

pub returns : goal.returns
returns c =
    let a = c.args in
    rw c.open.ensures
    (line_leads a.part.now a.i (omega arith) a.q _ _ _ _ c.line_tail-tail.ensures (omega arith) c.mark.ensures c.marks_end-end.ensures
    c.is_hidden-hidden.ensures)
