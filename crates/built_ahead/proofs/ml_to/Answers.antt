-- `ml_to` is right because the string ends within the part, or goes on: then up to the marks at the part's end its bytes lead to a
-- mode that is known by whether they hide the next one.
use native.Mathlib.Omega.{arith}
use Rattle.built_ahead.proofs.LookLaws.{ml_leads}
use Rattle.built_ahead.proofs.ml_to.Goals as goal

pub returns : goal.returns
returns c =
    let a = c.args in
    ml_leads a.part.now a.i (omega arith) a.q _ _ _ _ _ c.ml_tail-tail.ensures (omega arith) c.mark.ensures c.marks_end-end.ensures
    c.is_hidden-hidden.ensures c.feeds-2.ensures
