-- `own_blocks` is right because nothing is left of a run where it ends.
use Rattle.std.proofs.Common.{arith}
use Rattle.lexer_comments.specs.Fronts.{own_byte}
use Rattle.lexer_comments.proofs.FrontLaws.{run_behind}
use Rattle.lexer_comments.proofs.own_blocks.Goals as goal

pub returns-in-Ok : goal.returns-in-Ok
returns-in-Ok c =
    let a = c.args in
    let found = c.in-Ok.ensures in
    rw found (omega arith, omega (arith, run_behind own_byte a.doc.now a.start))
