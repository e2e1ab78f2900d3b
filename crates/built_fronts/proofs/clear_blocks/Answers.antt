-- `clear_blocks` is right because plain ASCII is gone over.
use Rattle.std.proofs.Common.{arith}
use Rattle.built_fronts.proofs.LineLaws.{sound_to}
use Rattle.built_fronts.proofs.clear_blocks.Goals as goal

pub returns-in-Ok : goal.returns-in-Ok
returns-in-Ok c =
    let a = c.args in
    let found = c.in-Ok.ensures in
    sound_to a.line a.doc.now c.mark_of.result c.stop_of.result a.start c.in-Ok.found c.mark_of.ensures c.stop_of.ensures c.requires
    (omega (arith, found)) (omega (arith, found))

pub returns-in-Err : goal.returns-in-Err
returns-in-Err c =
    let a = c.args in
    let on = c.in-Err.ensures in
    sound_to a.line a.doc.now c.mark_of.result c.stop_of.result a.start c.in-Err.rest c.mark_of.ensures c.stop_of.ensures c.requires
    on.0 (omega (arith, on.1))
