-- `passed` is right because what the check of whole documents says of the bytes from a place on is what they come to byte by byte.
use mathlib.Core.Path.{sym, ◌∙◌}
use native.Mathlib.Omega.{arith}
use Rattle.built_parts.proofs.PassLaws.{pass_none, pass_valid, pass_stopped}
use Rattle.built_parts.proofs.checks.passed.Goals as goal

pub overflow_add-i : goal.overflow_add-i
overflow_add-i c =
    let a = c.args in
    let h = pass_stopped a.part.now a.i (omega arith) _ (omega arith) (sym c.check_utf8.ensures.answer ∙ c.in-Err.is) in
    omega (arith, h.0, c.value.ensures)

pub returns-in-Begun : goal.returns-in-Begun
returns-in-Begun c = pass_none c.args.part.now c.args.i (omega arith) c.args.c

pub returns-in-Ok : goal.returns-in-Ok
returns-in-Ok c =
    rw c.in-Whole.is (pass_valid c.args.part.now c.args.i (omega arith) (sym c.check_utf8.ensures.answer ∙ c.in-Ok.is))

pub returns-in-Err : goal.returns-in-Err
returns-in-Err c =
    let a = c.args in
    let h = pass_stopped a.part.now a.i (omega arith) _ (omega arith) (sym c.check_utf8.ensures.answer ∙ c.in-Err.is) in
    rw (c.in-Whole.is, c.stopped.ensures, c.value.ensures, c.length.ensures) h.1
