-- `step_by` is right because the engine says what stands at the cursor; else the step is one at the end.
use native.Mathlib.Omega.{arith}
use Rattle.lexer.proofs.FoundLaws.{found_few}
use Rattle.lexer.proofs.StepLaws.{stepped_over}
use Rattle.lexer.proofs.Cursor.step_by.Goals as goal

pub step_of-requires : goal.step_of-requires
step_of-requires g c =
    let before = c.is_before_the_end.ensures.0 c.if-is_before_the_end.true in
    omega (arith, before, found_few c.args.doc.now _ c.step_token-found.ensures)

pub returns-then-is_before_the_end-clause-answer : goal.returns-then-is_before_the_end-clause-answer
returns-then-is_before_the_end-clause-answer g c =
    let is = c.args in
    let before = c.is_before_the_end.ensures.0 c.if-is_before_the_end.true in
    stepped_over is.doc.now is.self before _ _ c.step_token-found.ensures c.step_of.ensures
