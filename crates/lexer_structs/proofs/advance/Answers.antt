-- `advance` is right because each answer of a step has its token and its cursor, or none and the same cursor.
use mathlib.Core.Path.{sym, ap, ◌∙◌}
use Rattle.std.specs.Prelude.{Ok}
use Rattle.lexer_structs.proofs.TurnLaws.{next_given, next_end, next_refused}
use Rattle.lexer_structs.proofs.advance.Goals as goal

pub returns-in-Ok-Some : goal.returns-in-Ok-Some
returns-in-Ok-Some c = next_given _ _ _ _ (sym c.step.ensures.answer ∙ c.in-Ok-Some.is ∙ ap Ok c.in-Ok-Some.field-0-is)

pub returns-in-Ok-None : goal.returns-in-Ok-None
returns-in-Ok-None c = next_end _ _ _ c.blank.ensures (sym c.step.ensures.answer ∙ c.in-Ok-None.is ∙ ap Ok c.in-Ok-None.field-0-is)

pub returns-in-Err : goal.returns-in-Err
returns-in-Err c = next_refused _ _ _ c.blank-in-Err.ensures _ (sym c.step.ensures.answer ∙ c.in-Err.is)
