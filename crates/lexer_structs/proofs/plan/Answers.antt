-- `plan` is right because whole lexing into one record answers how many tokens are needed, or a refusal that more records would
-- not change.
use mathlib.Core.Path.{sym, ap, ◌∙◌}
use Rattle.std.specs.Prelude.{Err}
use Rattle.lexer_structs.proofs.PlanLaws.{plan_tokens, plan_few, plan_other}
use Rattle.lexer_structs.proofs.plan.Goals as goal

pub returns-in-Ok : goal.returns-in-Ok
returns-in-Ok c = c.within.ensures ∙ plan_tokens _ _ _ _ (sym c.lex.ensures.answer ∙ c.in-Ok.is)

pub returns-in-FewTokens : goal.returns-in-FewTokens
returns-in-FewTokens c =
    c.within-in-FewTokens.ensures
    ∙ plan_few _ _ _ _
    (sym c.lex.ensures.answer
    ∙ c.in-Err.is ∙ ap Err c.in-FewTokens.is)

pub returns-in_default : goal.returns-in_default
returns-in_default c = plan_other _ _ _ _ (sym c.lex.ensures.answer ∙ c.in-Err.is) c.in_default.not-FewTokens
