-- `token_at` is right because a step from a cursor before the end of a document within the limit gives the token there: it
-- neither ends nor is refused.
use Rattle.std.proofs.Common.{◌≡◌, Ok, None, sym, ap, ◌∙◌, rules}
use Rattle.built_mending.proofs.TokenLaws.{step_gives, not_end, not_refused}
use Rattle.built_mending.proofs.token_at.Goals as goal

pub returns-in-Ok-Some : goal.returns-in-Ok-Some
returns-in-Ok-Some c =
    let a = c.args in
    let pre = c.requires in
    let given = step_gives a.doc.now pre.2 a.at a.line pre.0 pre.1 _ _
    (sym c.in-Ok-Some.ensures.answer ∙ ap Ok c.in-Ok-Some.field-0-is) in
    record { token = given.0; line = given.1 }

pub returns-in_default : goal.returns-in_default
returns-in_default c =
    let a = c.args in
    let pre = c.requires in
    let none : c.in_default.field-0 ≡ None = search rules in
    absurd (not_end a.doc.now pre.2 a.at a.line pre.0 pre.1 (sym c.step_by.ensures.answer ∙ c.in_default.is ∙ ap Ok none))

pub returns-in_default-2 : goal.returns-in_default-2
returns-in_default-2 c =
    let a = c.args in
    let pre = c.requires in
    absurd (not_refused a.doc.now pre.2 a.at a.line pre.0 pre.1 _ (sym c.step_by.ensures.answer ∙ c.in_default.is))
