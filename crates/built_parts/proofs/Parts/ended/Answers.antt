-- `ended` is right by the cases of the rule, in their order: refused after the end, past the limit, inside a character, and for want
-- of records; else the last tokens are put.
use mathlib.Core.Path.{sym, ◌∙◌}
use native.Mathlib.Omega.{arith}
use Rattle.std.proofs.lemmas.Result.{err_from_is_err_and}
use Rattle.built_parts.proofs.AnswerLaws.{close_over, close_long, close_bad, close_few, close_given, whole_by}
use Rattle.built_parts.proofs.Parts.ended.Goals as goal

pub returns-then-is_over : goal.returns-then-is_over
returns-then-is_over c = close_over c.args.self c.args.records.now (sym c.is_over.ensures ∙ c.if-is_over.true)

pub returns-then-at-gt-LIMIT : goal.returns-then-at-gt-LIMIT
returns-then-at-gt-LIMIT c =
    close_long c.args.self c.args.records.now (sym c.is_over.ensures ∙ c.if-is_over.false) (omega arith)

pub returns-in-Begun : goal.returns-in-Begun
returns-in-Begun c =
    close_bad c.args.self c.args.records.now (sym c.is_over.ensures ∙ c.if-is_over.false) c.if-at-gt-LIMIT.false _ _ _ c.in-Begun.is

pub returns-in_err-lexed : goal.returns-in_err-lexed
returns-in_err-lexed c =
    let p = err_from_is_err_and c.from_residual.result c.from_residual.ensures.1 in
    rw (p.1, p.2)
    (close_few c.args.self c.args.records.now (sym c.is_over.ensures ∙ c.if-is_over.false) c.if-at-gt-LIMIT.false
    (whole_by c.args.self.character c.in_default.not-Begun) _ _ c.in_err-lexed.ensures.answer c.in_err-lexed.ensures.memory)

pub returns : goal.returns
returns c =
    rw c.closed.ensures
    (close_given c.args.self c.args.records.now (sym c.is_over.ensures ∙ c.if-is_over.false) c.if-at-gt-LIMIT.false
    (whole_by c.args.self.character c.in_default.not-Begun) _ _ c.in_ok-lexed.ensures.answer c.in_ok-lexed.ensures.memory)
