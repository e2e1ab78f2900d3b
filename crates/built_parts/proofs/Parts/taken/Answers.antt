-- `taken` is right by the cases of the rule, in their order: refused after the end, past the limit, where the characters cannot be
-- mended, and for want of records; else the part is lexed.
use mathlib.Core.Path.{sym, ◌∙◌}
use lib.ListN.{length}
use Rattle.std.proofs.lemmas.Result.{err_from_is_err_and}
use Rattle.built_lexing.proofs.FillLaws.{part_fits}
use Rattle.built_parts.proofs.AnswerLaws.{feed_over, feed_long, feed_bad, feed_few, feed_given}
use Rattle.built_parts.proofs.Parts.taken.Goals as goal

pub returns-then-is_over : goal.returns-then-is_over
returns-then-is_over c =
    feed_over c.args.self c.args.part.now c.args.records.now (sym c.is_over.ensures ∙ c.if-is_over.true)

pub returns-then-passes_limit : goal.returns-then-passes_limit
returns-then-passes_limit c =
    feed_long c.args.self c.args.part.now c.args.records.now (sym c.is_over.ensures ∙ c.if-is_over.false) (sym c.passes_limit.ensures ∙ c.if-passes_limit.true)

pub check_part-requires : goal.check_part-requires
check_part-requires c =
    part_fits c.args.self.lexing.at (length c.args.part.now) c.passes_limit.result c.passes_limit.ensures c.if-passes_limit.false

pub returns-in_err-checked : goal.returns-in_err-checked
returns-in_err-checked c =
    let p = err_from_is_err_and c.from_residual.result c.from_residual.ensures.1 in
    rw (p.1, p.2)
    (feed_bad c.args.self c.args.part.now c.args.records.now (sym c.is_over.ensures ∙ c.if-is_over.false) (sym c.passes_limit.ensures ∙ c.if-passes_limit.false) _ (sym c.in_err-checked.ensures))

pub returns-in_err-lexed : goal.returns-in_err-lexed
returns-in_err-lexed c =
    let p = err_from_is_err_and c.from_residual-in_err-lexed.result c.from_residual-in_err-lexed.ensures.1 in
    rw (p.1, p.2)
    (feed_few c.args.self c.args.part.now c.args.records.now (sym c.is_over.ensures ∙ c.if-is_over.false) (sym c.passes_limit.ensures ∙ c.if-passes_limit.false) _ (sym c.in_ok-checked.ensures) _ _ c.in_err-lexed.ensures.answer c.in_err-lexed.ensures.memory)

pub returns : goal.returns
returns c =
    feed_given c.args.self c.args.part.now c.args.records.now (sym c.is_over.ensures ∙ c.if-is_over.false) (sym c.passes_limit.ensures ∙ c.if-passes_limit.false) _ (sym c.in_ok-checked.ensures) _ _ c.in_ok-lexed.ensures.answer c.in_ok-lexed.ensures.memory
