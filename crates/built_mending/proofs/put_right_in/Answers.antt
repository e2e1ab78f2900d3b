-- `put_right_in` is right because it asks in the order of the refusals: the check, the edition, and then what fits.
use Rattle.std.proofs.Common.{Err, length, ap, sym, ◌∙◌}
use Rattle.std.proofs.lemmas.Result.{err_from_is_err_and}
use Rattle.text.proofs.AnswerLaws.{checked}
use Rattle.decoder_rules.proofs.EditionNumbers.{named_is, unnamed_is}
use Rattle.built_mending.proofs.AnswerLaws.{untouched, answer_refused, answer_unnamed, answer_mended}
use Rattle.built_mending.proofs.NumberLaws.{told}
use Rattle.built_mending.proofs.put_right_in.Goals as goal

pub mend-requires : goal.mend-requires
mend-requires c = (checked c.args.doc.now (sym c.in_ok-check_utf8.ensures.answer)).0

pub returns-in_err-check_utf8 : goal.returns-in_err-check_utf8
returns-in_err-check_utf8 c =
    let a = c.args in
    let p = err_from_is_err_and c.from_residual.result c.from_residual.ensures.1 in
    let refused = answer_refused a.doc.now a.edition (length a.output.now) (length a.records.now) _ c.in_err-check_utf8.ensures.answer in
    let is = p.1 ∙ ap Err p.2 in
    told a.doc.now a.edition (length a.output.now) (length a.records.now) _ (is ∙ refused) (untouched _ _ is _ _) (untouched _ _ is _ _)

pub returns-in_err-try_from : goal.returns-in_err-try_from
returns-in_err-try_from c =
    let a = c.args in
    let o = length a.output.now in
    let m = length a.records.now in
    let p = err_from_is_err_and c.from_residual-in_err-try_from.result c.from_residual-in_err-try_from.ensures.1 in
    let none = unnamed_is a.edition _ c.in_err-try_from.ensures in
    let unnamed = answer_unnamed a.doc.now a.edition o m c.in_ok-check_utf8.ensures.answer none.0 in
    let is = p.1 ∙ ap Err (p.2 ∙ none.1) in
    told a.doc.now a.edition o m _ (is ∙ unnamed) (untouched _ _ is _ _) (untouched _ _ is _ _)

pub returns : goal.returns
returns c =
    let a = c.args in
    let o = length a.output.now in
    let m = length a.records.now in
    let named = named_is a.edition _ c.in_ok-try_from.ensures in
    let done = c.mend.ensures in
    told a.doc.now a.edition o m _ (done.answer ∙ answer_mended a.doc.now a.edition o m c.in_ok-check_utf8.ensures.answer named)
    done.output done.records
