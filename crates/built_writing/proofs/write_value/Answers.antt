-- `write_value` is right because it asks in the order of the refusals: the check, then the output.
use Rattle.std.proofs.Common.{length, sym, ◌∙◌}
use Rattle.std.proofs.lemmas.Result.{err_from_is_err_and}
use Rattle.text.proofs.AnswerLaws.{checked}
use Rattle.built_writing.proofs.TextLaws.{answer_refused, answer_checked}
use Rattle.built_writing.proofs.NumberLaws.{wrote}
use Rattle.built_writing.proofs.write_value.Goals as goal

pub write_checked-requires : goal.write_checked-requires
write_checked-requires c =
    (checked c.args.value.now (sym c.in_ok-check_utf8.ensures.answer)).0

pub returns-in_err-check_utf8 : goal.returns-in_err-check_utf8
returns-in_err-check_utf8 c =
    let a = c.args in
    let o = length a.output.now in
    let up = err_from_is_err_and c.from_residual.result c.from_residual.ensures.1 in
    wrote a.value.now o _ (rw (up.1, up.2) (answer_refused a.value.now o _ c.in_err-check_utf8.ensures.answer)) (rw up.1)

pub returns : goal.returns
returns c =
    let a = c.args in
    let o = length a.output.now in
    let done = c.write_checked.ensures in
    wrote a.value.now o _ (done.answer ∙ answer_checked a.value.now o c.in_ok-check_utf8.ensures.answer) done.output
