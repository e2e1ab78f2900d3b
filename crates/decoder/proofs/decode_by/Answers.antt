-- `decode_by` is right because it asks in the order of the refusals: the check, then kind and edition, then the lent memory.
use Rattle.std.proofs.Common.{length, ◌∙◌}
use Rattle.std.proofs.lemmas.Result.{err_from_is_err_and}
use Rattle.decoder_rules.proofs.NumberLaws.{decoded_numbers}
use Rattle.decoder_rules.proofs.DecodeLaws.{decode_invalid, decode_valid}
use Rattle.decoder.proofs.decode_by.Goals as goal

pub returns-in_err-check_utf8-clause-answer : goal.returns-in_err-check_utf8-clause-answer
returns-in_err-check_utf8-clause-answer g c =
    let a = c.args in
    let up = err_from_is_err_and c.from_residual.result c.from_residual.ensures.1 in
    rw (up.1, up.2) (decode_invalid a.text.now a.edition a.kind (length a.output.now) (length a.errors.now) _ c.in_err-check_utf8.ensures.answer)

pub returns : goal.returns
returns g c =
    let a = c.args in
    let d = c.decode_chosen.ensures in
    let chosen = c.choice_by.ensures in
    let o = length a.output.now in
    let e = length a.errors.now in
    let answer = rw chosen at d.answer ∙ decode_valid a.text.now a.edition a.kind o e c.in_ok-check_utf8.ensures.answer in
    let told = decoded_numbers a.text.now a.edition a.kind o e _ answer in
    record {
      answer = answer;
      output = rw chosen at d.output;
      records = rw chosen at d.records;
      number = told.0;
      value = told.1.0;
      noted = told.1.1.0;
      length = told.1.1.1;
    }
