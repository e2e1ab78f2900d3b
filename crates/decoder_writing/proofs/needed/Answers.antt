-- `needed` is right because the errors of the two marks and those of the body are all there are.
use Rattle.std.proofs.Common.{length, sym, ap, ◌∙◌, arith}
use Rattle.decoder_rules.proofs.Bounds.{errors_few}
use Rattle.decoder_marks.proofs.OpenLaws.{opened_bytes}
use Rattle.decoder_reading.specs.declared.Counts.{Counts}
use Rattle.decoder_writing.proofs.WriteLaws.{error_parts}
use Rattle.decoder_writing.proofs.needed.Goals as goal

-- the sums stay small
pub overflow_add-result : goal.overflow_add-result
overflow_add-result g c =
    let a = c.args in
    let body = ap (λ (x : Counts). x.errors) c.count-c.ensures in
    omega (arith, error_parts a.e a.text.now a.opened c.requires, body, c.noted.ensures, c.noted-2.ensures, errors_few a.e a.text.now)

pub overflow_add-result-2 : goal.overflow_add-result-2
overflow_add-result-2 g c =
    let a = c.args in
    let body = ap (λ (x : Counts). x.errors) c.count-c.ensures in
    omega (arith, error_parts a.e a.text.now a.opened c.requires, body, c.noted.ensures, c.noted-2.ensures, errors_few a.e a.text.now)

pub returns : goal.returns
returns g c =
    let a = c.args in
    let bytes = ap (λ (x : Counts). x.bytes) c.count-c.ensures in
    let errors = ap (λ (x : Counts). x.errors) c.count-c.ensures in
    record {
      bytes = bytes ∙ sym (ap length (opened_bytes a.e a.text.now a.opened c.requires));
      errors = omega (arith, error_parts a.e a.text.now a.opened c.requires, errors, c.noted.ensures, c.noted-2.ensures);
    }
