-- `is_ticked` is right because its first test is the rule's, and because an `and` with the reviewer's bit is 0 just where it is clear.
use Rattle.std.proofs.Common.{ℕ, ◌<◌, length, get_or, Ok, Err, refl, sym, ap, ◌∙◌, arith}
use Rattle.std.proofs.lemmas.Result.{err_from_is_err_and}
use Rattle.built_review.proofs.BitLaws.{bit_told}
use Rattle.built_review.proofs.CountLaws.{told_by}
use Rattle.built_review.proofs.TableLaws.{serves, read_refused, read_bit}
use Rattle.built_review.proofs.NumberLaws.{asked}
use Rattle.built_review.proofs.is_ticked.Goals as goal

pub returns-in_err-serve : goal.returns-in_err-serve
returns-in_err-serve c =
    let is = c.args in
    let p = err_from_is_err_and c.from_residual.result c.from_residual.ensures.1 in
    asked _ is.marks.now _ _ _
    (p.1 ∙ ap Err p.2 ∙ sym (read_refused (length is.records.now) is.marks.now is.reviewer is.token _ (sym c.in_err-serve.ensures)))

pub bounds-marks-token : goal.bounds-marks-token
bounds-marks-token c = let s = serves _ _ _ _ (sym c.in_ok-serve.ensures) in omega arith

pub own_bit-requires : goal.own_bit-requires
own_bit-requires c = (serves _ _ _ _ (sym c.in_ok-serve.ensures)).known

pub returns : goal.returns
returns c =
    let is = c.args in
    let done = sym c.in_ok-serve.ensures in
    let mark = get_or is.marks.now is.token 0 in
    let small : mark < 256 = omega (arith, c.type_inv.marks is.token) in
    let told = c.holds.ensures ∙ ap (λ (own : ℕ). told_by own mark) c.own_bit.ensures
    ∙ bit_told is.reviewer mark (serves _ _ _ _ done).known small in
    asked _ is.marks.now _ _ _
    (ap Ok told ∙ sym (read_bit (length is.records.now) is.marks.now is.reviewer is.token done _ refl))
