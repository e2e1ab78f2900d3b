-- `put_tick` is right because its first test is the rule's, and because `or` with the reviewer's bit sets that bit alone, and
-- `and` with all others clears it alone.
use Rattle.std.proofs.Common.{◌≡◌, ℕ, ◌-◌, ◌<◌, Bool, cond, get_or, bit_and, bit_or, Err, sym, ap, ◌∙◌, arith}
use Rattle.std.proofs.lemmas.Result.{err_from_is_err_and}
use Rattle.built_review.specs.Review.{put_bit}
use Rattle.built_review.proofs.BitLaws.{or_bit, and_not_bit}
use Rattle.built_review.proofs.TableLaws.{serves, marks_kept, marks_stored}
use Rattle.built_review.proofs.put_tick.Goals as goal
use Rattle.built_review.proofs.put_tick.Goals.{then-ticked, else-ticked}

pub returns-in_err-serve : goal.returns-in_err-serve
returns-in_err-serve c =
    let is = c.args in
    let p = err_from_is_err_and c.from_residual.result c.from_residual.ensures.1 in
    record {
      answer = p.1 ∙ ap Err p.2 ∙ c.in_err-serve.ensures;
      memory = sym (marks_kept _ is.records is.marks.now is.reviewer is.token _ (sym c.in_err-serve.ensures));
    }

pub own_bit-bit-requires : goal.own_bit-bit-requires
own_bit-bit-requires c = (serves _ _ _ _ (sym c.in_ok-serve.ensures)).known

pub bounds-marks-token : goal.bounds-marks-token
bounds-marks-token c = let s = serves _ _ _ _ (sym c.in_ok-serve.ensures) in omega arith

pub bounds-marks-token-2 : goal.bounds-marks-token-2
bounds-marks-token-2 c = let s = serves _ _ _ _ (sym c.in_ok-serve.ensures) in omega arith

pub returns : goal.returns
returns c =
    let is = c.args in
    let done = sym c.in_ok-serve.ensures in
    let known = (serves _ _ _ _ done).known in
    let own = c.own_bit-bit.ensures in
    let mark = get_or is.marks.now is.token 0 in
    let small : mark < 256 = omega arith in
    let put : Bool → ℕ = λ t. put_bit is.reviewer (cond t 1 0) mark in
    let byte : c.if-ticked.byte ≡ put is.ticked =
    elim c.if-ticked.branch [
      | then-ticked w ↦ w.byte-is ∙ ap (bit_or mark) own ∙ or_bit is.reviewer mark known small ∙ sym (ap put w.if-ticked.true)
      | else-ticked w ↦
          w.byte-is ∙ ap (λ (n : ℕ). bit_and mark (255 - n)) own ∙ and_not_bit is.reviewer mark known small
          ∙ sym (ap put w.if-ticked.false)
    ] in
    record { answer = sym done; memory = marks_stored _ is.records is.marks.now is.reviewer is.token _ done byte }
