-- `decode_as` is right because it writes only where there is room for all, which it has counted, or which no text can pass.
use Rattle.std.proofs.Common.{ℕ, ◌+◌, ◌/◌, ◌≤◌, List, length, refl, arith}
use Rattle.decoder_rules.specs.declared.Encoding.{Encoding}
use Rattle.decoder_rules.specs.Decoding.{bytes_of, errors_of}
use Rattle.decoder_rules.proofs.StoreLaws.{front_long, overwritten}
use Rattle.decoder_rules.proofs.DecodeLaws.{fitted_short, fitted_few, fitted_written}
use Rattle.decoder_rules.proofs.Bounds.{bytes_most, errors_few}
use Rattle.decoder_writing.proofs.decode_as.Goals as goal
use Rattle.decoder_writing.proofs.decode_as.Goals.{then-not-is_roomy+else-output-need+else-errors-need, else-not-is_roomy}

-- There is room for all of it where no text needs more.
module _ (e : Encoding) (t : List ℕ) (o m : ℕ) where
  abbrev Room : Type 0
  Room = (length (bytes_of e t) ≤ o) × (length (errors_of e t) ≤ m)

  roomy : (length t + length t / 2 ≤ o) × (length t + 2 ≤ m) → Room
  roomy h = (omega (arith, bytes_most e t, h.0), omega (arith, errors_few e t, h.1))

pub returns-then-output-need : goal.returns-then-output-need
returns-then-output-need g c =
    let a = c.args in
    let n = c.needed-need in
    let short = fitted_short (bytes_of a.e a.text.now) (errors_of a.e a.text.now) (length a.output.now) (length a.errors.now) in
    record { answer = short _ n.ensures.bytes c.if-output-need.true; output = refl; records = refl }

pub returns-then-errors-need : goal.returns-then-errors-need
returns-then-errors-need g c =
    let a = c.args in
    let n = c.needed-need in
    let few = fitted_few (bytes_of a.e a.text.now) (errors_of a.e a.text.now) (length a.output.now) (length a.errors.now) in
    record {
      answer = few _ _ n.ensures.bytes n.ensures.errors c.if-output-need.false c.if-errors-need.true;
      output = refl;
      records = refl;
    }

-- Else it was counted.
pub fill-requires : goal.fill-requires
fill-requires g c =
    let a = c.args in
    let room : Room a.e a.text.now (length a.output.now) (length a.errors.now) =
    elim c.if-not-is_roomy.branch [
      | then-not-is_roomy+else-output-need+else-errors-need w ↦
          (omega (arith, w.needed-need.ensures.bytes), omega (arith, w.needed-need.ensures.errors))
      | else-not-is_roomy w ↦ roomy a.e a.text.now _ _ (c.is_roomy.ensures w.if-not-is_roomy.false)
    ] in
    (c.open_text-opened.ensures, room.0, room.1)

pub returns : goal.returns
returns g c =
    let a = c.args in
    let output = c.fill.ensures.output in
    let records = c.fill.ensures.records in
    let room : Room a.e a.text.now (length a.output.now) (length a.errors.now) =
    elim c.if-not-is_roomy.branch [
      | then-not-is_roomy+else-output-need+else-errors-need w ↦
          (omega (arith, w.needed-need.ensures.bytes), omega (arith, w.needed-need.ensures.errors))
      | else-not-is_roomy w ↦ roomy a.e a.text.now _ _ (c.is_roomy.ensures w.if-not-is_roomy.false)
    ] in
    let answer = fitted_written (bytes_of a.e a.text.now) (errors_of a.e a.text.now) _ _ _ _ (front_long output) (front_long records) in
    record {
      answer = answer (omega (arith, room.0, output.place)) (omega (arith, room.1, records.place));
      output = overwritten output room.0;
      records = overwritten records room.1;
    }
