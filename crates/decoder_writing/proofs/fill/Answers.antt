-- `fill` is right because the errors of the two marks and those of the body are stored one after the other, and so are the bytes
-- that stand for themselves at the front of the body and those of the rest.
use Rattle.std.proofs.Common.{◌≡◌, ℕ, ◌+◌, ◌^◌, ◌<◌, ◌≤◌, List, ◌++◌, length, take, ap, ◌∙◌, arith, length-append, length-take-le}
use Rattle.text_classes.specs.Runs.{run}
use Rattle.decoder_rules.specs.declared.Encoding.{Encoding}
use Rattle.decoder_rules.specs.Encodings.{plain}
use Rattle.decoder_rules.specs.Pieces.{copy_piece}
use Rattle.decoder_rules.specs.Decoding.{bytes_of}
use Rattle.decoder_rules.proofs.StoreLaws.{store_append}
use Rattle.decoder_pieces.specs.declared.body.Body.{Body}
use Rattle.decoder_pieces.specs.Steps.{body_bytes, body_after, body_past, bytes_left, errors_left}
use Rattle.decoder_pieces.proofs.StepLaws.{past_fits, plain_fits, bytes_after, errors_after}
use Rattle.decoder_marks.specs.declared.Opened.{Opened}
use Rattle.decoder_marks.specs.Opening.{opened_of}
use Rattle.decoder_marks.proofs.OpenLaws.{opened_bytes, opened_errors, opened_fits, opened_outside}
use Rattle.decoder_writing.proofs.WriteLaws.{error_parts}
use Rattle.decoder_writing.proofs.fill.Goals as goal

module _ (e : Encoding) (t : List ℕ) (o : Opened) (opens : o ≡ opened_of e t) where
  -- The body lies within the text.
  fit : (o.body.at ≤ o.body.end) × (o.body.end ≤ length t)
  fit = opened_fits e t o opens

  -- k bytes at the front of the body stand for themselves.
  module _ (k : ℕ) (is : k ≡ run (plain e) (body_bytes o.body t)) where
    -- what is left after them
    abbrev Left : Body
    Left = body_after o.body (copy_piece k)

    fits : (k ≤ length (body_bytes o.body t)) × (o.body.at + k ≤ o.body.end)
    fits = plain_fits e t o.body (opened_outside e t o opens) fit.0 k is

    -- the bytes in two parts, with their lengths, and the errors
    bytes_two : bytes_of e t ≡ take k (body_bytes o.body t) ++ bytes_left e t Left
    bytes_two = opened_bytes e t o opens ∙ bytes_after e t o.body (opened_outside e t o opens) fit.0 k is

    sizes : length (bytes_of e t) ≡ k + length (bytes_left e t Left)
    sizes =
        let sum = simp length-append at (ap length bytes_two) in
        omega (arith, sum, length-take-le k (body_bytes o.body t) fits.0)

    errors_two : errors_left e t o.body ≡ errors_left e t Left
    errors_two = errors_after e t o.body (opened_outside e t o opens) fit.0 k is

    past_is : length t < 2 ^ 64 → body_past o.body k ≡ Left
    past_is h = past_fits o.body k (omega (arith, fits, fit))

pub note-m-requires : goal.note-m-requires
note-m-requires g c = omega (arith, error_parts c.args.e c.args.text.now c.args.opened c.requires.0)

pub note-m2-requires : goal.note-m2-requires
note-m2-requires g c = omega (arith, error_parts c.args.e c.args.text.now c.args.opened c.requires.0, c.note-m.ensures.place)

pub slice_bounds-s-count : goal.slice_bounds-s-count
slice_bounds-s-count g c = (fit c.args.e c.args.text.now c.args.opened c.requires.0).0

pub slice_bounds-s-start : goal.slice_bounds-s-start
slice_bounds-s-start g c = (fit c.args.e c.args.text.now c.args.opened c.requires.0).0

pub slice_bounds-s-end : goal.slice_bounds-s-end
slice_bounds-s-end g c = (fit c.args.e c.args.text.now c.args.opened c.requires.0).1

pub copy_in-o-requires : goal.copy_in-o-requires
copy_in-o-requires g c =
    let a = c.args in
    let k = c.plain_run-plain.result in
    let size = sizes a.e a.text.now a.opened c.requires.0 k c.plain_run-plain.ensures in
    ((fits a.e a.text.now a.opened c.requires.0 k c.plain_run-plain.ensures).0, omega (arith, size, c.requires.1))

pub write-requires : goal.write-requires
write-requires g c =
    let a = c.args in
    let t = a.text.now in
    let o = a.opened in
    let k = c.plain_run-plain.result in
    let two = errors_two a.e t o c.requires.0 k c.plain_run-plain.ensures in
    let within = fits a.e t o c.requires.0 k c.plain_run-plain.ensures in
    let size = length-take-le k (body_bytes o.body t) within.0 in
    let past = c.past.ensures ∙ past_is a.e t o c.requires.0 k c.plain_run-plain.ensures (omega arith) in
    rw past (
      (fit a.e t o c.requires.0).1,
      omega (arith, sizes a.e t o c.requires.0 k c.plain_run-plain.ensures, c.copy_in-o.ensures.place, size, c.requires.1),
      omega (arith, error_parts a.e t o c.requires.0, ap length two, c.note-m.ensures.place, c.note-m2.ensures.place, c.requires.2),
    )

pub returns : goal.returns
returns g c =
    let a = c.args in
    let t = a.text.now in
    let o = a.opened in
    let k = c.plain_run-plain.result in
    let two = errors_two a.e t o c.requires.0 k c.plain_run-plain.ensures in
    let past = c.past.ensures ∙ past_is a.e t o c.requires.0 k c.plain_run-plain.ensures (omega arith) in
    let written = rw past at c.write.ensures.output in
    let noted = rw past at c.write.ensures.records in
    record {
      output = rw (bytes_two a.e t o c.requires.0 k c.plain_run-plain.ensures) (store_append c.copy_in-o.ensures written);
      records = rw (opened_errors a.e t o c.requires.0, two) (store_append c.note-m.ensures (store_append c.note-m2.ensures noted));
    }
