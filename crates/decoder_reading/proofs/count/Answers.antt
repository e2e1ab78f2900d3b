-- `count` is right because the bytes and the errors so far, with what the pieces still to come give and note, make the whole.
use Rattle.std.proofs.Common.{◌≡◌, ℕ, ◌+◌, ◌≤◌, Some, List, length, sym, arith, length-take, length-drop}
use Rattle.decoder_rules.specs.declared.Encoding.{Encoding}
use Rattle.decoder_rules.specs.declared.Piece.{Piece}
use Rattle.decoder_rules.specs.Pieces.{gives, notes}
use Rattle.decoder_rules.specs.Bodies.{piece_of}
use Rattle.decoder_rules.proofs.Fine.{FineAt, Turn, turn_fine}
use Rattle.decoder_rules.proofs.BodyLaws.{piece_fine}
use Rattle.decoder_rules.proofs.LoopLaws.{count_start, count_end}
use Rattle.decoder_pieces.specs.Steps.{body_bytes, body_after, body_step}
use Rattle.decoder_pieces.specs.declared.body.Body.{Body}
use Rattle.decoder_pieces.proofs.StepLaws.{step_turn, none_left, at_piece}
use Rattle.decoder_reading.proofs.CountLaws.{CountedTo, count_on}
use Rattle.decoder_reading.proofs.count.Goals as goal

-- A body has no more bytes than its text.
within : (b : Body) (t : List ℕ) → length (body_bytes b t) ≤ length t
within b t = rw (length-take, length-drop) (omega arith)

-- A step that answers a piece: it is the rule's, which is fine, and the body after it is the next one.
module _ (e : Encoding) (t : List ℕ) (b : Body) (p : Piece) (n : Body) (read : Some (p, n) ≡ body_step e t b) where
  turned : Turn (piece_of e) b.dropping b.at (body_bytes b t) p
  turned = (step_turn e t b p n (sym read)).0

  next : n ≡ body_after b p
  next = (step_turn e t b p n (sym read)).1

  fine : FineAt p (body_bytes b t)
  fine = turn_fine (piece_fine e) turned

  -- What it gives and what it notes are counted.
  again : (start : Body) (i j w k : ℕ) → CountedTo e t start b i j → w ≡ length (gives p (body_bytes b t)) → k ≡ length (notes p)
      → CountedTo e t start n (i + w) (j + k)
  again start i j w k so gave noted = rw next (count_on e t start b p turned so w k gave noted)

pub loop-p-init : goal.loop-p-init
loop-p-init g c =
    let a = c.args in
    count_start (piece_of a.e) a.start.dropping a.start.at (body_bytes a.start a.text.now)

pub width-bytes-requires : goal.width-bytes-requires
width-bytes-requires g c = (fine c.args.e c.args.text.now c.loop-p.body c.in-Some.p c.in-Some.next c.in-Some.ensures).char

pub overflow_add-bytes : goal.overflow_add-bytes
overflow_add-bytes g c =
    let a = c.args in
    let piece = fine a.e a.text.now c.loop-p.body c.in-Some.p c.in-Some.next c.in-Some.ensures in
    let gave = c.width-bytes.ensures _ piece.fits in
    omega (arith, gave, piece.small, piece.fits, c.loop-p.invariant.small, within a.start a.text.now)

pub overflow_add-errors : goal.overflow_add-errors
unfolding notes
overflow_add-errors g c =
    let a = c.args in
    let piece = fine a.e a.text.now c.loop-p.body c.in-Some.p c.in-Some.next c.in-Some.ensures in
    let gave = c.width-bytes.ensures _ piece.fits in
    let so = again a.e a.text.now c.loop-p.body c.in-Some.p c.in-Some.next c.in-Some.ensures a.start _ _ _ _
    c.loop-p.invariant gave c.noted-errors.ensures in
    omega (arith, so.few, within a.start a.text.now)

pub loop-p-smaller : goal.loop-p-smaller
loop-p-smaller g c =
    let step = at_piece c.args.e c.args.text.now c.loop-p.body c.in-Some.p c.in-Some.next (sym c.in-Some.ensures) in
    omega (arith, step.some, step.fewer)

pub loop-p-preserved : goal.loop-p-preserved
unfolding notes
loop-p-preserved g c =
    let a = c.args in
    let piece = fine a.e a.text.now c.loop-p.body c.in-Some.p c.in-Some.next c.in-Some.ensures in
    let gave = c.width-bytes.ensures _ piece.fits in
    again a.e a.text.now c.loop-p.body c.in-Some.p c.in-Some.next c.in-Some.ensures a.start _ _ _ _
    c.loop-p.invariant gave c.noted-errors.ensures

pub returns : goal.returns
returns g c =
    let l = c.loop-p in
    let whole = count_end (none_left c.args.e c.args.text.now l.body (sym c.in_default.ensures)) l.invariant in
    rw (whole.0, whole.1)
