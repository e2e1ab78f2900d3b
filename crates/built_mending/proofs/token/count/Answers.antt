-- `count` is right because n and m, with what the pieces still to come are written with and note, make the whole.
use Rattle.std.proofs.Common.{◌≤◌, length, refl, sym, arith, length-take, length-drop}
use Rattle.decoder_rules.specs.Pieces.{notes}
use Rattle.decoder_pieces.specs.Steps.{body_bytes}
use Rattle.decoder_pieces.proofs.StepLaws.{none_left, at_piece}
use Rattle.built_mending.proofs.PieceLaws.{step_fine, step_within, step_end, count_start, count_turn, count_end}
use Rattle.built_mending.proofs.token.count.Goals as goal

pub loop-piece-init : goal.loop-piece-init
loop-piece-init c = (c.requires.0, count_start c.args.e c.args.text.now c.args.start)

pub slice_bounds-given_width-count : goal.slice_bounds-given_width-count
slice_bounds-given_width-count c = (step_within c.args.e c.args.text.now c.loop-piece.body _ _ (sym c.in-Some.ensures)).0

pub slice_bounds-given_width-start : goal.slice_bounds-given_width-start
slice_bounds-given_width-start c =
    let fits = step_within c.args.e c.args.text.now c.loop-piece.body _ _ (sym c.in-Some.ensures) in
    omega (arith, fits.0, fits.1)

pub given_width-n-requires : goal.given_width-n-requires
given_width-n-requires c =
    let a = c.args in
    let b = c.loop-piece.body in
    let small : length (body_bytes b a.text.now) ≤ length a.text.now = rw (length-take, length-drop) (omega arith) in
    (step_fine a.e a.text.now b _ _ (sym c.in-Some.ensures), omega arith)

pub overflow_add-n : goal.overflow_add-n
overflow_add-n c =
    let a = c.args in
    let l = c.loop-piece in
    let t = count_turn a.e a.text.now a.start l.body _ _ (sym c.in-Some.ensures) l.invariant.1 c.given_width-n.ensures refl in
    let small : length (body_bytes a.start a.text.now) ≤ length a.text.now = rw (length-take, length-drop) (omega arith) in
    omega (arith, t.small)

pub overflow_add-m : goal.overflow_add-m
unfolding notes
overflow_add-m c =
    let a = c.args in
    let l = c.loop-piece in
    let t =
    count_turn a.e a.text.now a.start l.body _ _ (sym c.in-Some.ensures) l.invariant.1 c.given_width-n.ensures
    c.noted-m.ensures in
    let small : length (body_bytes a.start a.text.now) ≤ length a.text.now = rw (length-take, length-drop) (omega arith) in
    omega (arith, t.few)

pub loop-piece-smaller : goal.loop-piece-smaller
loop-piece-smaller c =
    let piece = at_piece c.args.e c.args.text.now c.loop-piece.body _ _ (sym c.in-Some.ensures) in
    omega (arith, piece.some, piece.fewer)

pub loop-piece-preserved : goal.loop-piece-preserved
unfolding notes
loop-piece-preserved c =
    let a = c.args in
    let l = c.loop-piece in
    let step = sym c.in-Some.ensures in (
      omega (arith, step_end a.e a.text.now l.body _ _ step, l.invariant.0),
      count_turn a.e a.text.now a.start l.body _ _ step l.invariant.1 c.given_width-n.ensures c.noted-m.ensures,
    )

pub returns : goal.returns
returns c =
    let a = c.args in
    let l = c.loop-piece in
    let end = count_end a.e a.text.now a.start (none_left a.e a.text.now l.body (sym c.in_default.ensures)) l.invariant.1 in
    record { bytes = end.0; records = end.1 }
