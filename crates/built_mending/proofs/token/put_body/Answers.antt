-- `put_body` is right because what is left of the body, stored from o and m on, makes the whole.
use Rattle.std.proofs.Common.{sym, arith}
use Rattle.decoder_rules.specs.Pieces.{notes}
use Rattle.decoder_pieces.proofs.StepLaws.{none_left, at_piece}
use Rattle.built_mending.specs.Mending.{record_at}
use Rattle.built_mending.proofs.PieceLaws.{step_fine, step_within, step_end, write_start, write_room, write_turn, write_end}
use Rattle.built_mending.proofs.token.put_body.Goals as goal

pub loop-piece-init : goal.loop-piece-init
loop-piece-init c =
    let a = c.args in
    let f = record_at a.span.start a.span.end in
    (c.requires.0, write_start a.e a.text.now a.start f a.output.now a.o0 a.records.now a.m0)

pub slice_bounds-put_given-count : goal.slice_bounds-put_given-count
slice_bounds-put_given-count c = (step_within c.args.e c.args.text.now c.loop-piece.body _ _ (sym c.in-Some.ensures)).0

pub slice_bounds-put_given-start : goal.slice_bounds-put_given-start
slice_bounds-put_given-start c =
    let fits = step_within c.args.e c.args.text.now c.loop-piece.body _ _ (sym c.in-Some.ensures) in
    omega (arith, fits.0, fits.1)

pub put_given-o-requires : goal.put_given-o-requires
put_given-o-requires c =
    let a = c.args in
    let l = c.loop-piece in
    let step = sym c.in-Some.ensures in
    let f = record_at a.span.start a.span.end in
    let room =
    write_room a.e a.text.now a.start f a.output.now a.o0 a.records.now a.m0 l.body _ _ step l.invariant.1
    c.requires.1 c.requires.2 in
    (step_fine a.e a.text.now l.body _ _ step, room.0)

pub note-m-requires : goal.note-m-requires
unfolding notes
note-m-requires c =
    let a = c.args in
    let l = c.loop-piece in
    let f = record_at a.span.start a.span.end in
    let room =
    write_room a.e a.text.now a.start f a.output.now a.o0 a.records.now a.m0 l.body _ _ (sym c.in-Some.ensures)
    l.invariant.1 c.requires.1 c.requires.2 in
    room.1

pub loop-piece-smaller : goal.loop-piece-smaller
loop-piece-smaller c =
    let piece = at_piece c.args.e c.args.text.now c.loop-piece.body _ _ (sym c.in-Some.ensures) in
    omega (arith, piece.some, piece.fewer)

pub loop-piece-preserved : goal.loop-piece-preserved
unfolding notes
loop-piece-preserved c =
    let a = c.args in
    let l = c.loop-piece in
    let step = sym c.in-Some.ensures in
    let f = record_at a.span.start a.span.end in (
      omega (arith, step_end a.e a.text.now l.body _ _ step, l.invariant.0),
      write_turn a.e a.text.now a.start f a.output.now a.o0 a.records.now a.m0 l.body _ _ step l.invariant.1
          c.put_given-o.auto.output c.note-m.auto.records c.put_given-o.ensures c.note-m.ensures,
    )

pub returns : goal.returns
returns c =
    let a = c.args in
    let l = c.loop-piece in
    let f = record_at a.span.start a.span.end in
    let end =
    write_end a.e a.text.now a.start f a.output.now a.o0 a.records.now a.m0
    (none_left a.e a.text.now l.body (sym c.in_default.ensures)) l.invariant.1 in
    record { output = end.0; records = end.1 }
