-- `count_body` is right because the counts, with the errors of what is still to be read added, make the whole; and what is passed
-- without a piece has no error.
use Prim.Native.Nat.{ℕ, ◌<◌, ◌≤◌}
use mathlib.Core.Path.{refl, sym, ◌∙◌}
use mathlib.Core.List.{List}
use native.Mathlib.Omega.{arith}
use lib.ListN.{length, length-take, length-drop}
use Rattle.decoder_rules.specs.Pieces.{notes}
use Rattle.decoder_pieces.specs.declared.body.Body.{Body}
use Rattle.decoder_pieces.specs.Steps.{body_bytes, body_after, errors_left}
use Rattle.decoder_pieces.proofs.StepLaws.{past_fits, step_turn, none_left, ended_none, shorter}
use Rattle.built_figures.proofs.BodyLaws.{errors_turn, front_room, sound_shorter, sound_fits, count_on, count_sound, count_end}
use Rattle.built_figures.proofs.count_body.Goals as goal

more : (b : Body) (text : List ℕ) → b.at < b.end → b.end ≤ length text → 0 < length (body_bytes b text)
more b text some within = rw (length-take, length-drop) (omega arith)

pub loop-body-init : goal.loop-body-init
loop-body-init c = record { within = c.requires.0; room = c.requires.1; whole = refl }

pub slice_bounds-sound_at-end : goal.slice_bounds-sound_at-end
slice_bounds-sound_at-end c = c.loop-body.invariant.within

pub loop-body-smaller-then-n-gt0 : goal.loop-body-smaller-then-n-gt0
loop-body-smaller-then-n-gt0 c =
    let text = c.args.text.now in
    let b = c.loop-body.body in
    let some = more b text c.loop-body-test.true c.loop-body.invariant.within in
    rw (c.past-body.ensures ∙ past_fits b _ (omega (arith, sound_fits c.args.e text b _ some (c.sound_at-n.ensures c.if-n-gt0.true)))) (sound_shorter c.args.e text b _ some (c.sound_at-n.ensures c.if-n-gt0.true))

pub loop-body-preserved-then-n-gt0 : goal.loop-body-preserved-then-n-gt0
loop-body-preserved-then-n-gt0 c =
    let text = c.args.text.now in
    let b = c.loop-body.body in
    let some = more b text c.loop-body-test.true c.loop-body.invariant.within in
    rw (c.past-body.ensures ∙ past_fits b _ (omega (arith, sound_fits c.args.e text b _ some (c.sound_at-n.ensures c.if-n-gt0.true)))) (count_sound c.args.e text c.loop-body.invariant _ some (c.sound_at-n.ensures c.if-n-gt0.true))

pub count_error-requires : goal.count_error-requires
unfolding notes
count_error-requires c =
    let e = c.args.e in
    let text = c.args.text.now in
    let b = c.loop-body.body in
    let p = c.in-Some.p in
    let turn = (step_turn e text b _ _ (sym c.step.ensures ∙ c.in-Some.is)).0 in
    front_room c.loop-body.figures _ (notes p) (errors_left e text (body_after b p)) (errors_turn e text b _ turn) c.loop-body.invariant.room

pub loop-body-smaller : goal.loop-body-smaller
loop-body-smaller c =
    let e = c.args.e in
    let text = c.args.text.now in
    let b = c.loop-body.body in
    let turn = step_turn e text b _ _ (sym c.step.ensures ∙ c.in-Some.is) in
    rw turn.1 (shorter e text b _ turn.0)

pub loop-body-preserved : goal.loop-body-preserved
unfolding notes
loop-body-preserved c =
    let e = c.args.e in
    let text = c.args.text.now in
    let turn = step_turn e text c.loop-body.body _ _ (sym c.step.ensures ∙ c.in-Some.is) in
    rw turn.1 (count_on e text c.loop-body.invariant _ turn.0 _ c.count_error.ensures)

pub returns-after-loop-body : goal.returns-after-loop-body
returns-after-loop-body c =
    count_end c.args.e c.args.text.now c.loop-body.invariant (ended_none c.loop-body.body c.args.text.now c.loop-body-test.false)

pub returns-in-None : goal.returns-in-None
returns-in-None c =
    let step = sym c.step.ensures ∙ c.in-None.is in
    count_end c.args.e c.args.text.now c.loop-body.invariant (none_left c.args.e c.args.text.now c.loop-body.body step)
