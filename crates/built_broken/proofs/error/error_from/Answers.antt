-- `error_from` is right because what is passed over has no error, so that the errors left stay the same; and the first piece that
-- has one has the first of them.
use Prim.Native.Nat.{ℕ, ◌<◌, ◌≤◌}
use mathlib.Core.Path.{refl, sym, ap, ◌∙◌}
use mathlib.Core.List.{List}
use native.Mathlib.Omega.{arith}
use lib.ListN.{length, take, length-take, length-drop}
use Rattle.decoder_rules.specs.declared.Encoding.{Encoding}
use Rattle.decoder_rules.specs.Pieces.{notes}
use Rattle.decoder_rules.specs.Bodies.{piece_of}
use Rattle.decoder_rules.proofs.Fine.{Turn}
use Rattle.decoder_pieces.specs.declared.body.Body.{Body}
use Rattle.decoder_pieces.specs.Steps.{body_bytes, errors_left}
use Rattle.decoder_pieces.proofs.StepLaws.{past_fits, step_turn, none_left, ended_none, turn_fits, shorter, at_piece}
use Rattle.built_broken.specs.Walk.{CleanFront}
use Rattle.built_broken.proofs.ErrorLaws.{wrong_first, passed_over, front_turn, front_after, none_left_over}
use Rattle.built_broken.proofs.error.error_from.Goals as goal

-- a turn that passes over a front without an error
turned : (e : Encoding) (text : List ℕ) (b : Body) (n : ℕ) (f : CleanFront e b (body_bytes b text) n) → b.at < b.end → b.end ≤ length text
    → Turn (piece_of e) b.dropping b.at (body_bytes b text) f.piece
turned e text b n f some fits =
    let more : 0 < length (body_bytes b text) = rw (length-take, length-drop) (omega arith) in
    front_turn e text b n f more

pub loop-body-init : goal.loop-body-init
loop-body-init c = record { fits = c.requires; same = refl }

pub clean_front-requires : goal.clean_front-requires
clean_front-requires c = (c.loop-body-test.true, c.loop-body.invariant.fits)

pub loop-body-smaller-in-Some : goal.loop-body-smaller-in-Some
loop-body-smaller-in-Some c =
    let e = c.args.e in
    let text = c.args.text.now in
    let b = c.loop-body.body in
    let f = c.in-Some.ensures in
    let turn = turned e text b _ f c.loop-body-test.true c.loop-body.invariant.fits in
    let next = c.past-body.ensures ∙ past_fits b _ (omega (arith, (turn_fits e text b _ turn).3, f.takes)) ∙ front_after e text b _ f in
    rw next (shorter e text b _ turn)

pub loop-body-preserved-in-Some : goal.loop-body-preserved-in-Some
loop-body-preserved-in-Some c =
    let e = c.args.e in
    let text = c.args.text.now in
    let b = c.loop-body.body in
    let f = c.in-Some.ensures in
    let turn = turned e text b _ f c.loop-body-test.true c.loop-body.invariant.fits in
    let next = c.past-body.ensures ∙ past_fits b _ (omega (arith, (turn_fits e text b _ turn).3, f.takes)) ∙ front_after e text b _ f in
    rw next (record { fits = c.loop-body.invariant.fits; same = passed_over e text b _ turn f.clean ∙ c.loop-body.invariant.same })

pub returns-in-Some-verdict : goal.returns-in-Some-verdict
unfolding notes
returns-in-Some-verdict c =
    let e = c.args.e in
    let text = c.args.text.now in
    let taken = sym c.step.ensures ∙ c.in_ok-piece.was in
    let piece = at_piece e text c.loop-body.body _ _ taken in
    wrong_first _ c.in_ok-piece.piece.verdict (errors_left e text c.in_ok-piece.next) c.in-Some-verdict.is
    ∙ ap (take 1) (sym piece.errors ∙ c.loop-body.invariant.same)

pub loop-body-smaller : goal.loop-body-smaller
loop-body-smaller c =
    let taken = sym c.step.ensures ∙ c.in_ok-piece.was in
    let piece = at_piece c.args.e c.args.text.now c.loop-body.body _ _ taken in
    omega (arith, piece.some, piece.fewer)

pub loop-body-preserved : goal.loop-body-preserved
loop-body-preserved c =
    let e = c.args.e in
    let text = c.args.text.now in
    let taken = sym c.step.ensures ∙ c.in_ok-piece.was in
    let turn = step_turn e text c.loop-body.body _ _ taken in
    let on = passed_over e text c.loop-body.body _ turn.0 c.in_default-verdict.is in
    rw turn.1 (record { fits = c.loop-body.invariant.fits; same = on ∙ c.loop-body.invariant.same })

pub returns-in_err-piece : goal.returns-in_err-piece
returns-in_err-piece c =
    let e = c.args.e in
    let text = c.args.text.now in
    let b = c.loop-body.body in
    let none = none_left_over e text b (none_left e text b (sym c.step.ensures ∙ c.in_err-piece.was)) in
    rw c.from_residual.ensures (ap (take 1) (sym none ∙ c.loop-body.invariant.same))

pub returns : goal.returns
returns c =
    let e = c.args.e in
    let text = c.args.text.now in
    let b = c.loop-body.body in
    let none = none_left_over e text b (ended_none b text c.loop-body-test.false) in
    ap (take 1) (sym none ∙ c.loop-body.invariant.same)
