-- `has_error` is right because the pieces passed have no error, so what is left has one where the body has.
use Rattle.std.proofs.Common.{sym, ap, ◌∙◌, arith}
use Rattle.decoder_rules.specs.Pieces.{notes}
use Rattle.decoder_pieces.proofs.StepLaws.{none_left, at_piece}
use Rattle.built_mending.specs.Mending.{is_broken}
use Rattle.built_mending.proofs.PieceLaws.{broken_by}
use Rattle.built_mending.proofs.token.has_error.Goals as goal

pub returns-then-is_some : goal.returns-then-is_some
unfolding notes
returns-then-is_some c =
    let piece = at_piece c.args.e c.args.text.now c.loop-piece.body _ _ (sym c.in-Some.ensures) in
    let first = ap is_broken piece.errors ∙ broken_by c.in-Some.piece.verdict _ in
    sym (sym c.loop-piece.invariant ∙ first ∙ rw (sym c.is_some.ensures ∙ c.if-is_some.true))

pub loop-piece-smaller : goal.loop-piece-smaller
loop-piece-smaller c =
    let piece = at_piece c.args.e c.args.text.now c.loop-piece.body _ _ (sym c.in-Some.ensures) in
    omega (arith, piece.some, piece.fewer)

pub loop-piece-preserved : goal.loop-piece-preserved
unfolding notes
loop-piece-preserved c =
    let piece = at_piece c.args.e c.args.text.now c.loop-piece.body _ _ (sym c.in-Some.ensures) in
    let later = ap is_broken piece.errors ∙ broken_by c.in-Some.piece.verdict _ in
    sym (rw (sym c.is_some.ensures ∙ c.if-is_some.false) at later) ∙ c.loop-piece.invariant

pub returns : goal.returns
returns c =
    rw (none_left c.args.e c.args.text.now c.loop-piece.body (sym c.in_default.ensures)) at c.loop-piece.invariant
