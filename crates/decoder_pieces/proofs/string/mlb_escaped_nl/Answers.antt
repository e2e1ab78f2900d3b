-- `mlb_escaped_nl` is right because after the blanks there are the rule's four cases.
use Rattle.std.proofs.Common.{sym, ◌∙◌}
use Rattle.decoder_pieces.proofs.FrontLaws.{nl_is}
use Rattle.decoder_pieces.proofs.string.mlb_escaped_nl.Goals as goal

pub returns-then-is_lf : goal.returns-then-is_lf
returns-then-is_lf g c =
    let line = nl_is c.args.left.at c.args.left.s.now _ c.blanks-n.ensures in
    c.drop_piece.ensures ∙ rw (line, sym c.is_lf.ensures ∙ c.if-is_lf.true)

pub returns-then-is_lf-2 : goal.returns-then-is_lf-2
returns-then-is_lf-2 g c =
    let line = nl_is c.args.left.at c.args.left.s.now _ c.blanks-n.ensures in
    c.drop_piece-then-is_lf-2.ensures
    ∙ rw (line, sym c.is_lf.ensures ∙ c.if-is_lf.false, sym c.is_cr.ensures ∙ c.if-is_cr.true, sym c.is_lf-then-is_cr.ensures ∙ c.if-is_lf-2.true)

pub returns-then-is_cr : goal.returns-then-is_cr
returns-then-is_cr g c =
    let line = nl_is c.args.left.at c.args.left.s.now _ c.blanks-n.ensures in
    c.bad_drop.ensures
    ∙ rw (line, sym c.is_lf.ensures ∙ c.if-is_lf.false, sym c.is_cr.ensures ∙ c.if-is_cr.true, sym c.is_lf-then-is_cr.ensures ∙ c.if-is_lf-2.false)

pub returns : goal.returns
returns g c =
    let line = nl_is c.args.left.at c.args.left.s.now _ c.blanks-n.ensures in
    c.bad_drop-2.ensures ∙ rw (line, sym c.is_lf.ensures ∙ c.if-is_lf.false, sym c.is_cr.ensures ∙ c.if-is_cr.false)
