-- `copy_named` is right because a plain line decodes to what is copied of it, in either edition.
use Rattle.decoder.proofs.AtOnceLaws.{plain_at_once}
use Rattle.decoder.proofs.copy_named.Goals as goal

pub returns : goal.returns
returns c =
    let a = c.args in
    plain_at_once a.edition a.kind a.text.now a.output.now _ (c.is_edition.ensures c.if-not-is_edition.false) _ c.copy_plain.ensures
