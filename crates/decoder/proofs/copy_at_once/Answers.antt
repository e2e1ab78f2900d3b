-- `copy_at_once` is right because each of the two kinds of text decodes to what is copied of it, in either edition.
use Rattle.decoder.proofs.AtOnceLaws.{key_at_once, short_at_once}
use Rattle.decoder.proofs.copy_at_once.Goals as goal

pub returns-in-3 : goal.returns-in-3
returns-in-3 c =
    let a = c.args in
    let named = c.is_edition.ensures c.if-not-is_edition.false in
    key_at_once a.edition a.kind a.text.now a.output.now _ named c.in-3.is _ c.copy_key.ensures

pub returns-in-34 : goal.returns-in-34
returns-in-34 c =
    let a = c.args in
    let named = c.is_edition.ensures c.if-not-is_edition.false in
    short_at_once a.edition a.kind a.text.now a.output.now _ named c.in-34.is _ c.copy_short.ensures
