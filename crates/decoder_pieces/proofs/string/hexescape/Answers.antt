-- `hexescape` is right because the digits that are read are those after the letter, and their number is at hand.
use Rattle.std.proofs.Common.{drop, sym, ◌∙◌, arith, length-drop}
use Rattle.text_classes.specs.Classes.{hexdig}
use Rattle.text_classes.proofs.RunLaws.{run_le}
use Rattle.decoder_rules.proofs.Fine.{rest_is}
use Rattle.decoder_rules.proofs.EscapeLaws.{hex_few, hex_char, hex_none}
use Rattle.decoder_pieces.proofs.string.hexescape.Goals as goal

pub overflow_add-at : goal.overflow_add-at
overflow_add-at g c =
    let s = c.args.s.now in
    let read = rw rest_is at c.in-Err.ensures in
    omega (arith, read.found, run_le hexdig (drop 2 s), length-drop 2 s)

pub returns-in-Err : goal.returns-in-Err
returns-in-Err g c =
    let a = c.args in
    let read = rw rest_is at c.in-Err.ensures in
    c.bad_char.ensures ∙ hex_few a.digits a.at (drop 2 a.s.now) _ read.found read.few

pub returns-then-is_scalar : goal.returns-then-is_scalar
returns-then-is_scalar g c =
    let a = c.args in
    let read = rw rest_is at c.in-Ok.ensures in
    c.char_piece.ensures ∙ hex_char a.digits a.at (drop 2 a.s.now) _ read.enough read.number (sym c.is_scalar.ensures ∙ c.if-is_scalar.true)

pub returns-else-is_scalar : goal.returns-else-is_scalar
returns-else-is_scalar g c =
    let a = c.args in
    let read = rw rest_is at c.in-Ok.ensures in
    c.bad_char-else-is_scalar.ensures ∙ hex_none a.digits a.at (drop 2 a.s.now) _ read.enough read.number (sym c.is_scalar.ensures ∙ c.if-is_scalar.false)
