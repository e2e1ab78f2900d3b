-- `escape_seq_char` is right because a letter stands for a character, or asks for digits, or neither.
use Rattle.std.proofs.Common.{drop, sym, ◌∙◌, arith, length-drop, drop-drop}
use Rattle.decoder_rules.proofs.Fine.{rest_is}
use Rattle.decoder_rules.proofs.EscapeLaws.{asks_fit, escape_hex, escape_simple, escape_none}
use Rattle.decoder_pieces.proofs.string.escape_seq_char.Goals as goal

-- the letter that asks for digits is there, and asks for eight at most
pub hexescape-requires : goal.hexescape-requires
hexescape-requires g c =
    let a = c.args in
    let fit = asks_fit a.v (drop 1 a.left.s.now) c.in-Asks.digits (sym (rw rest_is at c.in-Asks.ensures)) in
    (fit.2, omega (arith, fit.0.some, length-drop 1 a.left.s.now), c.args.left.fits)

pub returns-in-Stands : goal.returns-in-Stands
returns-in-Stands g c =
    let a = c.args in
    c.char_piece.ensures ∙ escape_simple a.v a.left.at (drop 1 a.left.s.now) _ (sym (rw rest_is at c.in-Stands.ensures))

pub returns-in-Asks : goal.returns-in-Asks
returns-in-Asks g c =
    let a = c.args in
    let hex = escape_hex a.v a.left.at (drop 1 a.left.s.now) _ (sym (rw rest_is at c.in-Asks.ensures)) in
    c.hexescape.ensures ∙ rw drop-drop at hex

pub returns-in-Neither : goal.returns-in-Neither
returns-in-Neither g c =
    let a = c.args in
    c.bad_char.ensures ∙ escape_none a.v a.left.at (drop 1 a.left.s.now) (sym (rw rest_is at c.in-Neither.ensures))
