-- `good_escape` is right because a letter stands for a character, or asks for digits, or neither.
use Rattle.std.proofs.Common.{drop, sym, ◌∙◌, arith, length-drop, drop-drop}
use Rattle.decoder_rules.proofs.Fine.{rest_is}
use Rattle.decoder_rules.proofs.EscapeLaws.{asks_fit}
use Rattle.decoder_pieces.proofs.EscapeAtLaws.{good_simple, good_digits, good_neither}
use Rattle.decoder_pieces.proofs.string.good_escape.Goals as goal

-- the letter that asks for digits is there, and asks for eight at most
pub good_hex-requires : goal.good_hex-requires
good_hex-requires c =
    let a = c.args in
    let fit = asks_fit a.v (drop 1 a.s.now) c.in-Asks.digits (sym (rw rest_is at c.in-Asks.ensures)) in
    (fit.2, omega (arith, fit.0.some, length-drop 1 a.s.now))

pub returns-in-Stands : goal.returns-in-Stands
returns-in-Stands c = good_simple c.args.v (drop 1 c.args.s.now) _ (sym (rw rest_is at c.in-Stands.ensures))

pub returns-in-Asks : goal.returns-in-Asks
returns-in-Asks c =
    let digits = good_digits c.args.v (drop 1 c.args.s.now) _ (sym (rw rest_is at c.in-Asks.ensures)) in
    c.good_hex.ensures ∙ rw drop-drop at digits

pub returns-in-Neither : goal.returns-in-Neither
returns-in-Neither c =
    good_neither c.args.v (drop 1 c.args.s.now) (sym (rw rest_is at c.in-Neither.ensures))
