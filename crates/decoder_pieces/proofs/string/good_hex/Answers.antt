-- `good_hex` is right because the digits that are read are those after the letter, and their number is at hand.
use Rattle.std.proofs.Common.{drop, sym, ◌∙◌}
use Rattle.decoder_rules.proofs.Fine.{rest_is}
use Rattle.decoder_pieces.proofs.EscapeAtLaws.{good_few, good_char, good_no_char}
use Rattle.decoder_pieces.proofs.string.good_hex.Goals as goal

pub returns-then-is_scalar : goal.returns-then-is_scalar
returns-then-is_scalar c =
    let read = rw rest_is at c.in-Ok.ensures in
    good_char c.args.digits (drop 2 c.args.s.now) _ read.enough read.number (sym c.is_scalar.ensures ∙ c.if-is_scalar.true)

pub returns-else-is_scalar : goal.returns-else-is_scalar
returns-else-is_scalar c =
    let read = rw rest_is at c.in-Ok.ensures in
    good_no_char c.args.digits (drop 2 c.args.s.now) _ read.enough read.number (sym c.is_scalar.ensures ∙ c.if-is_scalar.false)

pub returns-in-Err : goal.returns-in-Err
returns-in-Err c =
    let read = rw rest_is at c.in-Err.ensures in
    good_few c.args.digits (drop 2 c.args.s.now) _ read.found read.few
