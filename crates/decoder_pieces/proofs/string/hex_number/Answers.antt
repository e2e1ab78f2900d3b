-- `hex_number` is right because the digits that are read are those at the front, and their number is at hand.
use Rattle.std.proofs.Common.{arith}
use Rattle.decoder_pieces.proofs.HexLaws.{digit_small, digits_start, digits_room, digits_turn, digits_few, digits_end}
use Rattle.decoder_pieces.proofs.string.hex_number.Goals as goal

pub loop-i-init : goal.loop-i-init
loop-i-init g c = digits_start c.args.digits c.args.rest.now

pub returns-then-rest-i : goal.returns-then-rest-i
returns-then-rest-i g c =
    let l = c.loop-i in
    digits_end c.args.digits c.args.rest.now l.i l.value l.invariant (omega arith) (omega arith)

pub overflow_mul-value : goal.overflow_mul-value
overflow_mul-value g c =
    let l = c.loop-i in
    omega (arith, digits_room c.args.digits c.args.rest.now l.i l.value l.invariant (omega arith) (omega arith))

pub overflow_add-value : goal.overflow_add-value
overflow_add-value g c =
    let l = c.loop-i in
    let small = digit_small _ _ c.in-Some.ensures in
    omega (arith, digits_room c.args.digits c.args.rest.now l.i l.value l.invariant (omega arith) (omega arith), small)

pub returns-in-None : goal.returns-in-None
returns-in-None g c =
    let l = c.loop-i in
    digits_few c.args.digits c.args.rest.now l.i l.value l.invariant (omega arith) c.in-None.ensures

pub loop-i-preserved : goal.loop-i-preserved
loop-i-preserved g c =
    let l = c.loop-i in
    digits_turn c.args.digits c.args.rest.now l.i l.value l.invariant (omega arith) _ c.in-Some.ensures
