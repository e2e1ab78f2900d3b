-- `room_for` is right because a part gives at most one token more than it has bytes, and else its tokens are counted.
use native.Mathlib.Omega.{arith}
use Rattle.built_lexing.proofs.CountLaws.{given_few}
use Rattle.built_lexing.proofs.room_for.Goals as goal

pub returns-then-part-room : goal.returns-then-part-room
returns-then-part-room c = omega (arith, given_few c.args.lexing c.args.part.now)
