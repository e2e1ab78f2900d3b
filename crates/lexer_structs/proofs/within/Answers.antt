-- `within` is right because it is the definition: few where the room is less.
use borrow.Author.Tests.{lt-ltb, le-ltb}
use Rattle.lexer_structs.proofs.within.Goals as goal

pub returns-then-room-needed : goal.returns-then-room-needed
returns-then-room-needed c = rw (lt-ltb _ _ c.if-room-needed.true)

pub returns : goal.returns
returns c = rw (le-ltb _ _ c.if-room-needed.false)
