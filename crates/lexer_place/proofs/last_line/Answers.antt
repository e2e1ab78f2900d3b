-- `last_line` is right because a column does not depend on what stands before the last LF.
use Prim.Native.Nat.{◌+◌}
use Rattle.lexer_place.proofs.PositionLaws.{column_one_line, column_last_line, up_to_end}
use Rattle.lexer_place.proofs.last_line.Goals as goal

pub returns-in-Some : goal.returns-in-Some
returns-in-Some c =
    let s = c.args.s.now in
    let last = c.in-Some.ensures in
    rw (up_to_end s (c.in-Some.at + 1)) (column_last_line s c.in-Some.at last.0 last.1 last.2)

pub returns-in-None : goal.returns-in-None
returns-in-None c = column_one_line c.args.s.now c.in-None.ensures
