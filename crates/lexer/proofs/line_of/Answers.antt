-- `line_of` is right because it counts the LFs before the offset, or all of them where it lies beyond the end.
use native.Mathlib.Omega.{arith}
use lib.ListN.{take, length-take}
use Rattle.lexer.proofs.LineLaws.{feeds_le}
use Rattle.lexer.proofs.line_of.Goals as goal

pub overflow_add-result : goal.overflow_add-result
overflow_add-result c =
    let doc = c.args.doc.now in
    let end = c.min.result in
    omega (arith, c.line_feeds.ensures, feeds_le (take end doc), length-take end doc)
