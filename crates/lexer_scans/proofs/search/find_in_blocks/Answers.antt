-- `find_in_blocks` is right because a block whose bytes are all in the set does not move the end of the search.
use native.Mathlib.Omega.{arith}
use Rattle.lexer_scans.proofs.BlockLaws.{clear_found}
use Rattle.lexer_scans.proofs.search.find_in_blocks.Goals as goal

pub returns-then-n-size : goal.returns-then-n-size
returns-then-n-size g c =
    let is = c.args in
    let at = c.loop-i in
    let block = c.clear_of-n in
    clear_found (g.S.ByteSet.holds is.set) is.doc.now is.start at.i g.S.Passed.BLOCK block.result (omega arith) block.ensures
    (omega arith) at.invariant
