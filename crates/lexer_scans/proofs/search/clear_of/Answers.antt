-- `clear_of` is right because the least of the places told is that of the first byte that is not in the set.
use Prim.Native.Nat.{◌+◌}
use mathlib.Core.Path.{sym, ◌∙◌}
use native.Mathlib.Omega.{arith}
use lib.ListN.{get_or}
use Rattle.lexer_scans.proofs.BlockLaws.{PlaceTold, told_passed, told_stopped, clear_step}
use Rattle.lexer_scans.proofs.search.clear_of.Goals as goal
use Rattle.lexer_scans.proofs.search.clear_of.Goals.{then-holds, else-holds}

pub loop-k-preserved : goal.loop-k-preserved
loop-k-preserved g c =
    let is = c.args in
    let at = c.loop-k in
    let p = g.S.ByteSet.holds is.set in
    let asked = rw c.from.ensures at (sym c.holds.ensures) in
    let told : PlaceTold (p (get_or is.doc.now (is.i + at.k) 0)) at.k c.if-holds.place = elim c.if-holds.branch [
      | then-holds w ↦ told_passed _ at.k c.if-holds.place (asked ∙ w.if-holds.true) w.place-is
      | else-holds w ↦ told_stopped _ at.k c.if-holds.place (asked ∙ w.if-holds.false) w.place-is
    ] in
    clear_step p is.doc.now is.i g.S.Passed.BLOCK at.k c.if-holds.place at.first c.min-first.result
    (omega arith) (omega arith) told c.min-first.ensures at.invariant
