use Prim.Native.Nat.{◌+◌, ◌-◌}
use mathlib.Core.Path.{◌≡◌}
use mathlib.Core.Bool.{false}
use lib.ListN.{length, drop}
use Rattle.lexer_scans.specs.Extents.{ml_tail}
use Rattle.table_scans.proofs.ml_basic_tail.Given as goal

abbrev pub invariant-loop-i : goal.invariant-loop-i
invariant-loop-i l = l.i + ml_tail 34 false (drop l.i l.doc) ≡ l.start + ml_tail 34 false (drop l.start l.doc)

abbrev pub decreases-loop-i : goal.decreases-loop-i
decreases-loop-i l = length l.doc - l.i
