use Prim.Native.Nat.{◌-◌, ◌≤◌, ◌<◌}
use mathlib.Core.Path.{◌≡◌}
use mathlib.Core.Bool.{false}
use lib.ListN.{length, get_or}
use Rattle.text_classes.proofs.RunLaws.{SameEnd}
use Rattle.lexer_scans.specs.Extents.{line_tail}
use Rattle.lexer_scans.proofs.over_escapes.Given as goal

abbrev pub invariant-loop-i : goal.invariant-loop-i
invariant-loop-i l =
    (l.start ≤ l.i) × (l.i < length l.doc) × (get_or l.doc l.i 0 ≡ 92) × SameEnd (line_tail 34 false) l.doc l.start l.i

abbrev pub decreases-loop-i : goal.decreases-loop-i
decreases-loop-i l = length l.doc - l.i
