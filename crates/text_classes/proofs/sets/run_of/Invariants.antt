use Prim.Native.Nat.{◌+◌, ◌≤◌, max}
use mathlib.Core.Path.{◌≡◌}
use lib.ListN.{length, drop}
use Rattle.text_classes.specs.Runs.{run}
use Rattle.text_classes.proofs.sets.run_of.Given as goal

abbrev pub invariant-loop-i : goal.invariant-loop-i
invariant-loop-i g l =
    let p = g.S.ByteSet.holds l.set in
    (l.i ≤ max l.start (length l.s)) × (l.i + run p (drop l.i l.s) ≡ l.start + run p (drop l.start l.s))
