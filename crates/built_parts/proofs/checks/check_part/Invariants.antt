use mathlib.Core.Path.{◌≡◌}
use Prim.Native.Nat.{◌+◌, ◌-◌, ◌≤◌}
use lib.ListN.{length, drop}
use Rattle.built_parts.specs.Checking.{checked}
use Rattle.built_parts.proofs.checks.check_part.Given as goal

abbrev pub invariant-turns : goal.invariant-turns
invariant-turns l =
    (l.i ≤ length l.part) × (checked l.c l.v (l.at + l.i) (drop l.i l.part) ≡ checked l.initial.c l.initial.v l.at l.part)

abbrev pub decreases-turns : goal.decreases-turns
decreases-turns l = length l.part - l.i
