use Rattle.std.proofs.Common.{◌≡◌, ◌+◌, ◌-◌, length, drop}
use Rattle.text_classes.specs.Runs.{run}
use Rattle.built_fronts.specs.Fronts.{ascii_atom}
use Rattle.built_fronts.proofs.atom_front.Given as goal

abbrev pub invariant-loop-i : goal.invariant-loop-i
invariant-loop-i l = l.i + run ascii_atom (drop l.i l.doc) ≡ l.start + run ascii_atom (drop l.start l.doc)

abbrev pub decreases-loop-i : goal.decreases-loop-i
decreases-loop-i l = length l.doc - l.i
