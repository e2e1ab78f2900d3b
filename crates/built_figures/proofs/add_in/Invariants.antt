use Rattle.std.proofs.Common.{◌≡◌, take}
use Rattle.built_figures.specs.Figures.{added}
use Rattle.built_figures.proofs.add_in.Given as goal

abbrev pub invariant-loop-i : goal.invariant-loop-i
invariant-loop-i l = l.totals ≡ added l.initial.totals (take l.i l.figures)
