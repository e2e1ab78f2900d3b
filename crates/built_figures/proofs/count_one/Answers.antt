-- `count_one` is right because there is room for one more at that place.
use native.Mathlib.Omega.{arith}
use Rattle.built_figures.proofs.FigureLaws.{one_more, one_fits}
use Rattle.built_figures.proofs.count_one.Goals as goal

pub bounds-figures-slot : goal.bounds-figures-slot
bounds-figures-slot c = omega (arith, c.requires.1.long)

pub overflow_add-figures : goal.overflow_add-figures
overflow_add-figures c =
    omega (arith, one_fits c.args.figures.now c.args.slot c.requires.0 c.requires.1)

pub bounds-figures-slot-2 : goal.bounds-figures-slot-2
bounds-figures-slot-2 c = omega (arith, c.requires.1.long)

pub returns : goal.returns
returns c =
    one_more c.args.figures.now c.args.slot c.requires.0 c.requires.1
