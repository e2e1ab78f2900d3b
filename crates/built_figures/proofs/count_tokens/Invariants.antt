use Rattle.built_figures.proofs.WalkLaws.{steps_left, CountedFrom}
use Rattle.built_figures.proofs.count_tokens.Given as goal

abbrev pub invariant-loop-token : goal.invariant-loop-token
invariant-loop-token l = CountedFrom l.doc l.figures l.cursor

abbrev pub decreases-loop-token : goal.decreases-loop-token
decreases-loop-token l = steps_left l.doc l.cursor
