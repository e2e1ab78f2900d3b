use Rattle.std.proofs.Common.{◌-◌, ◌≤◌, length}
use Rattle.lexer_comments.specs.Fronts.{Fronted}
use Rattle.lexer_comments.proofs.comment_front.Given as goal

abbrev pub invariant-loop-start : goal.invariant-loop-start
invariant-loop-start l = (l.start ≤ length l.doc → Fronted l.doc l.start l.i)

abbrev pub decreases-loop-start : goal.decreases-loop-start
decreases-loop-start l = length l.doc - l.i
