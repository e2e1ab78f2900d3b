use Rattle.std.proofs.Common.{◌-◌, length}
use Rattle.lexer_comments.specs.Fronts.{Onward}
use Rattle.lexer_comments.proofs.own_chars.Given as goal

abbrev pub invariant-loop-i : goal.invariant-loop-i
invariant-loop-i l = Onward l.doc l.start l.i

abbrev pub decreases-loop-i : goal.decreases-loop-i
decreases-loop-i l = length l.doc - l.i
