-- The tokens still to come, stored from here on, give the records at the end.
use Prim.Native.Nat.{◌-◌}
use lib.ListN.{length}
use Rattle.lexer.proofs.UntilLaws.{Underway}
use Rattle.lexer.proofs.lex_until.Given as goal

abbrev pub invariant-loop-at : goal.invariant-loop-at
invariant-loop-at g l = Underway l.doc l.stop l.start l.first l.initial.records l.at l.line l.n l.records

abbrev pub decreases-loop-at : goal.decreases-loop-at
decreases-loop-at g l = length l.doc - l.at
