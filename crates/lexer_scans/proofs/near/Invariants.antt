use Prim.Native.Nat.{◌≤◌}
use Rattle.text_classes.specs.Runs.{run}
use Rattle.text_classes.proofs.RunLaws.{SameEnd}
use Rattle.lexer_scans.specs.Scans.{but_three}
use Rattle.lexer_scans.proofs.near.Given as goal

abbrev pub invariant-loop : goal.invariant-loop
invariant-loop l = (l.start ≤ l.i) × SameEnd (run (but_three 34 92 10)) l.doc l.start l.i
