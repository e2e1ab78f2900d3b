-- The tokens of the parts passed and those still to come are all that begin before the end.
use Prim.Native.Nat.{◌+◌, ◌-◌, ◌≤◌}
use mathlib.Core.Path.{◌≡◌}
use lib.ListN.{length}
use Rattle.lexer.specs.Loops.{tokens_until}
use Rattle.lexer.proofs.UntilLaws.{tokens_before}
use Rattle.lexer.proofs.count.Given as goal

abbrev pub invariant-loop-at : goal.invariant-loop-at
invariant-loop-at g l =
    record {
      size : length l.spare ≡ 64;
      within : l.at ≤ length l.doc;
      low : l.line ≤ l.at + 1;
      few : l.passed ≤ l.at;
      all : l.passed + length (tokens_until (length l.doc) l.at l.line l.doc) ≡ length (tokens_before l.doc);
    }

abbrev pub decreases-loop-at : goal.decreases-loop-at
decreases-loop-at g l = length l.doc - l.at
