-- After i turns the cursor is the one after i steps, and the first i tokens stand in the records.
use mathlib.Core.Path.{◌≡◌}
use Rattle.lexer_structs.specs.Turns.{cursor_after, stored}
use Rattle.lexer_structs.proofs.lex_tokens.Given as goal

abbrev pub invariant-loop-i : goal.invariant-loop-i
invariant-loop-i l =
    record {
      cursor : l.cursor ≡ cursor_after l.doc l.i;
      stores : l.records ≡ stored l.doc l.initial.records l.i;
    }
