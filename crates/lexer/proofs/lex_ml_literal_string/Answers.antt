-- `lex_ml_literal_string` is right because the token is its opening and the tail after it.
use mathlib.Core.Path.{◌∙◌}
use lib.Seq.{drop-drop}
use Rattle.lexer.specs.Table.{extent}
use native.Mathlib.Omega.{arith}
use Rattle.lexer.proofs.lex_ml_literal_string.Goals as goal

pub over_lines-requires : goal.over_lines-requires
unfolding extent
over_lines-requires c = (omega arith, c.requires.1, c.ml_literal_tail-end.ensures ∙ simp drop-drop (omega arith))
