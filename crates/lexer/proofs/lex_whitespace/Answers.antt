-- `lex_whitespace` is right because whitespace is its first byte and the run after it.
use mathlib.Core.Path.{◌∙◌}
use lib.Seq.{drop-drop}
use Rattle.lexer.specs.Table.{extent}
use Rattle.lexer.proofs.KindLaws.{end_is}
use native.Mathlib.Omega.{arith}
use Rattle.lexer.proofs.lex_whitespace.Goals as goal

pub returns : goal.returns
unfolding extent
returns c = c.found_of.ensures ∙ end_is (c.wschar_run.ensures ∙ simp drop-drop (omega arith))
