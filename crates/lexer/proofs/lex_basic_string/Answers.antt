-- `lex_basic_string` is right because the token is its opening and the tail after it.
use mathlib.Core.Path.{◌∙◌}
use lib.Seq.{drop-drop}
use Rattle.lexer.specs.Table.{extent}
use Rattle.lexer.proofs.KindLaws.{end_is}
use native.Mathlib.Omega.{arith}
use Rattle.lexer.proofs.lex_basic_string.Goals as goal

pub returns : goal.returns
unfolding extent
returns c = c.found_of.ensures ∙ end_is (c.basic_tail.ensures ∙ simp drop-drop (omega arith))
