-- `lex_comment` is right because a comment is its first byte and the run after it.
use mathlib.Core.Path.{◌∙◌}
use lib.Seq.{drop-drop}
use Rattle.lexer.specs.Table.{extent}
use Rattle.lexer.proofs.KindLaws.{end_is}
use native.Mathlib.Omega.{arith}
use Rattle.lexer.proofs.lex_comment.Goals as goal

pub returns : goal.returns
unfolding extent
returns c = c.found_of.ensures ∙ end_is (c.comment_run.ensures ∙ simp drop-drop (omega arith))
