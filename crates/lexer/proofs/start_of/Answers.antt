-- `start_of` is right because its test is the definition's.
use mathlib.Core.Path.{sym, ◌∙◌}
use Rattle.lexer.specs.Tokens.{start_of}
use Rattle.lexer.proofs.start_of.Goals as goal

pub returns-then-has_bom : goal.returns-then-has_bom
unfolding start_of
returns-then-has_bom c = simp (sym c.has_bom.ensures ∙ c.if-has_bom.true)

pub returns-else-has_bom : goal.returns-else-has_bom
unfolding start_of
returns-else-has_bom c = simp (sym c.has_bom.ensures ∙ c.if-has_bom.false)
