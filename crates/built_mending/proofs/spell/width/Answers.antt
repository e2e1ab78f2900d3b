-- `width` is right because each of its branches is the rule's.
use mathlib.Core.Path.{sym, ◌∙◌}
use Rattle.built_mending.proofs.SpellLaws.{slashed_is, coded_is, own_is}
use Rattle.built_mending.proofs.spell.width.Goals as goal

pub returns-then-is_slashed : goal.returns-then-is_slashed
returns-then-is_slashed c = rw (slashed_is _ (sym c.is_slashed.ensures ∙ c.if-is_slashed.true))

pub returns-then-is_coded : goal.returns-then-is_coded
returns-then-is_coded c = rw (coded_is _ (sym c.is_slashed.ensures ∙ c.if-is_slashed.false) (sym c.is_coded.ensures ∙ c.if-is_coded.true))

pub returns : goal.returns
returns c = rw (own_is _ (sym c.is_slashed.ensures ∙ c.if-is_slashed.false) (sym c.is_coded.ensures ∙ c.if-is_coded.false))
