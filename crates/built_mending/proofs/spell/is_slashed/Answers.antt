-- `is_slashed` is right because it asks for the two bytes in turn.
use borrow.Author.Tests.{eq-eqb, ne_eqb}
use Rattle.built_mending.proofs.spell.is_slashed.Goals as goal

pub returns-then-b-eq34 : goal.returns-then-b-eq34
returns-then-b-eq34 c = rw (eq-eqb _ 0x22 c.if-b-eq34.true)

pub returns-else-b-eq34 : goal.returns-else-b-eq34
returns-else-b-eq34 c = rw (ne_eqb _ 0x22 c.if-b-eq34.false)
