-- Each promise of this crate admits one answer only. A theorem bears its function's name, and is about the function's
-- own contract: what a caller learns of its `ensures`.
-- Assumes nothing.
use mathlib.Core.Path.{sym, ◌∙◌}
use Rattle.text_classes.proofs.OneAnswer.{OneAnswer}
use Rattle.built_characters.proofs as promised

pub character_turn : OneAnswer promised.Character.turn.Reads.Learnt
character_turn κs a x y s t p q = p ∙ sym q
