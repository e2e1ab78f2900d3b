-- Each promise of this crate admits one answer only. A theorem bears its function's name, and is about the function's own
-- contract: what a caller learns of its `ensures`.
-- Assumes nothing.
use mathlib.Core.Path.{sym, ◌∙◌}
use Rattle.text_classes.proofs.OneAnswer.{OneAnswer}
use Rattle.text_scalars.proofs as promised

pub is_scalar : OneAnswer promised.is_scalar.Reads.Learnt
is_scalar κs a x y s t p q = p ∙ sym q

pub encode : OneAnswer promised.encode.Reads.Learnt
encode κs a x y s t p q = p ∙ sym q
