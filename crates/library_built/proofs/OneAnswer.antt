-- Each promise of this crate admits one answer only. A theorem bears its function's name, and is about the function's
-- own contract: what a caller learns of its `ensures`.
use mathlib.Core.Path.{sym, ◌∙◌}
use Rattle.text_classes.proofs.OneAnswer.{OneAnswer}
use Rattle.library_built.proofs as promised

pub mended : OneAnswer promised.mended.Reads.Learnt
mended κs a x y s t p q = p ∙ sym q

pub broken : OneAnswer promised.broken.Reads.Learnt
broken κs a x y s t p q = p ∙ sym q

pub tallied : OneAnswer promised.tallied.Reads.Learnt
tallied κs a x y s t p q = p ∙ sym q
