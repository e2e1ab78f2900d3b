-- Each promise of this crate admits one answer only. A theorem bears its function's name, and is about the function's
-- own contract: what a caller learns of its `ensures`.
-- Assumes nothing.
use mathlib.Core.Path.{sym, ◌∙◌}
use Rattle.text_classes.proofs.OneAnswer.{OneAnswer}
use Rattle.table_classes.proofs as promised

pub class_of : OneAnswer promised.class_of.Reads.Learnt
class_of κs a x y s t p q = p ∙ sym q

pub is_in : OneAnswer promised.is_in.Reads.Learnt
is_in κs a x y s t p q = p ∙ sym q

pub is_sign : OneAnswer promised.is_sign.Reads.Learnt
is_sign κs a x y s t p q = p ∙ sym q

pub is_at : OneAnswer promised.is_at.Reads.Learnt
is_at κs a x y s t p q = p ∙ sym q

pub is_triple : OneAnswer promised.is_triple.Reads.Learnt
is_triple κs a x y s t p q = p ∙ sym q

pub class_run : OneAnswer promised.class_run.Reads.Learnt
class_run κs a x y s t p q = p ∙ sym q

-- a set as one of bytes
pub holds : OneAnswer promised.SetByteSet.holds.Reads.Learnt
holds κs a x y s t p q = p ∙ sym q
