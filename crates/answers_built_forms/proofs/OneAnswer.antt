-- Each promise of this crate admits one answer only. A theorem bears its function's name, and is about the function's
-- own contract: what a caller learns of its `ensures`.
use mathlib.Core.Path.{sym, ◌∙◌}
use Rattle.text_classes.proofs.OneAnswer.{OneAnswer}
use Rattle.answers_built_forms.proofs as promised

pub wrote : OneAnswer promised.wrote.Reads.Learnt
wrote κs a x y s t p q = p ∙ sym q

pub mended : OneAnswer promised.mended.Reads.Learnt
mended κs a x y s t p q = p ∙ sym q

pub mended_count : OneAnswer promised.mended_count.Reads.Learnt
mended_count κs a x y s t p q = p ∙ sym q

pub marked : OneAnswer promised.marked.Reads.Learnt
marked κs a x y s t p q = p ∙ sym q

pub flag : OneAnswer promised.flag.Reads.Learnt
flag κs a x y s t p q = p ∙ sym q

pub tick_count : OneAnswer promised.tick_count.Reads.Learnt
tick_count κs a x y s t p q = p ∙ sym q

pub broken : OneAnswer promised.broken.Reads.Learnt
broken κs a x y s t p q = p ∙ sym q

pub tallied : OneAnswer promised.tallied.Reads.Learnt
tallied κs a x y s t p q = p ∙ sym q
