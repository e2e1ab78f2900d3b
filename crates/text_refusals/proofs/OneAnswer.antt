-- Each promise of this crate admits one answer only. A theorem bears its function's name, and is about the function's own
-- contract: what a caller learns of its `ensures`.
-- Assumes nothing.
use mathlib.Core.Path.{sym, ◌∙◌}
use Rattle.text_classes.proofs.OneAnswer.{OneAnswer}
use Rattle.text_refusals.proofs as promised

pub number : OneAnswer promised.Refusal.number.Reads.Learnt
number κs a x y s t p q = p ∙ sym q

pub value : OneAnswer promised.Refusal.value.Reads.Learnt
value κs a x y s t p q = p ∙ sym q

pub length : OneAnswer promised.Refusal.length.Reads.Learnt
length κs a x y s t p q = p ∙ sym q
