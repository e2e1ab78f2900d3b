-- Each promise of this crate admits one answer only. A theorem bears its function's name, and is about the function's
-- own contract: what a caller learns of its `ensures`.
-- Assumes nothing.
use mathlib.Core.Path.{sym, ◌∙◌}
use Rattle.text_classes.proofs.OneAnswer.{OneAnswer}
use Rattle.decoder_marks.proofs as promised

pub mark_error : OneAnswer promised.mark_error.Reads.Learnt
mark_error κs a x y s t p q = p ∙ sym q

pub ends_of : OneAnswer promised.ends_of.Reads.Learnt
ends_of κs a x y s t p q = p ∙ sym q

pub choice_by : OneAnswer promised.choice.choice_by.Reads.Learnt
choice_by κs a x y s t p q = p ∙ sym q

pub open_text : OneAnswer promised.open_text.Reads.Learnt
open_text κs a x y s t p q = p ∙ sym q
