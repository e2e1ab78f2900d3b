-- Each promise of this crate admits one answer only. A theorem bears its function's name, and is about the function's
-- own contract: what a caller learns of its `ensures`.
use mathlib.Core.Path.{sym, ◌∙◌}
use Rattle.text_classes.proofs.OneAnswer.{OneAnswer}
use Rattle.library_parts.proofs as promised

pub started : OneAnswer promised.started.Reads.Learnt
started κs a x y s t p q = p ∙ sym q

pub fed : OneAnswer promised.fed.Reads.Learnt
fed κs a x y s t p q = p ∙ sym q

pub parts_of : OneAnswer promised.parts_of.Reads.Learnt
parts_of κs a x y s t p q = p ∙ sym q
