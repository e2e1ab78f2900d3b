-- Each promise of this crate admits one answer only. A theorem bears its function's name, and is about the function's
-- own contract: what a caller learns of its `ensures`.
use mathlib.Core.Path.{sym, ◌∙◌}
use Rattle.text_classes.proofs.OneAnswer.{OneAnswer}
use Rattle.answers_forms.proofs as promised

pub filled : OneAnswer promised.filled.Reads.Learnt
filled κs a x y s t p q = p ∙ sym q

pub refused : OneAnswer promised.refused.Reads.Learnt
refused κs a x y s t p q = p ∙ sym q

pub refused_whole : OneAnswer promised.refused_whole.Reads.Learnt
refused_whole κs a x y s t p q = p ∙ sym q

pub tokens : OneAnswer promised.tokens.Reads.Learnt
tokens κs a x y s t p q = p ∙ sym q

pub token_lines : OneAnswer promised.token_lines.Reads.Learnt
token_lines κs a x y s t p q = p ∙ sym q

pub counted : OneAnswer promised.counted.Reads.Learnt
counted κs a x y s t p q = p ∙ sym q

pub decoded : OneAnswer promised.decoded.Reads.Learnt
decoded κs a x y s t p q = p ∙ sym q

pub decoded_count : OneAnswer promised.decoded_count.Reads.Learnt
decoded_count κs a x y s t p q = p ∙ sym q

pub checked : OneAnswer promised.checked.Reads.Learnt
checked κs a x y s t p q = p ∙ sym q

pub faulted : OneAnswer promised.faulted.Reads.Learnt
faulted κs a x y s t p q = p ∙ sym q

pub started : OneAnswer promised.started.Reads.Learnt
started κs a x y s t p q = p ∙ sym q

pub positioned : OneAnswer promised.positioned.Reads.Learnt
positioned κs a x y s t p q = p ∙ sym q

pub stepped : OneAnswer promised.stepped.Reads.Learnt
stepped κs a x y s t p q = p ∙ sym q

pub stepped_line : OneAnswer promised.stepped_line.Reads.Learnt
stepped_line κs a x y s t p q = p ∙ sym q

pub hex : OneAnswer promised.hex.Reads.Learnt
hex κs a x y s t p q = p ∙ sym q

pub described : OneAnswer promised.described.Reads.Learnt
described κs a x y s t p q = p ∙ sym q

pub fault : OneAnswer promised.fault.Reads.Learnt
fault κs a x y s t p q = p ∙ sym q
