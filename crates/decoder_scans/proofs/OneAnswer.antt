-- Each promise of this crate admits one answer only. A theorem bears its function's name, and is about the function's
-- own contract: what a caller learns of its `ensures`.
-- Assumes nothing.
use Rattle.std.proofs.Common.{sym, ◌∙◌}
use Rattle.text_classes.proofs.OneAnswer.{OneAnswer}
use Rattle.decoder_scans.proofs as promised

pub is_plain : OneAnswer promised.is_plain.Reads.Learnt
is_plain κs a x y s t p q = p ∙ sym q

pub plain_few : OneAnswer promised.plain_few.Reads.Learnt
plain_few κs a x y s t p q = p ∙ sym q

pub plain_run : OneAnswer promised.plain_run.Reads.Learnt
plain_run κs a x y s t p q = p ∙ sym q

-- of each set as a value: by its type's name and its function's
pub basic_invalid_holds : OneAnswer promised.BasicInvalidByteSet.holds.Reads.Learnt
basic_invalid_holds κs a x y s t p q = p ∙ sym q

pub mlb_invalid_holds : OneAnswer promised.MlbInvalidByteSet.holds.Reads.Learnt
mlb_invalid_holds κs a x y s t p q = p ∙ sym q
