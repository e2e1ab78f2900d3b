-- Each promise of this crate admits one answer only. A theorem bears its function's name, and is about the function's
-- own contract: what a caller learns of its `ensures`.
-- Assumes nothing.
use Rattle.std.proofs.Common.{sym, ◌∙◌}
use Rattle.text_classes.proofs.OneAnswer.{OneOutcome, OneAnswer}
use Rattle.decoder_pieces.proofs as promised

pub strip_start_newline : OneAnswer promised.string.strip_start_newline.Reads.Learnt
strip_start_newline κs a x y s t p q = p ∙ sym q

pub escape_at : OneAnswer promised.string.escape_at.Reads.Learnt
escape_at κs a x y s t p q = p ∙ sym q

pub step : OneAnswer promised.body.Body.step.Reads.Learnt
step κs a x y s t p q = p ∙ sym q

pub past : OneAnswer promised.body.Body.past.Reads.Learnt
past κs a x y s t p q = p ∙ sym q

pub bytes : OneOutcome promised.body.Body.bytes.Reads.Learnt (λ κs r s. r.now)
bytes κs a x y s t p q = p ∙ sym q

-- what the engine that tests ranges says of bytes
pub plain_run : OneAnswer promised.ranges.RangesBytes.plain_run.Reads.Learnt
plain_run κs a x y s t p q = p ∙ sym q

pub basic_invalid : OneAnswer promised.ranges.RangesBytes.basic_invalid.Reads.Learnt
basic_invalid κs a x y s t p q = p ∙ sym q

pub mlb_invalid : OneAnswer promised.ranges.RangesBytes.mlb_invalid.Reads.Learnt
mlb_invalid κs a x y s t p q = p ∙ sym q

pub blanks : OneAnswer promised.ranges.RangesBytes.blanks.Reads.Learnt
blanks κs a x y s t p q = p ∙ sym q

pub is_escape : OneAnswer promised.ranges.RangesBytes.is_escape.Reads.Learnt
is_escape κs a x y s t p q = p ∙ sym q

pub is_cr : OneAnswer promised.ranges.RangesBytes.is_cr.Reads.Learnt
is_cr κs a x y s t p q = p ∙ sym q

pub is_lf : OneAnswer promised.ranges.RangesBytes.is_lf.Reads.Learnt
is_lf κs a x y s t p q = p ∙ sym q

pub is_skipped : OneAnswer promised.ranges.RangesBytes.is_skipped.Reads.Learnt
is_skipped κs a x y s t p q = p ∙ sym q

pub letter_of : OneAnswer promised.ranges.RangesBytes.letter_of.Reads.Learnt
letter_of κs a x y s t p q = p ∙ sym q

pub digit_of : OneAnswer promised.ranges.RangesBytes.digit_of.Reads.Learnt
digit_of κs a x y s t p q = p ∙ sym q

-- its shortcuts
pub few : OneAnswer promised.ranges.RangesEngine.few.Reads.Learnt
few κs a x y s t p q = p ∙ sym q

pub escape : OneAnswer promised.ranges.RangesEngine.escape.Reads.Learnt
escape κs a x y s t p q = p ∙ sym q

-- by any engine
pub step_by : (g : _) (l : _) (m : _) (d : _) → OneAnswer (promised.body.Body.step_by.Reads.Learnt g l m d)
step_by g l m d κs a x y s t p q = p ∙ sym q
