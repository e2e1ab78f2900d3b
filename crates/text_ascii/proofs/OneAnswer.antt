-- The promises of `ascii_run`, `is_ascii_block` and `four` admit one answer only. A theorem bears its function's name, and is about the
-- function's own contract: what a caller learns of its `ensures`. `is_short_ascii` and `is_ascii_word` may answer no where the
-- bytes are ASCII all the same: their callers then go another way.
-- Assumes nothing.
use mathlib.Core.Path.{sym, ◌∙◌}
use Rattle.text_classes.proofs.OneAnswer.{OneAnswer}
use Rattle.text_ascii.proofs as promised

pub ascii_run : OneAnswer promised.ascii_run.Reads.Learnt
ascii_run κs a x y s t p q = p ∙ sym q

pub is_ascii_block : OneAnswer promised.is_ascii_block.Reads.Learnt
is_ascii_block κs a x y s t p q = p ∙ sym q

pub four : OneAnswer promised.four.Reads.Learnt
four κs a x y s t p q = p ∙ sym q
