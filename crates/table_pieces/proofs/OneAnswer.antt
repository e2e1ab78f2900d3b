-- What `Table` promises admits one answer only. A theorem bears its function's name, and is about the function's own contract:
-- what a caller learns of its `ensures`.
-- Assumes nothing.
use Rattle.std.proofs.Common.{sym, ◌∙◌}
use Rattle.text_classes.proofs.OneAnswer.{OneAnswer}
use Rattle.table_pieces.proofs as promised

-- of bytes
pub plain_run : OneAnswer promised.TableBytes.plain_run.Reads.Learnt
plain_run κs a x y s t p q = p ∙ sym q

pub basic_invalid : OneAnswer promised.TableBytes.basic_invalid.Reads.Learnt
basic_invalid κs a x y s t p q = p ∙ sym q

pub mlb_invalid : OneAnswer promised.TableBytes.mlb_invalid.Reads.Learnt
mlb_invalid κs a x y s t p q = p ∙ sym q

pub blanks : OneAnswer promised.TableBytes.blanks.Reads.Learnt
blanks κs a x y s t p q = p ∙ sym q

pub is_escape : OneAnswer promised.TableBytes.is_escape.Reads.Learnt
is_escape κs a x y s t p q = p ∙ sym q

pub is_cr : OneAnswer promised.TableBytes.is_cr.Reads.Learnt
is_cr κs a x y s t p q = p ∙ sym q

pub is_lf : OneAnswer promised.TableBytes.is_lf.Reads.Learnt
is_lf κs a x y s t p q = p ∙ sym q

pub is_skipped : OneAnswer promised.TableBytes.is_skipped.Reads.Learnt
is_skipped κs a x y s t p q = p ∙ sym q

pub letter_of : OneAnswer promised.TableBytes.letter_of.Reads.Learnt
letter_of κs a x y s t p q = p ∙ sym q

pub digit_of : OneAnswer promised.TableBytes.digit_of.Reads.Learnt
digit_of κs a x y s t p q = p ∙ sym q

-- the shortcuts, of which it takes none
pub few : OneAnswer promised.TableEngine.few.Reads.Learnt
few κs a x y s t p q = p ∙ sym q

pub escape : OneAnswer promised.TableEngine.escape.Reads.Learnt
escape κs a x y s t p q = p ∙ sym q
