-- Each promise of this crate admits one answer only. A theorem bears its function's name, and is about the function's
-- own contract: what a caller learns of its `ensures`.
-- Assumes nothing.
use mathlib.Core.Path.{sym, ◌∙◌}
use Rattle.text_classes.proofs.OneAnswer.{OneAnswer}
use Rattle.decoder_rules.proofs as promised

pub number : OneAnswer promised.DecodeError.number.Reads.Learnt
number κs a x y s t p q = p ∙ sym q

pub copy_piece : OneAnswer promised.making.copy_piece.Reads.Learnt
copy_piece κs a x y s t p q = p ∙ sym q

pub bad_copy : OneAnswer promised.making.bad_copy.Reads.Learnt
bad_copy κs a x y s t p q = p ∙ sym q

pub char_piece : OneAnswer promised.making.char_piece.Reads.Learnt
char_piece κs a x y s t p q = p ∙ sym q

pub bad_char : OneAnswer promised.making.bad_char.Reads.Learnt
bad_char κs a x y s t p q = p ∙ sym q

pub drop_piece : OneAnswer promised.making.drop_piece.Reads.Learnt
drop_piece κs a x y s t p q = p ∙ sym q

pub bad_drop : OneAnswer promised.making.bad_drop.Reads.Learnt
bad_drop κs a x y s t p q = p ∙ sym q

pub try_from : OneAnswer promised.EditionTryFromUsize.try_from.Reads.Learnt
try_from κs a x y s t p q = p ∙ sym q
