-- Each promise of this crate admits one answer only. A theorem bears its function's name, and is about the function's
-- own contract: what a caller learns of its `ensures`.
use mathlib.Core.Path.{sym, ◌∙◌}
use Rattle.text_classes.proofs.OneAnswer.{OneAnswer}
use Rattle.library_numbers.proofs as promised

pub answer_of : OneAnswer promised.answer_of.Reads.Learnt
answer_of κs a x y s t p q = p ∙ sym q

pub refused : OneAnswer promised.refused.Reads.Learnt
refused κs a x y s t p q = p ∙ sym q

pub started : OneAnswer promised.started.Reads.Learnt
started κs a x y s t p q = p ∙ sym q

pub cursor_of : OneAnswer promised.cursor_of.Reads.Learnt
cursor_of κs a x y s t p q = p ∙ sym q

pub stepped : OneAnswer promised.stepped.Reads.Learnt
stepped κs a x y s t p q = p ∙ sym q

pub part_of : OneAnswer promised.part_of.Reads.Learnt
part_of κs a x y s t p q = p ∙ sym q

pub positioned : OneAnswer promised.positioned.Reads.Learnt
positioned κs a x y s t p q = p ∙ sym q

pub decoded : OneAnswer promised.decoded.Reads.Learnt
decoded κs a x y s t p q = p ∙ sym q

pub described : OneAnswer promised.described.Reads.Learnt
described κs a x y s t p q = p ∙ sym q

pub encoded : OneAnswer promised.encoded.Reads.Learnt
encoded κs a x y s t p q = p ∙ sym q

pub worded : OneAnswer promised.worded.Reads.Learnt
worded κs a x y s t p q = p ∙ sym q

pub bit : OneAnswer promised.bit.Reads.Learnt
bit κs a x y s t p q = p ∙ sym q

-- of a call that answers with any value
pub answered : (g : _) (laws : _) (value : _) (d : _) → OneAnswer (promised.answered.Reads.Learnt g laws value d)
answered g laws value d κs a x y s t p q = p ∙ sym q

pub padded : (n : _) (fits : _) → OneAnswer (promised.padded.Reads.Learnt n fits)
padded n fits κs a x y s t p q = p ∙ sym q

pub cursor_from : OneAnswer promised.CursorNumbersFromCursor.from.Reads.Learnt
cursor_from κs a x y s t p q = p ∙ sym q

pub token_from : OneAnswer promised.TokenNumbersFromToken.from.Reads.Learnt
token_from κs a x y s t p q = p ∙ sym q

-- an answer's value as a number: of a count, a flag and nothing
pub usize_value : OneAnswer promised.UsizeValue.value.Reads.Learnt
usize_value κs a x y s t p q = p ∙ sym q

pub bool_value : OneAnswer promised.BoolValue.value.Reads.Learnt
bool_value κs a x y s t p q = p ∙ sym q

pub unit_value : OneAnswer promised.UnitValue.value.Reads.Learnt
unit_value κs a x y s t p q = p ∙ sym q
