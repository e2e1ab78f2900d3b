-- Each promise of this crate admits one answer only. A theorem bears its function's name, and is about the function's
-- own contract: what a caller learns of its `ensures`.
-- Where a promise says an answer's number and value too, its first clause, an equation, already admits one answer.
-- Assumes nothing.
use mathlib.Core.Path.{sym, ◌∙◌}
use Rattle.text_classes.proofs.OneAnswer.{OneAnswer, OneOutcome}
use Rattle.lexer_place.proofs as promised

pub check_span : OneAnswer promised.check_span.Reads.Learnt
check_span κs a x y s t p q = p.0 ∙ sym q.0

-- the bytes of the part that is handed back
pub text_of : OneOutcome promised.text_of.Reads.Learnt (λ κs r s. r.now)
text_of κs a x y s t p q = p ∙ sym q

pub position_of : OneAnswer promised.position_of.Reads.Learnt
position_of κs a x y s t p q = p.0 ∙ sym q.0
