-- Each promise of this crate admits one answer only. A theorem bears its function's name, and is about the function's
-- own contract: what a caller learns of its `ensures`.
-- Where a promise says an answer's number and value too, its first clause, an equation, already admits one answer.
-- Assumes nothing.
use mathlib.Core.Path.{sym, ◌∙◌}
use Rattle.text_classes.proofs.OneAnswer.{OneAnswer, OneOutcome, ◌and◌, both}
use Rattle.built_review.proofs as promised

-- the answer, and the table afterwards
pub tick : OneOutcome promised.tick.Reads.Learnt (λ κs r s. r and s.1.0.now)
tick κs a x y s t p q = both (p.0 ∙ sym q.0) (p.1.1.1 ∙ sym q.1.1.1)

pub untick : OneOutcome promised.untick.Reads.Learnt (λ κs r s. r and s.1.0.now)
untick κs a x y s t p q = both (p.0 ∙ sym q.0) (p.1.1.1 ∙ sym q.1.1.1)

pub is_ticked : OneAnswer promised.is_ticked.Reads.Learnt
is_ticked κs a x y s t p q = p.0 ∙ sym q.0

pub ticks : OneAnswer promised.ticks.Reads.Learnt
ticks κs a x y s t p q = p.0 ∙ sym q.0
