-- Each promise of this crate admits one answer only. A theorem bears its function's name, and is about the function's
-- own contract: what a caller learns of its `ensures`.
-- Where a promise says an answer's numbers too, its first clause, an equation, already admits one answer.
-- Assumes nothing.
use mathlib.Core.Path.{sym, ◌∙◌}
use Rattle.text_classes.proofs.OneAnswer.{OneAnswer, OneOutcome, ◌and◌, both}
use Rattle.built_parts.proofs as promised

pub faulty : OneAnswer promised.checks.RefusalFromFaulty.from.Reads.Learnt
faulty κs a x y s t p q = p ∙ sym q

pub start : OneAnswer promised.Parts.start.Reads.Learnt
start κs a x y s t p q = p ∙ sym q

-- the answer with the state after it, and the records afterwards
pub feed : OneOutcome promised.Parts.feed.Reads.Learnt (λ κs r s. r and s.1.1.0.now)
feed κs a x y s t p q = both (p.0 ∙ sym q.0) (p.1.1.1.1 ∙ sym q.1.1.1.1)

pub close : OneOutcome promised.Parts.close.Reads.Learnt (λ κs r s. r and s.1.0.now)
close κs a x y s t p q = both (p.0 ∙ sym q.0) (p.1.1.1.1 ∙ sym q.1.1.1.1)
