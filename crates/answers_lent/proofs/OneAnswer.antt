-- Each promise of this crate admits one answer only, and one content of the lent memory. A theorem bears its function's
-- name, and is about the function's own contract: what a caller learns of its `ensures`.
use mathlib.Core.Path.{sym, ◌∙◌}
use Rattle.text_classes.proofs.OneAnswer.{OneOutcome, ◌and◌, both}
use Rattle.answers_lent.proofs as promised

-- the records of the part that is handed back
pub front : (n : _) (fits : _) → OneOutcome (promised.front.Reads.Learnt n fits) (λ κs r s. r.now)
front n fits κs a x y s t p q = p ∙ sym q

-- the count, and what the memory holds
pub copy : OneOutcome promised.copy.Reads.Learnt (λ κs r s. r and s.1.0.now)
copy κs a x y s t p q = both (p.0 ∙ sym q.0) (rw (p.0 ∙ sym q.0) at p.1 ∙ sym q.1)
