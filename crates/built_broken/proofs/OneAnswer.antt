-- Each promise of this crate admits one answer only. A theorem bears its function's name, and is about the function's own contract:
-- what a caller learns of its `ensures`. The first clause says it; the others say the numbers of the answer.
-- Assumes nothing.
use mathlib.Core.Path.{sym, ◌∙◌}
use Rattle.text_classes.proofs.OneAnswer.{OneAnswer}
use Rattle.built_broken.proofs as promised

pub first_broken : OneAnswer promised.first_broken.Reads.Learnt
first_broken κs a x y s t p q = p.0 ∙ sym q.0

pub first_broken_in : OneAnswer promised.first_broken_in.Reads.Learnt
first_broken_in κs a x y s t p q = p.0 ∙ sym q.0
