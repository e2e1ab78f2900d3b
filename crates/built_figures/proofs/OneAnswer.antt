-- The promise of `tally` admits one answer only. The theorem bears the function's name, and is about the function's own contract:
-- what a caller learns of its `ensures`. Its first clause says the answer and the totals; the others say the numbers of the
-- answer, which the first one fixes.
-- Assumes nothing.
use mathlib.Core.Path.{sym, ◌∙◌}
use Rattle.text_classes.proofs.OneAnswer.{OneAnswer}
use Rattle.built_figures.proofs as promised

pub tally : OneAnswer promised.tally.Reads.Learnt
tally κs a x y s t p q = p.0 ∙ sym q.0
