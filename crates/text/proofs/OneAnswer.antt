-- The promise of `check_utf8` admits one answer only. A theorem bears its function's name, and is about the function's own
-- contract: what a caller learns of its `ensures`.
-- Where a promise says an answer's number and value too, its first clause, an equation, already admits one answer.
-- Assumes nothing.
use mathlib.Core.Path.{sym, ◌∙◌}
use Rattle.text_classes.proofs.OneAnswer.{OneAnswer}
use Rattle.text.proofs as promised

pub check_utf8 : OneAnswer promised.utf8.check_utf8.Reads.Learnt
check_utf8 κs a x y s t p q = p.0 ∙ sym q.0
