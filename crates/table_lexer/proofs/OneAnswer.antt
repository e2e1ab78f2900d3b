-- Each promise of this crate admits one answer only, and that of `lex` one content of the records too. A theorem bears
-- its function's name, and is about the function's own contract: what a caller learns of its `ensures`.
-- Where a promise says an answer's number and value too, its first clause, an equation, already admits one answer.
-- Assumes nothing.
use mathlib.Core.Path.{sym, ◌∙◌}
use Rattle.text_classes.proofs.OneAnswer.{OneAnswer, OneOutcome, ◌and◌, both}
use Rattle.table_lexer.proofs as promised

pub step : OneAnswer promised.step.Reads.Learnt
step κs a x y s t p q = p.0 ∙ sym q.0

-- the answer, and what the records hold
pub lex : OneOutcome promised.lex.Reads.Learnt (λ κs r s. r and s.1.0.now)
lex κs a x y s t p q = both (p.0 ∙ sym q.0) (p.1.1.1.1 ∙ sym q.1.1.1.1)

-- what `Table` says of a place, in the loop and in a step
pub token : OneAnswer promised.table.TableEngine.token.Reads.Learnt
token κs a x y s t p q = p ∙ sym q

pub step_token : OneAnswer promised.table.TableStepEngine.step_token.Reads.Learnt
step_token κs a x y s t p q = p ∙ sym q
