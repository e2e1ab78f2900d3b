-- Each promise of this crate admits one answer only. A theorem bears its function's name, and is about the function's
-- own contract: what a caller learns of its `ensures`.
-- Assumes nothing.
use mathlib.Core.Path.{sym, ◌∙◌}
use Rattle.text_classes.proofs.OneAnswer.{OneAnswer, OneOutcome, ◌and◌, both}
use Rattle.built_lexing.proofs as promised

pub not_lexed : OneAnswer promised.RefusalFromNotLexed.from.Reads.Learnt
not_lexed κs a x y s t p q = p ∙ sym q

pub lex_start : OneAnswer promised.lex_start.Reads.Learnt
lex_start κs a x y s t p q = p ∙ sym q

-- the answer, and the records afterwards
pub lex_part : OneOutcome promised.lex_part.Reads.Learnt (λ κs r s. r and s.1.1.0.now)
lex_part κs a x y s t p q = both (p.0 ∙ sym q.0) (p.1 ∙ sym q.1)

pub lex_end : OneOutcome promised.lex_end.Reads.Learnt (λ κs r s. r and s.1.0.now)
lex_end κs a x y s t p q = both (p.0 ∙ sym q.0) (p.1 ∙ sym q.1)

pub is_astray : OneAnswer promised.is_astray.Reads.Learnt
is_astray κs a x y s t p q = p ∙ sym q

pub passes_limit : OneAnswer promised.passes_limit.Reads.Learnt
passes_limit κs a x y s t p q = p ∙ sym q
