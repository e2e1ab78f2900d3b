-- Each promise of this crate admits one answer only, and that of `lex_tokens` one content of the records too. A theorem
-- bears its function's name, and is about the function's own contract: what a caller learns of its `ensures`.
use mathlib.Core.Path.{sym, ◌∙◌}
use Rattle.text_classes.proofs.OneAnswer.{OneAnswer, OneOutcome, ◌and◌, both}
use Rattle.lexer_structs.proofs as promised

-- the answer, and what the records hold
pub lex_tokens : OneOutcome promised.lex_tokens.Reads.Learnt (λ κs r s. r and s.1.0.now)
lex_tokens κs a x y s t p q = both (p.0 ∙ sym q.0) (p.1 ∙ sym q.1)

pub lex_eight : OneAnswer promised.lex_eight.Reads.Learnt
lex_eight κs a x y s t p q = p ∙ sym q
