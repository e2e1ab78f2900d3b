-- Each promise of this crate admits one answer only. A theorem bears its function's name, and is about the function's
-- own contract: what a caller learns of its `ensures`. The first clause, an equation, already admits one answer. The answer of
-- `error_words` is looked at by value: how many things are expected, and the text's bytes, wherever they lie.
-- Assumes nothing.
use mathlib.Core.Path.{sym, ◌∙◌}
use Rattle.text_classes.proofs.OneAnswer.{OneAnswer, OneOutcome}
use Rattle.decoder_words.specs.Words.{worded}
use Rattle.decoder_words.proofs as promised

pub error_of : OneAnswer promised.error_of.Reads.Learnt
error_of κs a x y s t p q = p.0 ∙ sym q.0

pub error_words : OneOutcome promised.error_words.Reads.Learnt (λ κs r s. worded r)
error_words κs a x y s t p q = p.0 ∙ sym q.0
