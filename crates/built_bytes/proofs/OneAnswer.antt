-- Each promise of this crate admits one answer only. A theorem bears its function's name, and is about the function's
-- own contract: what a caller learns of its `ensures`.
-- Assumes nothing.
use mathlib.Core.Path.{sym, ◌∙◌}
use Rattle.text_classes.proofs.OneAnswer.{OneAnswer}
use Rattle.built_bytes.proofs as promised

pub quote_mark : OneAnswer promised.Quote.mark.Reads.Learnt
quote_mark κs a x y s t p q = p ∙ sym q

pub line_kind : OneAnswer promised.Quote.line_kind.Reads.Learnt
line_kind κs a x y s t p q = p ∙ sym q

pub ml_kind : OneAnswer promised.Quote.ml_kind.Reads.Learnt
ml_kind κs a x y s t p q = p ∙ sym q

pub mode_turn : OneAnswer promised.Mode.turn.Reads.Learnt
mode_turn κs a x y s t p q = p ∙ sym q

pub mode_pending : OneAnswer promised.Mode.pending.Reads.Learnt
mode_pending κs a x y s t p q = p ∙ sym q

pub opened_by : OneAnswer promised.opened_by.Reads.Learnt
opened_by κs a x y s t p q = p ∙ sym q
