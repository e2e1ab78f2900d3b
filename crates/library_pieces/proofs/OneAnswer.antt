-- Each promise of this crate admits one answer only. A theorem bears its function's name, and is about the function's
-- own contract: what a caller learns of its `ensures`.
use mathlib.Core.Path.{sym, ◌∙◌}
use Rattle.text_classes.proofs.OneAnswer.{OneAnswer}
use Rattle.library_pieces.proofs as promised

pub open_in : OneAnswer promised.open_in.Reads.Learnt
open_in κs a x y s t p q = p ∙ sym q

pub step_in : OneAnswer promised.step_in.Reads.Learnt
step_in κs a x y s t p q = p ∙ sym q

pub body_from : OneAnswer promised.BodyNumbersFromBody.from.Reads.Learnt
body_from κs a x y s t p q = p ∙ sym q

pub given_from : OneAnswer promised.GivenNumbersFromGiven.from.Reads.Learnt
given_from κs a x y s t p q = p ∙ sym q
