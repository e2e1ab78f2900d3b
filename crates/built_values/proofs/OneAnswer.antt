-- Each promise of this crate admits one answer only. A theorem bears its function's name, and is about the function's
-- own contract: what a caller learns of its `ensures`.
-- The first clause of each promise, `ValueAnswer`, already admits one answer.
-- Assumes nothing.
use Rattle.text_classes.proofs.OneAnswer.{OneAnswer}
use Rattle.built_values.proofs.NumberLaws.{one_answer}
use Rattle.built_values.proofs as promised

pub is_value : OneAnswer promised.is_value.Reads.Learnt
is_value κs a x y s t p q = one_answer p.0 q.0

pub is_value_in : OneAnswer promised.is_value_in.Reads.Learnt
is_value_in κs a x y s t p q = one_answer p.0 q.0
