-- The promises of `put_right` and `put_right_in` admit one answer only, with one content of the output and one of the records.
-- Each theorem bears its function's name, and is about the function's own contract: what a caller learns of its `ensures`. Its
-- first three clauses say it; the others say the numbers of the answer, which the first one fixes.
-- Assumes nothing.
use mathlib.Core.Path.{◌≡◌, sym, ◌∙◌}
use Rattle.text_classes.proofs.OneAnswer.{OneOutcome, ◌and◌, both}
use Rattle.built_mending.proofs as promised

pub put_right : OneOutcome promised.put_right.Reads.Learnt (λ κs r s. r and s.1.0.now and s.1.1.0.now)
put_right κs a x y s t p q =
    let answer : x ≡ y = p.0 ∙ sym q.0 in
    both answer (both (rw answer at p.1.0 ∙ sym q.1.0) (rw answer at p.1.1.0 ∙ sym q.1.1.0))

pub put_right_in : OneOutcome promised.put_right_in.Reads.Learnt (λ κs r s. r and s.1.1.0.now and s.1.1.1.0.now)
put_right_in κs a x y s t p q =
    let answer : x ≡ y = p.0 ∙ sym q.0 in
    both answer (both (rw answer at p.1.0 ∙ sym q.1.0) (rw answer at p.1.1.0 ∙ sym q.1.1.0))
