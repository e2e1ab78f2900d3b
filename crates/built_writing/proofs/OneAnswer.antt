-- The promise of `write_value` admits one answer only, with one content of the output. The theorem bears the function's name,
-- and is about the function's own contract: what a caller learns of its `ensures`. Its first two clauses say it; the others
-- say the numbers of the answer, which the first one fixes.
-- Assumes nothing.
use Rattle.std.proofs.Common.{◌≡◌, sym, ◌∙◌}
use Rattle.text_classes.proofs.OneAnswer.{OneOutcome, ◌and◌, both}
use Rattle.built_writing.proofs as promised

pub write_value : OneOutcome promised.write_value.Reads.Learnt (λ κs r s. r and s.1.0.now)
write_value κs a x y s t p q =
    let answer : x ≡ y = p.0 ∙ sym q.0 in
    both answer (rw answer at p.1.0 ∙ sym q.1.0)
