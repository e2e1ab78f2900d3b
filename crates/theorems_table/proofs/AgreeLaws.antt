-- Both engines answer alike, because the promises of each pair of calls say the same of the same definitions.
-- Assumes nothing.
use mathlib.Core.Path.{◌≡◌, sym, ◌∙◌}
use Rattle.text_classes.proofs.OneAnswer.{both}
use Rattle.theorems_table.specs.EnginesAgree.{LexAgrees, StepAgrees, DecodeAgrees, DecodeInAgrees}

pub lex_agrees : LexAgrees
lex_agrees κs a x y s t p q = both (p.0 ∙ sym q.0) (p.1.1.1.1 ∙ sym q.1.1.1.1)

pub step_agrees : StepAgrees
step_agrees κs a x y s t p q = p.0 ∙ sym q.0

pub decode_agrees : DecodeAgrees
decode_agrees κs a x y s t p q =
    let answer : x ≡ y = p.0 ∙ sym q.0 in
    both answer (both (rw answer at p.1.0 ∙ sym q.1.0) (rw answer at p.1.1.0 ∙ sym q.1.1.0))

pub decode_in_agrees : DecodeInAgrees
decode_in_agrees κs a x y s t p q =
    let answer : x ≡ y = p.0 ∙ sym q.0 in
    both answer (both (rw answer at p.1.0 ∙ sym q.1.0) (rw answer at p.1.1.0 ∙ sym q.1.1.0))
