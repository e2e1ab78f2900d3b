-- The promise of `atom_front` admits one answer. That of `line_front` admits two, and this file says so: it may stop at any place
-- before, where its caller decodes the string. `first_broken`, whose promise admits one answer, holds for all of them.
-- Assumes nothing.
use Rattle.std.proofs.Common.{◌≡◌, ℕ, ◌≤◌, List, [], ◌∷◌, length, sym, refl, ◌∙◌, arith}
use Rattle.text_classes.specs.Classes.{literal_char}
use Rattle.built_fronts.specs.Fronts.{Sound}
use Rattle.built_fronts.specs.declared.Line.TheVariants.{Literal}
use Rattle.built_fronts.proofs.LineLaws.{sound_start, sound_plain}
use Rattle.text_classes.proofs.OneAnswer.{OneAnswer}
use Rattle.built_fronts.proofs as promised

pub atom_front : OneAnswer promised.atom_front.Reads.Learnt
atom_front κs a x y s t p q = p ∙ sym q

-- a body of one letter
abbrev pub letter : List ℕ
letter = 0x61 ∷ []

-- it is gone over or not
pub line_front : ((x y : ℕ) → (0 ≤ length letter → Sound Literal letter 0 x) → (0 ≤ length letter → Sound Literal letter 0 y) → x ≡ y) → ⊥
unfolding literal_char
line_front one =
    let over : Sound Literal letter 0 1 = sound_plain Literal letter 0 (omega arith) (omega arith) refl in
    let same : ◌≡◌ {A = ℕ} 0 1 = one 0 1 (λ _. sound_start Literal letter 0 (omega arith)) (λ _. over) in
    omega arith
