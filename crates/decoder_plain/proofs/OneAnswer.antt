-- The promise of `copy_plain` admits two answers, and this file says so: it may leave a text that is plain to its caller,
-- which decodes it then. `decode`, whose promise admits one answer, holds for either.
-- Assumes nothing.
use Rattle.std.proofs.Common.{◌≡◌, ℕ, Option, Some, None, List, [], ◌∷◌, length, get_or, refl, inl, arith}
use Rattle.text_classes.specs.Classes.{literal_char}
use Rattle.decoder_rules.proofs.PlainLaws.{OwnLine, line_of, clear_line, Plain, Copied}

-- two apostrophes
abbrev pub empty : List ℕ
empty = 0x27 ∷ 0x27 ∷ []

-- its body is copied, which is no byte, or it is left
pub copy_plain : ((x y : Option ℕ) → Copied (Plain 39 empty) empty [] x [] → Copied (Plain 39 empty) empty [] y [] → x ≡ y) → ⊥
unfolding line_of
copy_plain one =
    let line : OwnLine 0x27 literal_char empty =
    clear_line {z = 0x27} (inl (refl, refl)) empty (omega arith) (omega arith) refl refl (λ k l h. absurd (omega arith)) in
    let plain : Plain 39 empty = inl (refl, line) in
    let same = one (Some 0) None (record { is = plain; size = refl; room = omega arith; holds = refl }) refl in
    absurd (let z : ◌≡◌ {A = ℕ} 0 1 = cc in omega arith)
