-- The promises of `lead_of` and `is_among` admit one answer only. A theorem bears its function's name, and is about the
-- function's own contract: what a caller learns of its `ensures`.
-- Assumes nothing.
use Prim.Native.Nat.{ℕ}
use Rattle.std.specs.Prelude.{Option, Some, None}
use mathlib.Core.Path.{◌≡◌, refl, sym, ◌∙◌}
use mathlib.Core.Bool.{Bool, true, false}
use mathlib.Core.List.{List, [], ◌∷◌}
use native.Mathlib.Omega.{arith}
use Rattle.text_classes.proofs.OneAnswer.{OneAnswer}
use Rattle.text_characters.specs.Lead.{lead_of, Among, CharacterAt, WideAt}
use Rattle.text_characters.proofs as promised

pub lead_of_lem : OneAnswer promised.lead_of.Reads.Learnt
lead_of_lem κs a x y s t p q = p ∙ sym q

module _ (low high b : ℕ) where
  abbrev Told : Bool → Type 0
  Told r = (r ≡ true → Among low high b) × (r ≡ false → Among low high b → ⊥)

  same : (x y : Bool) → Told x → Told y → x ≡ y
  same true true p q = refl
  same true false p q = absurd (q.1 refl (p.0 refl))
  same false true p q = absurd (p.1 refl (q.0 refl))
  same false false p q = refl

pub is_among : OneAnswer promised.is_among.Reads.Learnt
is_among κs a x y s t p q = same a.1.0 a.1.1.0 a.0 x y p q

-- The promise of `wide_at` admits two answers, and this theorem says so: it may answer none where a character stands, and its
-- caller then leaves the text to the check. Here é, of two bytes. So does that of `chars_run`, which may stop at any character.
abbrev accent : List ℕ
accent = 0xC3 ∷ 0xA9 ∷ []

pub wide_at : ((x y : Option ℕ) → WideAt accent 0 x → WideAt accent 0 y → x ≡ y) → ⊥
unfolding lead_of
wide_at one =
    let there : CharacterAt accent 0 2 = record {
      some = omega arith;
      asked = (refl, omega arith);
      third = λ h. absurd (omega arith);
      fourth = λ h. absurd (omega arith);
    } in
    let same = one None (Some 2) tt (omega arith, there) in
    cc same
