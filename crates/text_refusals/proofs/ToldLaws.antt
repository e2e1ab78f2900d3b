-- The numbers in which a refusal is told are its own, which its functions return.
-- Assumes nothing.
use mathlib.Core.Path.{◌≡◌, refl}
use Rattle.std.specs.Prelude.{Err}
use Rattle.text_refusals.specs.Refusals.{refusal_number, refusal_value, refusal_length}
use Rattle.text_refusals.specs.Told.{told_number, told_value, told_length}
use Rattle.text_refusals.specs.declared.Refusal.{Refusal}

pub told_refused : (A : Type 0) (r : Refusal)
    → (told_number {A = A} (Err r) ≡ refusal_number r)
    × ((told_value {A = A} (Err r) ≡ refusal_value r) × (told_length {A = A} (Err r) ≡ refusal_length r))
told_refused A r = (refl, (refl, refl))
