-- The exported numbers are the numbers of the answers as Told.antt of crate `text_refusals`, and of each crate, defines them: each field is
-- the one of its name.
-- Those of an answer that is a count, a flag or nothing: ToldLaws.antt of library_numbers.
use Rattle.std.specs.Prelude.{Bool, true, false, Result, Ok, Err, Option, Some, None, ⊤}
use Prim.Native.Nat.{◌+◌}
use mathlib.Core.Path.{◌≡◌, refl}
use native.Mathlib.Omega.{arith}
use Rattle.text_refusals.specs.Told.{told_number, told_value, told_length}
use Rattle.text_refusals.specs.declared.Refusal.{Refusal}
use Rattle.lexer_token.specs.declared.Token.{Token}
use Rattle.built_broken.specs.declared.FirstError.{FirstError}
use Rattle.built_figures.specs.Told.{tally_number, tally_value, tally_length}
use Rattle.built_figures.specs.declared.NotAdded.{NotAdded}
use Rattle.built_figures.specs.declared.NotAdded.TheVariants.{TooLong, Refused as Unadded}
use Rattle.built_mending.specs.Told.{mended_value, mended_records}
use Rattle.built_mending.specs.declared.Mended.{Mended}
use Rattle.built_values.specs.Told.{value_yes}
use Rattle.library_numbers.specs.Numbers.{flag_numbers}
use Rattle.library_built.specs.Numbers.{broken_numbers, adding_numbers, mend_numbers}

pub mend_told : (r : Result Mended Refusal)
    → mend_numbers r
    ≡ record {
      answer = record { refusal = told_number r; value = mended_value r; length = told_length r };
      records = mended_records r;
    }
mend_told (Ok m) = refl
mend_told (Err r) = refl

-- the number returned, or 1 for a value
pub value_told : (r : Result Bool Refusal) → ((flag_numbers r).refusal ≡ told_number r) × ((flag_numbers r).value ≡ told_value r + value_yes r)
value_told (Ok true) = (refl, refl)
value_told (Ok false) = (refl, refl)
value_told (Err r) = (refl, omega arith)

pub broken_told : (r : Result (Option (Token × FirstError)) Refusal)
    → (broken_numbers r).answer ≡ record { refusal = told_number r; value = told_value r; length = told_length r }
broken_told (Ok (Some (t, e))) = refl
broken_told (Ok None) = refl
broken_told (Err r) = refl

pub adding_told : (a : Result ⊤ NotAdded) → adding_numbers a ≡ record { refusal = tally_number a; value = tally_value a; length = tally_length a }
adding_told (Ok done) = refl
adding_told (Err TooLong) = refl
adding_told (Err (Unadded r)) = refl
