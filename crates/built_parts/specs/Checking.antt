-- RULE. UTF-8 over parts: the character in progress, the place up to which whole characters stand, and what bytes do to both.
use Rattle.std.specs.Prelude.{ℕ, ◌+◌, ◌-◌, Option, Some, None, Result, Ok, Err}
use mathlib.Core.{Bool.cond, List.List, List.[], List.◌∷◌}
use lib.{Dec.ltb}
use Rattle.built_characters.specs.declared.{Character.Character, Character.TheVariants.Whole, Character.TheVariants.Begun}
use Rattle.built_characters.specs.{Characters.character_turn}
use Rattle.built_parts.specs.declared.{checks.Checked.Checked, checks.Faulty.Faulty}

-- the length of the faulty sequence, where whole characters stand up to `valid` and the byte at `at` is not as asked for: the
-- bytes of the character before it, or that byte itself
abbrev pub faulty_len : ℕ → ℕ → ℕ
faulty_len valid at = cond (ltb valid at) (at - valid) 1

-- up to where whole characters stand before the byte at `at`: up to it, where no character is in progress
abbrev pub valid_at : Character → ℕ → ℕ → ℕ
valid_at Whole valid at = at
valid_at (Begun left low high) valid at = valid

-- sound bytes, after which a character is in progress, and whole characters stand up to `valid`; and a faulty sequence there
abbrev pub good : Character → ℕ → Result Checked Faulty
good c valid = Ok (record { character = c; valid = valid })

abbrev pub bad : ℕ → ℕ → Result Checked Faulty
bad valid len = Err (record { valid = valid; length = len })

-- the byte at `at`, by the character in progress after it, where whole characters stand up to `valid`
abbrev pub checked_by : Option Character → ℕ → ℕ → Result Checked Faulty
checked_by (Some c) valid at = good c valid
checked_by None valid at = bad valid (faulty_len valid at)

-- what follows sound bytes, and what does not follow others
abbrev pub on_good : Result Checked Faulty → (Character → ℕ → Result Checked Faulty) → Result Checked Faulty
on_good (Ok g) f = f g.character g.valid
on_good (Err b) f = Err b

-- bytes from the place `at` on
unfoldable pub checked : Character → ℕ → ℕ → List ℕ → Result Checked Faulty
checked c valid at [] = good c (valid_at c valid at)
checked c valid at (b ∷ s) = on_good (checked_by (character_turn c b) (valid_at c valid at) at) (λ d v. checked d v (at + 1) s)
