-- RULE. UTF-8 byte by byte: the character in progress between two bytes, and what one byte more does to it. The table of
-- first bytes is the Unicode standard's, `lead_of` of crate `text_characters`.
use Rattle.std.specs.Prelude.{ℕ, ◌-◌, Option, Some, None}
use mathlib.Core.{Bool.cond}
use lib.{Dec.ltb}
use Rattle.text_characters.specs.{Lead.lead_of}
use Rattle.built_characters.specs.declared.{Character.Character, Character.TheVariants.Whole, Character.TheVariants.Begun}

-- the character in progress after the first byte of one of n bytes: None where none begins so; it is whole, or it asks for
-- bytes more, the next of a range
abbrev pub led : ℕ → ℕ → ℕ → Option Character
led n low high = cond (ltb n 1) None (cond (ltb n 2) (Some Whole) (Some (Begun (n - 1) low high)))

unfoldable pub led_by : ℕ → Option Character
led_by b = led (lead_of b).0 (lead_of b).1 (lead_of b).2

-- one byte more that is as asked for: it was the last, or others follow, each of 80 to BF
abbrev pub as_asked : ℕ → Character
as_asked left = cond (ltb left 2) Whole (Begun (left - 1) 0x80 0xBF)

-- that after any byte: None where the byte is not as asked for
unfoldable pub character_turn : Character → ℕ → Option Character
character_turn Whole b = led_by b
character_turn (Begun left low high) b = cond (ltb b low) None (cond (ltb high b) None (Some (as_asked left)))
