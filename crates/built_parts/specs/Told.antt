-- FOLLOWS. The numbers in which a part's answer and the closing word's are told: each follows from the answer, by the definitions
-- of all answers (`told_number`, `told_count`, `told_length` in crate `text_refusals`), and promises say besides what they come to for
-- the arguments. Proved by `fed_numbers` and `closed_numbers` in proofs/NumberLaws.antt.
-- Assumes nothing.
use Rattle.std.specs.Prelude.{ℕ, ◌+◌, Result, Ok, Err}
use mathlib.Core.{Bool.cond, List.List}
use lib.{ListN.length, Dec.ltb}
use Rattle.text_refusals.specs.{Refusals.limit}
use Rattle.built_characters.specs.declared.{Character.Character, Character.TheVariants.Whole, Character.TheVariants.Begun}
use Rattle.built_parts.specs.declared.{checks.Checked.Checked, checks.Faulty.Faulty, Parts.Parts}
use Rattle.built_lexing.specs.{States.given_by, States.last_tokens}
use Rattle.built_parts.specs.{Feeding.is_over, Feeding.checked_from}

-- what a call comes to where it is after the end, where it passes the limit, and else
abbrev pub unless_over : {A : Type 0} → Parts → ℕ → A → A → A → A
unless_over p n over long else = cond (is_over p) over (cond (ltb limit (p.lexing.at + n)) long else)

-- ---- a part: 8 with 0, 2 with the limit, 1 with its two numbers, 3 with the records needed, else 0 with the tokens

abbrev pub by_check : {A : Type 0} → Result Checked Faulty → (ℕ → ℕ → A) → A → A
by_check (Err b) bad good = bad b.valid b.length
by_check (Ok g) bad good = good

abbrev pub feed_refusal : Parts → List ℕ → ℕ → ℕ
feed_refusal p s room =
    unless_over p (length s) 8 2
    (by_check (checked_from p s) (λ valid len. 1) (cond (ltb room (length (given_by p.lexing s))) 3 0))

abbrev pub feed_returned : Parts → List ℕ → ℕ
feed_returned p s =
    unless_over p (length s) 0 limit (by_check (checked_from p s) (λ valid len. valid) (length (given_by p.lexing s)))

abbrev pub feed_fault : Parts → List ℕ → ℕ
feed_fault p s = unless_over p (length s) 0 0 (by_check (checked_from p s) (λ valid len. len) 0)

-- ---- the closing word: the same, and the second number is always 0

abbrev pub by_character : {A : Type 0} → Character → A → A → A
by_character (Begun left low high) bad good = bad
by_character Whole bad good = good

abbrev pub close_refusal : Parts → ℕ → ℕ
close_refusal p room =
    unless_over p 0 8 2 (by_character p.character 1 (cond (ltb room (length (last_tokens p.lexing))) 3 0))

abbrev pub close_returned : Parts → ℕ
close_returned p = unless_over p 0 0 limit (by_character p.character p.valid (length (last_tokens p.lexing)))
