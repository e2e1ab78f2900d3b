-- FOLLOWS. What the numbers in which the answer of `write_value` is told come to for the arguments, as its promise says. Proved by `wrote` in proofs/NumberLaws.antt.
-- Assumes nothing.
use Rattle.std.specs.Prelude.{ℕ}
use mathlib.Core.{Bool.cond, List.List}
use lib.{Dec.ltb, Dec.eqb, ListN.length}
use Rattle.text_refusals.specs.{Refusals.limit}
use Rattle.text_scalars.specs.{Utf8Read.valid_prefix}
use Rattle.built_writing.specs.{Writing.written}

-- what they come to for a value and an output of o bytes: 2 and 1 as the check has them, then 4 or 0, both with the length of
-- the text
abbrev pub write_refusal : List ℕ → ℕ → ℕ
write_refusal value o =
    cond (ltb limit (length value)) 2
    (cond (eqb (valid_prefix value) (length value)) (cond (ltb o (length (written value))) 4 0) 1)

abbrev pub write_returned : List ℕ → ℕ → ℕ
write_returned value o =
    cond (ltb limit (length value)) limit
    (cond (eqb (valid_prefix value) (length value)) (length (written value)) (valid_prefix value))
