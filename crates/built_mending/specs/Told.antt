-- FOLLOWS. The numbers in which the answers of `put_right` and `put_right_in` are told, beside `told_number` and `told_length` of
-- crate text_refusals: each follows from the answer, and the promises say besides what they come to for the arguments. Proved by
-- `told` in proofs/NumberLaws.antt.
-- Assumes nothing.
use Rattle.std.specs.Prelude.{ℕ, Result, Ok, Err}
use mathlib.Core.{Bool.cond, List.List}
use lib.{Dec.ltb, Dec.eqb, ListN.length}
use Rattle.text_refusals.specs.{Refusals.limit, Refusals.refusal_value, declared.Refusal.Refusal}
use Rattle.text_scalars.specs.{Utf8Read.valid_prefix}
use Rattle.built_mending.specs.{Mending.mended, Mending.listed}
use Rattle.built_mending.specs.declared.{Mended.Mended}
use Rattle.decoder_rules.specs.Encodings.{is_edition}

-- the count of bytes, or the number returned
abbrev pub mended_value : Result Mended Refusal → ℕ
mended_value (Ok w) = w.bytes
mended_value (Err r) = refusal_value r

-- the count of records; zero where refused
abbrev pub mended_records : Result Mended Refusal → ℕ
mended_records (Ok w) = w.records
mended_records (Err r) = 0

-- what they come to for a document, the number of an edition, an output of o bytes and m records: 2 and 1 as the check has
-- them; then 9 with the number named; then 2 with the limit, 4 with the bytes and 5 with the records; else 0 with the bytes and,
-- apart, the records
abbrev pub mend_refusal : List ℕ → ℕ → ℕ → ℕ → ℕ
mend_refusal doc edition o m =
    cond (ltb limit (length doc)) 2
    (cond (eqb (valid_prefix doc) (length doc))
    (cond (is_edition edition)
    (cond (ltb limit (length (mended edition doc))) 2
    (cond (ltb o (length (mended edition doc))) 4
    (cond (ltb m (length (listed edition doc))) 5 0)))
    9)
    1)

abbrev pub mend_returned : List ℕ → ℕ → ℕ → ℕ → ℕ
mend_returned doc edition o m =
    cond (ltb limit (length doc)) limit
    (cond (eqb (valid_prefix doc) (length doc))
    (cond (is_edition edition)
    (cond (ltb limit (length (mended edition doc))) limit
    (cond (ltb o (length (mended edition doc))) (length (mended edition doc))
    (cond (ltb m (length (listed edition doc))) (length (listed edition doc)) (length (mended edition doc)))))
    edition)
    (valid_prefix doc))

-- the count of records is told only where it is answered
abbrev pub mend_noted : List ℕ → ℕ → ℕ → ℕ → ℕ
mend_noted doc edition o m = cond (eqb (mend_refusal doc edition o m) 0) (length (listed edition doc)) 0
