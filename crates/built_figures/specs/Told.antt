-- FOLLOWS. The numbers in which the answer of `tally` is told: each follows from the answer, and its promise says besides what
-- they come to for the arguments. Proved by `numbers` in proofs/NumberLaws.antt.
-- Assumes nothing.
use Rattle.std.specs.Prelude.{ℕ, Result, Ok, Err, ⊤}
use mathlib.Core.{Bool.Bool, Bool.cond, List.List}
use lib.{Dec.ltb, Dec.eqb, ListN.length, ListN.drop}
use Rattle.text_refusals.specs.{Refusals.greatest, Refusals.refusal_number, Refusals.refusal_value, Refusals.refusal_length}
use Rattle.text_scalars.specs.{Utf8Read.valid_prefix}
use Rattle.text_characters.specs.{Lead.fault_len}
use Rattle.built_figures.specs.{Figures.most, Figures.figures_of, Figures.added, Figures.all_fit}
use Rattle.built_figures.specs.declared.{NotAdded.NotAdded, NotAdded.TheVariants.TooLong, NotAdded.TheVariants.Refused}

-- which answer it is: 0 where the document was added, else the refusal's number
abbrev pub tally_number : Result ⊤ NotAdded → ℕ
tally_number (Ok done) = 0
tally_number (Err TooLong) = 2
tally_number (Err (Refused r)) = refusal_number r

-- the number returned: with 2 it is the most bytes that are taken here, and not the limit
abbrev pub tally_value : Result ⊤ NotAdded → ℕ
tally_value (Ok done) = 0
tally_value (Err TooLong) = most
tally_value (Err (Refused r)) = refusal_value r

-- the second number returned with refusal 1, the length of the faulty sequence; else zero
abbrev pub tally_length : Result ⊤ NotAdded → ℕ
tally_length (Ok done) = 0
tally_length (Err TooLong) = 0
tally_length (Err (Refused r)) = refusal_length r

-- what they come to for a document and totals: 13 where a sum does not fit, then 2, then 1, else 0
abbrev sums_fit : List ℕ → List ℕ → Bool
sums_fit doc totals = all_fit (added totals (figures_of doc))

abbrev pub tally_refusal : List ℕ → List ℕ → ℕ
tally_refusal doc totals =
    cond (sums_fit doc totals) (cond (ltb most (length doc)) 2 (cond (eqb (valid_prefix doc) (length doc)) 0 1)) 13

abbrev pub tally_returned : List ℕ → List ℕ → ℕ
tally_returned doc totals =
    cond (sums_fit doc totals) (cond (ltb most (length doc)) most (cond (eqb (valid_prefix doc) (length doc)) 0 (valid_prefix doc)))
    greatest

abbrev pub tally_fault : List ℕ → List ℕ → ℕ
tally_fault doc totals =
    cond (sums_fit doc totals)
    (cond (ltb most (length doc)) 0 (cond (eqb (valid_prefix doc) (length doc)) 0 (fault_len (drop (valid_prefix doc) doc)))) 0
