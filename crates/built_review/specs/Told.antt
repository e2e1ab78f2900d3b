-- FOLLOWS. What the numbers in which the answers on marks are told come to for the arguments. Proved by `marked`, `asked` and
-- `counted` in proofs/NumberLaws.antt.
-- Assumes nothing.
use Rattle.std.specs.Prelude.{ℕ}
use mathlib.Core.{Bool.cond, List.List}
use lib.{ListN.length, ListN.take, ListN.drop, Dec.ltb, Dec.leb}
use Rattle.text_classes.specs.{Runs.first_is}
use Rattle.built_review.specs.{Review.is_set, Review.ticks_in}

-- ---- setting and clearing

-- for the numbers of records and entries, a reviewer and a token: 11 with the reviewer's number, 6 and 12 with the number of
-- records, else 0
abbrev pub mark_refusal : ℕ → ℕ → ℕ → ℕ → ℕ
mark_refusal records entries reviewer token =
    cond (ltb 1 reviewer) 11 (cond (leb records token) 6 (cond (ltb entries records) 12 0))

-- the number returned, where the call is answered with n
abbrev pub returned_or : ℕ → ℕ → ℕ → ℕ → ℕ → ℕ
returned_or n records entries reviewer token =
    cond (ltb 1 reviewer) reviewer (cond (leb records token) records (cond (ltb entries records) records n))

abbrev pub mark_returned : ℕ → ℕ → ℕ → ℕ → ℕ
mark_returned = returned_or 0

-- ---- asking: its number is that of setting and clearing

-- 1 for a token that is ticked
abbrev pub read_returned : ℕ → List ℕ → ℕ → ℕ → ℕ
read_returned records marks reviewer token =
    returned_or (cond (first_is (is_set reviewer) (drop token marks)) 1 0) records (length marks) reviewer token

-- ---- counting

abbrev pub count_refusal : ℕ → ℕ → ℕ → ℕ
count_refusal records entries reviewer = cond (ltb 1 reviewer) 11 (cond (ltb entries records) 12 0)

abbrev pub count_returned : ℕ → List ℕ → ℕ → ℕ
count_returned records marks reviewer =
    cond (ltb 1 reviewer) reviewer (cond (ltb (length marks) records) records (ticks_in reviewer (take records marks)))
