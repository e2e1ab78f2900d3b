-- RULE. Two reviewers tick off the tokens of one document. Beside the token records lies a lent table of marks, a byte for
-- each record and perhaps more: bit 0 is reviewer 0's, bit 1 is reviewer 1's, and the other six are unused.
use Rattle.std.specs.Prelude.{ℕ, zero, suc, ◌+◌, ◌-◌, ◌*◌, ◌/◌, ◌%◌, ◌^◌, Result, Ok, Err, ⊤}
use mathlib.Core.{Bool.Bool, Bool.cond, List.List, List.[], List.◌∷◌}
use lib.{ListN.length, ListN.take, ListN.drop, Dec.ltb, Dec.leb, Dec.eqb}
use Rattle.text_classes.specs.{Runs.first_is}
use Rattle.text_refusals.specs.declared.{Refusal.Refusal, Refusal.TheVariants.OutOfPlace, Refusal.TheVariants.NoReviewer, Refusal.TheVariants.FewMarks}

-- bit k of a byte, 0 or 1, and whether it is set
unfoldable pub bit : ℕ → ℕ → ℕ
bit k b = b / 2 ^ k % 2

abbrev pub is_set : ℕ → ℕ → Bool
is_set k b = eqb (bit k b) 1

-- the byte whose bit k is d, and whose other bits are those of b: the worth of the old bit taken off, that of d put on
unfoldable pub put_bit : ℕ → ℕ → ℕ → ℕ
put_bit k d b = b - bit k b * 2 ^ k + d * 2 ^ k

-- the table with the byte of one token changed
abbrev pub changed : (ℕ → ℕ) → ℕ → List ℕ → List ℕ
changed f token [] = []
changed f zero (b ∷ marks) = f b ∷ marks
changed f (suc token) (b ∷ marks) = b ∷ changed f token marks

-- how many of some bytes have bit k set
unfoldable pub ticks_in : ℕ → List ℕ → ℕ
ticks_in k [] = 0
ticks_in k (b ∷ marks) = bit k b + ticks_in k marks

-- setting and clearing, for so many records and entries of the table: refusal 11 with the number given, for a reviewer other
-- than 0 or 1; then 6 for a token number not below the number of records; then 12 if the table is shorter than the records;
-- both with the number of records
unfoldable pub mark_answer : ℕ → ℕ → ℕ → ℕ → Result ⊤ Refusal
mark_answer records entries reviewer token =
    cond (ltb 1 reviewer) (Err (NoReviewer reviewer))
    (cond (leb records token) (Err (OutOfPlace records))
    (cond (ltb entries records) (Err (FewMarks records)) (Ok tt)))

-- the table afterwards: as it was where the call is refused, else with the reviewer's bit of the token set (1) or clear (0)
abbrev pub marks_by : Result ⊤ Refusal → (ℕ → ℕ) → ℕ → List ℕ → List ℕ
marks_by (Ok done) f token marks = changed f token marks
marks_by (Err r) f token marks = marks

abbrev pub marks_with : ℕ → ℕ → List ℕ → ℕ → ℕ → List ℕ
marks_with d records marks reviewer token =
    marks_by (mark_answer records (length marks) reviewer token) (put_bit reviewer d) token marks

unfoldable pub ticked_marks : ℕ → List ℕ → ℕ → ℕ → List ℕ
ticked_marks = marks_with 1

unfoldable pub unticked_marks : ℕ → List ℕ → ℕ → ℕ → List ℕ
unticked_marks = marks_with 0

-- asking: the same refusals, else whether the reviewer's bit of the token is set
abbrev pub read_by : Result ⊤ Refusal → ℕ → List ℕ → Result Bool Refusal
read_by (Ok done) reviewer marks = Ok (first_is (is_set reviewer) marks)
read_by (Err r) reviewer marks = Err r

unfoldable pub read_answer : ℕ → List ℕ → ℕ → ℕ → Result Bool Refusal
read_answer records marks reviewer token =
    read_by (mark_answer records (length marks) reviewer token) reviewer (drop token marks)

-- counting: refusal 11, then 12, each as above; else the bits set over the records
unfoldable pub count_answer : ℕ → List ℕ → ℕ → Result ℕ Refusal
count_answer records marks reviewer =
    cond (ltb 1 reviewer) (Err (NoReviewer reviewer))
    (cond (ltb (length marks) records) (Err (FewMarks records)) (Ok (ticks_in reviewer (take records marks))))
