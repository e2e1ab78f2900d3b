-- FOLLOWS. The answer of the UTF-8 check in numbers, by the bytes. The promise of `check_utf8` says that they are those of the
-- answer, which Told.antt of crate `text_refusals` reads off it; `told` in proofs/AnswerLaws.antt proves it.
-- Assumes nothing.
use Rattle.std.specs.Prelude.{ℕ}
use mathlib.Core.{Bool.cond, List.List}
use lib.{ListN.length, ListN.drop, Dec.ltb, Dec.eqb}
use Rattle.text_refusals.specs.{Refusals.limit}
use Rattle.text_scalars.specs.{Utf8Read.valid_prefix}
use Rattle.text_characters.specs.{Lead.fault_len}

-- by the bytes s: 2 with the limit, 1 with the lengths of the longest valid prefix and of the faulty sequence, else 0
abbrev pub check_refusal : List ℕ → ℕ
check_refusal s = cond (ltb limit (length s)) 2 (cond (eqb (valid_prefix s) (length s)) 0 1)

abbrev pub check_returned : List ℕ → ℕ
check_returned s = cond (ltb limit (length s)) limit (cond (eqb (valid_prefix s) (length s)) 0 (valid_prefix s))

abbrev pub check_fault : List ℕ → ℕ
check_fault s =
    cond (ltb limit (length s)) 0 (cond (eqb (valid_prefix s) (length s)) 0 (fault_len (drop (valid_prefix s) s)))
