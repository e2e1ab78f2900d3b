-- FOLLOWS. An answer in numbers: the refusal's number, 0 for none; the value returned; and the length, which only refusal 1
-- returns.
-- Assumes nothing.
use Rattle.std.specs.Prelude.{ℕ, Bool, true, false, Result, Ok, Err}
use Rattle.text_refusals.specs.{Refusals.refusal_number, Refusals.refusal_value, Refusals.refusal_length}
use Rattle.text_refusals.specs.declared.{Refusal.Refusal}

-- which refusal it is; 0 where the call answered
abbrev pub told_number : {A : Type 0} → Result A Refusal → ℕ
told_number (Ok a) = 0
told_number (Err r) = refusal_number r

-- the number returned with the refusal, else 0
abbrev pub told_value : {A : Type 0} → Result A Refusal → ℕ
told_value (Ok a) = 0
told_value (Err r) = refusal_value r

-- the length of the faulty sequence
abbrev pub told_length : {A : Type 0} → Result A Refusal → ℕ
told_length (Ok a) = 0
told_length (Err r) = refusal_length r

-- the value where the call answers a number
abbrev pub told_count : Result ℕ Refusal → ℕ
told_count (Ok n) = n
told_count (Err r) = refusal_value r

-- and where it answers yes or no: 1 for yes
abbrev pub told_flag : Result Bool Refusal → ℕ
told_flag (Ok true) = 1
told_flag (Ok false) = 0
told_flag (Err r) = refusal_value r
