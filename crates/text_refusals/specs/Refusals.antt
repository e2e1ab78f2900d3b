-- RULE. The refusals and the numbers that go with them, in the order of their table.
use Rattle.std.specs.Prelude.{ℕ}
use Rattle.text_refusals.specs.declared.{Refusal.Refusal}
use Rattle.text_refusals.specs.declared.Refusal.TheVariants.{NotUtf8, TooLong, FewTokens, ShortOutput, FewErrors, OutOfPlace, NoKind, AfterEnd, NoEdition, TooDeep, NoReviewer, FewMarks, TotalFull}

-- the most bytes that a document or a text may have
abbrev pub limit : ℕ
limit = 16777216

-- the most brackets of a value that may be open at once
abbrev pub depth : ℕ
depth = 64

-- the greatest number of 64 bits
abbrev pub greatest : ℕ
greatest = 18446744073709551615

-- which refusal it is
abbrev pub refusal_number : Refusal → ℕ
refusal_number (NotUtf8 valid length) = 1
refusal_number TooLong = 2
refusal_number (FewTokens needed) = 3
refusal_number (ShortOutput needed) = 4
refusal_number (FewErrors needed) = 5
refusal_number (OutOfPlace length) = 6
refusal_number (NoKind number) = 7
refusal_number AfterEnd = 8
refusal_number (NoEdition number) = 9
refusal_number TooDeep = 10
refusal_number (NoReviewer number) = 11
refusal_number (FewMarks needed) = 12
refusal_number TotalFull = 13

-- the number returned with it
abbrev pub refusal_value : Refusal → ℕ
refusal_value (NotUtf8 valid length) = valid
refusal_value TooLong = limit
refusal_value (FewTokens needed) = needed
refusal_value (ShortOutput needed) = needed
refusal_value (FewErrors needed) = needed
refusal_value (OutOfPlace length) = length
refusal_value (NoKind number) = number
refusal_value AfterEnd = 0
refusal_value (NoEdition number) = number
refusal_value TooDeep = depth
refusal_value (NoReviewer number) = number
refusal_value (FewMarks needed) = needed
refusal_value TotalFull = greatest

-- the second number, which only 1 returns: the length of the faulty sequence
abbrev pub refusal_length : Refusal → ℕ
refusal_length (NotUtf8 valid length) = length
refusal_length TooLong = 0
refusal_length (FewTokens needed) = 0
refusal_length (ShortOutput needed) = 0
refusal_length (FewErrors needed) = 0
refusal_length (OutOfPlace length) = 0
refusal_length (NoKind number) = 0
refusal_length AfterEnd = 0
refusal_length (NoEdition number) = 0
refusal_length TooDeep = 0
refusal_length (NoReviewer number) = 0
refusal_length (FewMarks needed) = 0
refusal_length TotalFull = 0
