-- FOLLOWS. The answers of the calls that requests added, as the numbers that are exported: by the cases of each, as in
-- library_numbers. That each field is the number of that name of the answer is proved in proofs/ToldLaws.antt.
use Rattle.std.specs.Prelude.{ℕ, Result, Ok, Err, Option, Some, None, ⊤}
use mathlib.Core.{Path.◌≡◌, Bool.Bool, List.List}
use lib.{ListN.length}
use Rattle.text_refusals.specs.declared.{Refusal.Refusal}
use Rattle.lexer_token.specs.declared.{Token.Token}
use Rattle.built_broken.specs.declared.{FirstError.FirstError}
use Rattle.built_writing.specs.{Writing.written, Writing.write_answer, Writing.written_after}
use Rattle.built_figures.specs.{Figures.most}
use Rattle.built_figures.specs.declared.{NotAdded.NotAdded, NotAdded.TheVariants.TooLong, NotAdded.TheVariants.Refused as Unadded, Tallied.Tallied}
use Rattle.built_mending.specs.{Mending.mended, Mending.listed, Mending.mend_in, Mending.mended_after}
use Rattle.built_mending.specs.declared.{Mended.Mended}
use Rattle.built_values.specs.Answers.{ValueAnswer}
use Rattle.library_numbers.specs.{Numbers.answer_of, Numbers.refused_by, Numbers.flag_numbers, Numbers.token_numbers}
use Rattle.library_numbers.specs.declared.{AnswerNumbers.AnswerNumbers}
use Rattle.library_built.specs.declared.{BrokenNumbers.BrokenNumbers, TallyNumbers.TallyNumbers, MendNumbers.MendNumbers}

-- writing a value: what an output holds afterwards that held `output`
abbrev pub written_bytes : List ℕ → List ℕ → List ℕ
written_bytes value output = written_after (write_answer value (length output)) (written value) output

-- putting broken strings right: the value is the count of bytes, beside it the count of records
abbrev pub mend_numbers : Result Mended Refusal → MendNumbers
mend_numbers (Ok m) = record { answer = answer_of m.bytes; records = m.records }
mend_numbers (Err r) = record { answer = refused_by r; records = 0 }

-- a document put right as `edition`, into lent memory that held `output` and `records`: the answer, and what each of the two
-- holds afterwards
abbrev pub mend_answer : List ℕ → ℕ → List ℕ → List (List ℕ) → MendNumbers
mend_answer doc edition output records = mend_numbers (mend_in doc edition (length output) (length records))

abbrev pub mended_bytes : List ℕ → ℕ → List ℕ → List (List ℕ) → List ℕ
mended_bytes doc edition output records = mended_after (mend_in doc edition (length output) (length records)) (mended edition doc) output

abbrev pub mended_list : List ℕ → ℕ → List ℕ → List (List ℕ) → List (List ℕ)
mended_list doc edition output records = mended_after (mend_in doc edition (length output) (length records)) (listed edition doc) records

-- whether a run is a value: the value of the answer is 1 for one that is. Of the answer the rule says when it is given, and so
-- `ValueTold` says of the numbers that they are those of an answer that is given
abbrev pub ValueTold : List (List ℕ) → ℕ → ℕ → ℕ → AnswerNumbers → Type 0
ValueTold records edition start end numbers =
    (answer : Result Bool Refusal) × ValueAnswer records edition start end answer × (numbers ≡ flag_numbers answer)

-- the first broken string: `found` is 1 with a token and its error; without one it and all fields after it are 0
abbrev pub unbroken_by : AnswerNumbers → BrokenNumbers
unbroken_by answer =
    record {
      answer = answer;
      found = 0;
      token = record { kind = 0; start = 0; end = 0; line = 0 };
      error = record { number = 0; start = 0; end = 0 };
    }

abbrev pub broken_numbers : Result (Option (Token × FirstError)) Refusal → BrokenNumbers
broken_numbers (Ok (Some (t, e))) =
    record {
      answer = answer_of 0;
      found = 1;
      token = token_numbers t;
      error = record { number = e.number; start = e.start; end = e.end };
    }
broken_numbers (Ok None) = unbroken_by (answer_of 0)
broken_numbers (Err r) = unbroken_by (refused_by r)

-- figures: refusal 2 returns the most bytes that are taken there, and not the limit; the totals afterwards
abbrev pub adding_numbers : Result ⊤ NotAdded → AnswerNumbers
adding_numbers (Ok _) = answer_of 0
adding_numbers (Err TooLong) = record { refusal = 2; value = most; length = 0 }
adding_numbers (Err (Unadded r)) = refused_by r

abbrev pub tally_numbers : Tallied → TallyNumbers
tally_numbers t = record { answer = adding_numbers t.answer; totals = t.totals }
