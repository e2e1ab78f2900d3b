-- The replies to lines of the calls that requests added: the form in which each result is written and the numbers that fill
-- the form, as in answers_forms. The comments name the calls as a line does; tests/README.md lists them.
-- Assumes nothing.
use Rattle.std.specs.Prelude.{ℕ, Bool, [], ◌∷◌, ◌++◌, Result, Ok, Err, Option, Some, None, ⊤}
use Rattle.text_refusals.specs.declared.Refusal.{Refusal}
use Rattle.text_refusals.specs.Refusals.{refusal_number, refusal_value}
use Rattle.lexer_token.specs.Records.{record_of}
use Rattle.lexer_token.specs.declared.Token.{Token}
use Rattle.lexer.specs.Told.{bit_of}
use Rattle.built_broken.specs.declared.FirstError.{FirstError}
use Rattle.built_figures.specs.Figures.{most}
use Rattle.built_figures.specs.declared.NotAdded.{NotAdded}
use Rattle.built_figures.specs.declared.NotAdded.TheVariants.{TooLong, Refused as Unadded}
use Rattle.built_mending.specs.declared.Mended.{Mended}
use Rattle.answers_spelling.specs.declared.Reply.{Reply}
use Rattle.answers_spelling.specs.declared.Form.TheVariants as form
use Rattle.answers_forms.specs.Answers.{filled_by, refused_as, refused_whole}

-- write: the bytes of the text
abbrev pub wrote_as : Result ℕ Refusal → Reply
wrote_as (Ok b) = filled_by form.Hex (b ∷ [])
wrote_as (Err r) = refused_whole r

-- mend, mendin: the bytes of the result, and the records; mendcap: 0 and their counts
abbrev pub mended_as : Result Mended Refusal → Reply
mended_as (Ok m) = filled_by form.Mended (m.bytes ∷ m.records ∷ [])
mended_as (Err r) = refused_whole r

abbrev pub mended_count_as : Result Mended Refusal → Reply
mended_count_as (Ok m) = filled_by form.Three (0 ∷ m.bytes ∷ m.records ∷ [])
mended_count_as (Err r) = refused_as form.Three r

-- tick, untick: the answer's two numbers, and the table of marks afterwards, with so many entries
abbrev pub marked_as : Result ⊤ Refusal → ℕ → Reply
marked_as (Ok _) entries = filled_by form.Marked (0 ∷ 0 ∷ entries ∷ [])
marked_as (Err r) entries = filled_by form.Marked (refusal_number r ∷ refusal_value r ∷ entries ∷ [])

-- ticked: 1 for a token that is ticked, else 0; value, valuein: 1 for a run that is a value, else 0
abbrev pub flag_as : Result Bool Refusal → Reply
flag_as (Ok b) = filled_by form.Three (0 ∷ 0 ∷ bit_of b ∷ [])
flag_as (Err r) = refused_as form.Three r

-- ticks: the count
abbrev pub tick_count_as : Result ℕ Refusal → Reply
tick_count_as (Ok n) = filled_by form.Three (0 ∷ 0 ∷ n ∷ [])
tick_count_as (Err r) = refused_as form.Three r

-- broken, brokenin: the token with its line, and the error
abbrev pub broken_at : Token → FirstError → Reply
broken_at t e = filled_by form.FirstBroken (record_of t ++ (e.number ∷ e.start ∷ e.end ∷ []))

abbrev pub broken_as : Result (Option (Token × FirstError)) Refusal → Reply
broken_as (Ok (Some (t, e))) = broken_at t e
broken_as (Ok None) = filled_by form.Sound []
broken_as (Err r) = refused_whole r

-- tally, tallyon: the answer's two numbers, before the totals
abbrev pub tally_as : Result ⊤ NotAdded → Reply
tally_as (Ok _) = filled_by form.Tallied (0 ∷ 0 ∷ [])
tally_as (Err TooLong) = filled_by form.Tallied (2 ∷ most ∷ [])
tally_as (Err (Unadded r)) = refused_as form.Tallied r
