-- The exported numbers are the numbers of the answers as Told.antt of crate `text_refusals`, and of each crate, defines them: each field is
-- the one of its name.
use Rattle.std.specs.Prelude.{ℕ, Bool, true, false, List, Result, Ok, Err, Option, Some, None, ⊤}
use mathlib.Core.Path.{◌≡◌, refl}
use Rattle.text_refusals.specs.Told.{told_number, told_value, told_length, told_count, told_flag}
use Rattle.text_refusals.specs.declared.Refusal.{Refusal}
use Rattle.lexer_token.specs.declared.Token.{Token}
use Rattle.lexer.specs.Steps.{start_cursor}
use Rattle.lexer.specs.declared.Cursor.{Cursor}
use Rattle.lexer_place.specs.Told.{position_line}
use Rattle.lexer_place.specs.declared.Position.{Position}
use Rattle.decoder_rules.specs.Told.{decoded_value, decoded_errors}
use Rattle.decoder_rules.specs.declared.Decoded.{Decoded}
use Rattle.decoder_words.specs.Words.{Spoken, Worded}
use Rattle.library_numbers.specs.Numbers.{count_numbers, done_numbers, flag_numbers, cursor_numbers, start_numbers, step_numbers, position_numbers, decode_numbers}
use Rattle.library_numbers.specs.Numbers.{described_numbers, encoded_numbers, words_of, words_numbers, answer_of}
use Rattle.library_numbers.specs.declared.AnswerNumbers.{AnswerNumbers}

-- of a call that answers with nothing, with a count, and with a flag
pub done_told : (r : Result ⊤ Refusal) → done_numbers r ≡ record { refusal = told_number r; value = told_value r; length = told_length r }
done_told (Ok done) = refl
done_told (Err r) = refl

pub count_told : (r : Result ℕ Refusal) → count_numbers r ≡ record { refusal = told_number r; value = told_count r; length = told_length r }
count_told (Ok n) = refl
count_told (Err r) = refl

pub flag_told : (r : Result Bool Refusal) → flag_numbers r ≡ record { refusal = told_number r; value = told_flag r; length = told_length r }
flag_told (Ok true) = refl
flag_told (Ok false) = refl
flag_told (Err r) = refl

-- the answer of a call that has results of its own
abbrev pub ToldBy : {A : Type 0} → Result A Refusal → AnswerNumbers → Type 0
ToldBy r answer = answer ≡ record { refusal = told_number r; value = told_value r; length = told_length r }

pub start_told : (r : Result Cursor Refusal)
    → ToldBy r (start_numbers r).answer × ((start_numbers r).cursor ≡ cursor_numbers (start_cursor r))
start_told (Ok c) = (refl, refl)
start_told (Err r) = (refl, refl)

pub step_told : (r : Result (Option (Token × Cursor)) Refusal) → ToldBy r (step_numbers r).answer
step_told (Ok (Some (t, c))) = refl
step_told (Ok None) = refl
step_told (Err r) = refl

pub position_told : (r : Result Position Refusal)
    → ToldBy r (position_numbers r).answer × ((position_numbers r).line ≡ position_line r)
position_told (Ok p) = (refl, refl)
position_told (Err r) = (refl, refl)

pub decode_told : (r : Result Decoded Refusal)
    → decode_numbers r
    ≡ record {
      answer = record { refusal = told_number r; value = decoded_value r; length = told_length r };
      errors = decoded_errors r;
    }
decode_told (Ok d) = refl
decode_told (Err r) = refl

pub described_told : (r : Result (List ℕ) Refusal) → ToldBy r (described_numbers r).answer
described_told (Ok text) = refl
described_told (Err r) = refl

pub encoded_told : (r : Result ℕ Refusal) → ToldBy r (encoded_numbers r).answer
encoded_told (Ok n) = refl
encoded_told (Err r) = refl

pub said_told : (n : ℕ) (p : Option Spoken) → (words_of n p).answer ≡ answer_of 0
said_told n (Some p) = refl
said_told n None = refl

pub words_told : (r : Result Worded Refusal) → ToldBy r (words_numbers r).answer
words_told (Ok w) = said_told w.expected w.phrase
words_told (Err r) = refl
