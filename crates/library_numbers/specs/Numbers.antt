-- FOLLOWS. Each call's answer as the numbers that are exported: the refusal's number, 0 where answered; the value returned;
-- with refusal 1 the length of the faulty sequence; and the call's own results, zero where refused. That each field is the
-- number of that name of the answer is proved in proofs/ToldLaws.antt.
use Rattle.std.specs.Prelude.{ℕ, ◌-◌, Result, Ok, Err, Option, Some, None, ⊤}
use Rattle.std.specs.Borrow.{Bor}
use mathlib.Core.{Bool.Bool, Bool.false, Bool.not, List.List, List.[], List.◌++◌}
use lib.{Dec.eqb, ListN.length, ListN.take, ListN.drop, ListN.replicate}
use Rattle.text_refusals.specs.{Refusals.refusal_number, Refusals.refusal_value, Refusals.refusal_length}
use Rattle.text_refusals.specs.declared.{Refusal.Refusal}
use Rattle.lexer_token.specs.{KindNumbers.kind_number}
use Rattle.lexer_token.specs.declared.{Token.Token}
use Rattle.lexer.specs.{Steps.cursor_of, Told.bit_of}
use Rattle.lexer.specs.declared.{Cursor.Cursor}
use Rattle.lexer_place.specs.declared.{Position.Position}
use Rattle.decoder_rules.specs.{Encodings.choice_by, Decoding.decode_in, Decoding.bytes_by, Decoding.errors_by, Decoding.after}
use Rattle.decoder_rules.specs.declared.{Decoded.Decoded}
use Rattle.decoder_words.specs.Words.{Spoken, Worded}
use Rattle.decoder_words.specs.declared.{Said.Said, Said.TheVariants.Message, Said.TheVariants.Literal, Said.TheVariants.Description as Wanted}
use Rattle.library_numbers.specs.declared.{AnswerNumbers.AnswerNumbers, CursorNumbers.CursorNumbers, StartNumbers.StartNumbers, TokenNumbers.TokenNumbers, StepNumbers.StepNumbers, PartNumbers.PartNumbers, PositionNumbers.PositionNumbers, DecodeNumbers.DecodeNumbers, DescribedNumbers.DescribedNumbers, EncodedNumbers.EncodedNumbers, WordsNumbers.WordsNumbers}

-- a flag in an answer is 0 or 1 (`bit_of`); as an argument, anything but 0 means true
abbrev pub flag : ℕ → Bool
flag n = not (eqb n 0)

-- an answer, with its value
abbrev pub answer_of : ℕ → AnswerNumbers
answer_of value = record { refusal = 0; value = value; length = 0 }

-- a refusal, with its number, its value and its length
abbrev pub refused_by : Refusal → AnswerNumbers
refused_by r = record { refusal = refusal_number r; value = refusal_value r; length = refusal_length r }

-- an answer whose value is told as one number, or a refusal
abbrev pub answer_numbers : {A : Type 0} → (A → ℕ) → Result A Refusal → AnswerNumbers
answer_numbers value (Ok a) = answer_of (value a)
answer_numbers value (Err r) = refused_by r

-- of a call that answers with a count, with nothing, and with a flag
abbrev pub count_numbers : Result ℕ Refusal → AnswerNumbers
count_numbers = answer_numbers (λ n. n)

abbrev pub done_numbers : Result ⊤ Refusal → AnswerNumbers
done_numbers = answer_numbers (λ _. 0)

abbrev pub flag_numbers : Result Bool Refusal → AnswerNumbers
flag_numbers = answer_numbers bit_of

-- start
abbrev pub cursor_numbers : Cursor → CursorNumbers
cursor_numbers c = record { place = c.place; ended = bit_of c.ended; line = c.line }

abbrev pub start_numbers : Result Cursor Refusal → StartNumbers
start_numbers (Ok c) = record { answer = answer_of 0; cursor = cursor_numbers c }
start_numbers (Err r) = record { answer = refused_by r; cursor = cursor_numbers (cursor_of 0 0 false) }

-- a token
abbrev pub token_numbers : Token → TokenNumbers
token_numbers t = record { kind = kind_number t.kind; start = t.span.start; end = t.span.end; line = t.line }

-- a step: `found` is 1 with a token; without one it and all fields after it are 0
abbrev pub no_token : AnswerNumbers → StepNumbers
no_token answer =
    record {
      answer = answer;
      found = 0;
      token = record { kind = 0; start = 0; end = 0; line = 0 };
      cursor = cursor_numbers (cursor_of 0 0 false);
    }

abbrev pub step_numbers : Result (Option (Token × Cursor)) Refusal → StepNumbers
step_numbers (Ok (Some (t, c))) = record { answer = answer_of 0; found = 1; token = token_numbers t; cursor = cursor_numbers c }
step_numbers (Ok None) = no_token (answer_of 0)
step_numbers (Err r) = no_token (refused_by r)

-- the text of a span, by its start and length: 0 and 0 where the check refuses it
abbrev pub part_from : ℕ → ℕ → PartNumbers
part_from start end = record { start = start; length = end - start }

abbrev pub part_of : Result ⊤ Refusal → ℕ → ℕ → PartNumbers
part_of (Ok _) start end = part_from start end
part_of (Err r) start end = record { start = 0; length = 0 }

-- the bytes of a part
abbrev pub part_text : List ℕ → PartNumbers → List ℕ
part_text doc p = take p.length (drop p.start doc)

-- line and column
abbrev pub position_numbers : Result Position Refusal → PositionNumbers
position_numbers (Ok p) = record { answer = answer_of 0; line = p.line; column = p.column }
position_numbers (Err r) = record { answer = refused_by r; line = 0; column = 0 }

-- decode: the value is the count of bytes, beside it the count of errors
abbrev pub decode_numbers : Result Decoded Refusal → DecodeNumbers
decode_numbers (Ok d) = record { answer = answer_of d.bytes; errors = d.errors }
decode_numbers (Err r) = record { answer = refused_by r; errors = 0 }

-- `text` decoded as `edition` and `kind`, into lent memory that held `output` and `errors`: the answer, and what each of the
-- two holds afterwards
abbrev pub decode_answer : List ℕ → ℕ → ℕ → List ℕ → List (List ℕ) → DecodeNumbers
decode_answer text edition kind output errors = decode_numbers (decode_in text edition kind (length output) (length errors))

abbrev pub output_after : List ℕ → ℕ → ℕ → List ℕ → List (List ℕ) → List ℕ
output_after text edition kind output errors =
    after (decode_in text edition kind (length output) (length errors)) (bytes_by (choice_by edition kind) text) output

abbrev pub errors_after : List ℕ → ℕ → ℕ → List ℕ → List (List ℕ) → List (List ℕ)
errors_after text edition kind output errors =
    after (decode_in text edition kind (length output) (length errors)) (errors_by (choice_by edition kind) text) errors

-- a text at the front of an array of n bytes, zeros after it
abbrev pub padded : ℕ → List ℕ → List ℕ
padded n text = take n text ++ replicate (n - length text) 0

-- an answer whose text is a reference, by the text's bytes
abbrev pub text_by : Result (Bor (List ℕ)) Refusal → Result (List ℕ) Refusal
text_by (Ok text) = Ok text.now
text_by (Err r) = Err r

-- description and encoding of a kind: no description is longer than 25 bytes
abbrev pub described_numbers : Result (List ℕ) Refusal → DescribedNumbers
described_numbers (Ok text) = record { answer = answer_of 0; length = length text; bytes = padded 25 text }
described_numbers (Err r) = record { answer = refused_by r; length = 0; bytes = replicate 25 0 }

abbrev pub encoded_numbers : Result ℕ Refusal → EncodedNumbers
encoded_numbers (Ok n) = record { answer = answer_of 0; encoding = n }
encoded_numbers (Err r) = record { answer = refused_by r; encoding = 0 }

-- a text of an error: what it is, as a number
abbrev pub said_number : Said → ℕ
said_number Message = 1
said_number Literal = 2
said_number Wanted = 3

-- without a text, all of it is zero
abbrev pub no_text : AnswerNumbers → ℕ → WordsNumbers
no_text answer expected = record { answer = answer; expected = expected; said = 0; length = 0; bytes = replicate 43 0 }

-- no text of an error is longer than 43 bytes
abbrev pub words_of : ℕ → Option Spoken → WordsNumbers
words_of expected (Some p) =
    record {
      answer = answer_of 0;
      expected = expected;
      said = said_number p.said;
      length = length p.text;
      bytes = padded 43 p.text;
    }
words_of expected None = no_text (answer_of 0) expected

abbrev pub words_numbers : Result Worded Refusal → WordsNumbers
words_numbers (Ok w) = words_of w.expected w.phrase
words_numbers (Err r) = no_text (refused_by r) 0
