-- The reply to a line: for the result of each call of the reader, and for each fault of a line, the form in which it is
-- written and the numbers that fill the form. The comments name the calls as a line does; tests/README.md lists them.
-- Assumes nothing.
use Rattle.std.specs.Prelude.{ℕ, ◌-◌, cond, List, [], ◌∷◌, ◌++◌, eqb, length, take, replicate, Result, Ok, Err, Option, Some, None, ⊤}
use Rattle.text_refusals.specs.declared.Refusal.{Refusal}
use Rattle.text_refusals.specs.Refusals.{refusal_number, refusal_value, refusal_length}
use Rattle.lexer_token.specs.declared.Token.{Token}
use Rattle.lexer_token.specs.Records.{record_of}
use Rattle.lexer.specs.Told.{bit_of}
use Rattle.lexer.specs.declared.Cursor.{Cursor}
use Rattle.lexer_place.specs.declared.Position.{Position}
use Rattle.decoder_rules.specs.declared.Decoded.{Decoded}
use Rattle.answers_asking.specs.declared.asked.LineFault.{LineFault}
use Rattle.answers_asking.specs.declared.asked.LineFault.TheVariants as fault
use Rattle.answers_spelling.specs.declared.Reply.{Reply}
use Rattle.answers_spelling.specs.declared.Form.{Form}
use Rattle.answers_spelling.specs.declared.Form.TheVariants as form

-- up to eight numbers, and zeros after them
abbrev pub filled_by : Form → List ℕ → Reply
filled_by f ns = record { form = f; numbers = take 8 ns ++ replicate (8 - length ns) 0 }

-- a refusal's number and the value returned with it, and zeros for the call's other results
abbrev pub refused_as : Form → Refusal → Reply
refused_as f r = filled_by f (refusal_number r ∷ refusal_value r ∷ [])

-- a refusal in the form that only refusals have: with refusal 1 also the length of the faulty sequence
abbrev pub refused_whole : Refusal → Reply
refused_whole r =
    cond (eqb (refusal_number r) 1) (filled_by form.Broken (1 ∷ refusal_value r ∷ refusal_length r ∷ [])) (refused_as form.Refused r)

-- lex: the tokens; lexline: the tokens with their lines; lexcap and writecap: 0 and a count
abbrev pub tokens_as : Result ℕ Refusal → Reply
tokens_as (Ok n) = filled_by form.Tokens (n ∷ [])
tokens_as (Err r) = refused_whole r

abbrev pub token_lines_as : Result ℕ Refusal → Reply
token_lines_as (Ok n) = filled_by form.TokenLines (n ∷ [])
token_lines_as (Err r) = refused_whole r

abbrev pub counted_as : Result ℕ Refusal → Reply
counted_as (Ok n) = filled_by form.Two (0 ∷ n ∷ [])
counted_as (Err r) = refused_as form.Two r

-- dec: the bytes and the errors; deccap: 0 and both counts
abbrev pub decoded_as : Result Decoded Refusal → Reply
decoded_as (Ok d) = filled_by form.Decoded (d.bytes ∷ d.errors ∷ [])
decoded_as (Err r) = refused_whole r

abbrev pub decoded_count_as : Result Decoded Refusal → Reply
decoded_count_as (Ok d) = filled_by form.Three (0 ∷ d.bytes ∷ d.errors ∷ [])
decoded_count_as (Err r) = refused_as form.Three r

-- utf8 and span: 0 and 0
abbrev pub checked_as : Result ⊤ Refusal → Reply
checked_as (Ok _) = filled_by form.Two (0 ∷ 0 ∷ [])
checked_as (Err r) = refused_as form.Two r

-- fault: the refusal's number, the value and the length
abbrev pub faulted_as : Result ⊤ Refusal → Reply
faulted_as (Ok _) = filled_by form.Three (0 ∷ 0 ∷ 0 ∷ [])
faulted_as (Err r) = filled_by form.Three (refusal_number r ∷ refusal_value r ∷ refusal_length r ∷ [])

-- start: the cursor; pos: line and column
abbrev pub started_as : Result Cursor Refusal → Reply
started_as (Ok c) = filled_by form.Four (0 ∷ 0 ∷ c.place ∷ bit_of c.ended ∷ [])
started_as (Err r) = refused_as form.Four r

abbrev pub positioned_as : Result Position Refusal → Reply
positioned_as (Ok p) = filled_by form.Four (0 ∷ 0 ∷ p.line ∷ p.column ∷ [])
positioned_as (Err r) = refused_as form.Four r

-- step: the token and the next cursor
abbrev pub next_as : Token → Cursor → Reply
next_as t c = filled_by form.Stepped (take 3 (record_of t) ++ (c.place ∷ bit_of c.ended ∷ []))

abbrev pub stepped_as : Result (Option (Token × Cursor)) Refusal → Reply
stepped_as (Ok (Some (t, c))) = next_as t c
stepped_as (Ok None) = filled_by form.Ended []
stepped_as (Err r) = refused_as form.NoStep r

-- stepline: the token and the next cursor with their lines
abbrev pub next_line_as : Token → Cursor → Reply
next_line_as t c = filled_by form.SteppedLine (record_of t ++ (c.place ∷ bit_of c.ended ∷ c.line ∷ []))

abbrev pub stepped_line_as : Result (Option (Token × Cursor)) Refusal → Reply
stepped_line_as (Ok (Some (t, c))) = next_line_as t c
stepped_line_as (Ok None) = filled_by form.Ended []
stepped_line_as (Err r) = refused_as form.NoStep r

-- text: the bytes
abbrev pub hex_as : ℕ → Reply
hex_as n = filled_by form.Hex (n ∷ [])

-- desc: the answer, the length, the bytes and the encoding
abbrev pub described_as : Result (ℕ × ℕ) Refusal → ℕ → Reply
described_as (Ok (len, e)) n = filled_by form.Described (0 ∷ 0 ∷ len ∷ n ∷ e ∷ [])
described_as (Err r) n = filled_by form.Described (refusal_number r ∷ refusal_value r ∷ 0 ∷ n ∷ [])

-- each fault has a form of its own; at the input's end nothing is written
abbrev pub fault_form : LineFault → Form
fault_form fault.TooLong = form.TooLong
fault_form fault.UnknownCall = form.UnknownCall
fault_form fault.WordCount = form.WordCount
fault_form fault.NotNumber = form.NotNumber
fault_form fault.NotHex = form.NotHex
fault_form fault.NotFlag = form.NotFlag
fault_form fault.TooMuch = form.TooMuch
fault_form fault.NoLine = form.Nothing

abbrev pub fault_as : LineFault → Reply
fault_as f = filled_by (fault_form f) []
