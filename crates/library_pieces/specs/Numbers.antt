-- FOLLOWS. A text that is opened and a step over its body, as the numbers that are exported: by `opened_of` and `body_step`, for
-- the kind and the edition that two numbers ask for. Where refused, all numbers but the answer's are zero.
use Rattle.std.specs.Prelude.{ℕ, Result, Ok, Err, Option, Some, None}
use mathlib.Core.{Bool.Bool, List.List}
use Rattle.lexer.specs.{Told.bit_of}
use Rattle.decoder_rules.specs.{Pieces.error_number}
use Rattle.text_refusals.specs.declared.{Refusal.Refusal}
use Rattle.decoder_rules.specs.declared.{Encoding.Encoding, Piece.Piece, Given.Given, Given.TheVariants.Copy, Given.TheVariants.Char, Given.TheVariants.Nothing, Wrong.Wrong}
use Rattle.decoder_pieces.specs.{Steps.body_step}
use Rattle.decoder_pieces.specs.declared.{body.Body.Body}
use Rattle.decoder_marks.specs.{Opening.opened_of}
use Rattle.decoder_marks.specs.declared.{Opened.Opened}
use Rattle.library_numbers.specs.{Numbers.answer_of, Numbers.refused_by}
use Rattle.library_numbers.specs.declared.{AnswerNumbers.AnswerNumbers, ErrorNumbers.ErrorNumbers}
use Rattle.library_pieces.specs.declared.{BodyNumbers.BodyNumbers, OpenNumbers.OpenNumbers, GivenNumbers.GivenNumbers, PieceNumbers.PieceNumbers}

-- an error, and none
abbrev pub no_error : ErrorNumbers
no_error = record { number = 0; start = 0; end = 0 }

abbrev pub error_numbers : Option Wrong → ErrorNumbers
error_numbers (Some w) = record { number = error_number w.error; start = w.start; end = w.end }
error_numbers None = no_error

-- a body of numbers, and the numbers of a body
abbrev pub body_of : ℕ → ℕ → Bool → Body
body_of at end dropping = record { at = at; end = end; dropping = dropping }

abbrev pub body_numbers : Body → BodyNumbers
body_numbers b = record { at = b.at; end = b.end; dropping = bit_of b.dropping }

abbrev pub no_body : BodyNumbers
no_body = record { at = 0; end = 0; dropping = 0 }

-- a text opened
abbrev pub opened_numbers : Opened → OpenNumbers
opened_numbers o =
    record {
      answer = answer_of 0;
      opening = error_numbers o.opening;
      closing = error_numbers o.closing;
      body = body_numbers o.body;
    }

abbrev pub unopened : AnswerNumbers → OpenNumbers
unopened answer = record { answer = answer; opening = no_error; closing = no_error; body = no_body }

abbrev pub open_numbers : Result Encoding Refusal → List ℕ → OpenNumbers
open_numbers (Ok e) text = opened_numbers (opened_of e text)
open_numbers (Err r) text = unopened (refused_by r)

-- what a piece gives: nothing, its own bytes, or a character
abbrev pub given_numbers : Given → GivenNumbers
given_numbers Nothing = record { given = 0; scalar = 0 }
given_numbers Copy = record { given = 1; scalar = 0 }
given_numbers (Char c) = record { given = 2; scalar = c }

abbrev pub no_piece : AnswerNumbers → PieceNumbers
no_piece answer =
    record { answer = answer; found = 0; take = 0; gives = record { given = 0; scalar = 0 }; error = no_error; body = no_body }

-- a step: a piece and the body after it, or the end
abbrev pub piece_numbers : Option (Piece × Body) → PieceNumbers
piece_numbers (Some (p, next)) =
    record {
      answer = answer_of 0;
      found = 1;
      take = p.take;
      gives = given_numbers p.given;
      error = error_numbers p.verdict;
      body = body_numbers next;
    }
piece_numbers None = no_piece (answer_of 0)

abbrev pub step_numbers : Result Encoding Refusal → List ℕ → Body → PieceNumbers
step_numbers (Ok e) text b = piece_numbers (body_step e text b)
step_numbers (Err r) text b = no_piece (refused_by r)
