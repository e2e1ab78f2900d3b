-- RULE. What a text of a kind decodes to, its bytes and its errors; what the call answers, and what it leaves in the lent
-- memory.
use Rattle.std.specs.Prelude.{ℕ, Option, None, Result, Ok, Err, ⊤}
use mathlib.Core.{Bool.Bool, Bool.true, Bool.false, Bool.cond, List.List, List.[], List.◌++◌}
use lib.{Dec.ltb, ListN.length, ListN.drop}
use Rattle.text.specs.{CheckMeans.check_of}
use Rattle.text_refusals.specs.declared.{Refusal.Refusal, Refusal.TheVariants.ShortOutput, Refusal.TheVariants.FewErrors}
use Rattle.decoder_rules.specs.{Encodings.choice_by, Encodings.mark_error, Pieces.gives, Pieces.wrong, Pieces.notes_of, Pieces.notes_at, Pieces.collect, Bodies.piece_of, Marks.ends_of, Marks.body_of}
use Rattle.decoder_rules.specs.declared.{Encoding.Encoding, DecodeError.DecodeError, Wrong.Wrong, Decoded.Decoded}

-- the decoded bytes: what the pieces of the body give, joined
unfoldable pub bytes_of : Encoding → List ℕ → List ℕ
bytes_of e t = collect (piece_of e) gives 0 false (ends_of e t).start (body_of (ends_of e t) t)

-- a mark that is missing is an error at its place
abbrev pub missing : Bool → DecodeError → ℕ → Option Wrong
missing true error place = None
missing false error place = wrong error place place

-- the errors, in order: the opening mark's at 0, the closing mark's at the text's end, the body's from left to right
unfoldable pub errors_of : Encoding → List ℕ → List (List ℕ)
errors_of e t =
    notes_of (missing (ends_of e t).opened (mark_error e) 0)
    ++ (notes_of (missing (ends_of e t).closed (mark_error e) (length t))
    ++ collect (piece_of e) notes_at 0 false (ends_of e t).start (body_of (ends_of e t) t))

-- an answer: so many bytes and error records were written
abbrev pub written : ℕ → ℕ → Result Decoded Refusal
written bytes errors = Ok (record { bytes = bytes; errors = errors })

-- bytes and errors for an output of o bytes and e error records: refusal 4 before 5
unfoldable pub fitted : List ℕ → List (List ℕ) → ℕ → ℕ → Result Decoded Refusal
fitted bytes errors o e =
    cond (ltb o (length bytes)) (Err (ShortOutput (length bytes)))
    (cond (ltb e (length errors)) (Err (FewErrors (length errors)))
    (written (length bytes) (length errors)))

-- what a kind number makes of a text: nothing where it is refused
abbrev pub bytes_by : Result Encoding Refusal → List ℕ → List ℕ
bytes_by (Ok e) t = bytes_of e t
bytes_by (Err r) t = []

abbrev pub errors_by : Result Encoding Refusal → List ℕ → List (List ℕ)
errors_by (Ok e) t = errors_of e t
errors_by (Err r) t = []

-- refusals 2 and 1 are the check's, then come 7 and 9
abbrev pub decoded_by : Result ⊤ Refusal → Result Encoding Refusal → List ℕ → ℕ → ℕ → Result Decoded Refusal
decoded_by (Err r) choice t o e = Err r
decoded_by (Ok u) (Err r) t o e = Err r
decoded_by (Ok u) (Ok k) t o e = fitted (bytes_of k t) (errors_of k t) o e

-- the answer for a text, the numbers of an edition and a kind, an output of o bytes and e error records
unfoldable pub decode_in : List ℕ → ℕ → ℕ → ℕ → ℕ → Result Decoded Refusal
decode_in t edition kind o e = decoded_by (check_of t) (choice_by edition kind) t o e

-- lent memory that held `old` after that answer: what was to be written, from the front, and the rest untouched; all of
-- it untouched where the call refused
abbrev pub after : {A : Type 0} → Result Decoded Refusal → List A → List A → List A
after (Ok d) new old = new ++ drop (length new) old
after (Err r) new old = old
