-- FOLLOWS. The numbers in which `decode`'s answer is told, besides those of Told.antt of crate `text_refusals`: each follows from
-- the answer, and the promises of `decode` and `decode_in` say besides what they come to for the arguments. Proved by `decoded` in proofs/NumberLaws.antt.
-- Assumes nothing.
use Rattle.std.specs.Prelude.{ℕ, Result, Ok, Err}
use mathlib.Core.{Bool.cond, List.List}
use lib.{Dec.ltb, Dec.eqb, ListN.length}
use Rattle.text_refusals.specs.{Refusals.limit, Refusals.refusal_number, Refusals.refusal_value}
use Rattle.text_refusals.specs.declared.{Refusal.Refusal}
use Rattle.text_scalars.specs.{Utf8Read.valid_prefix}
use Rattle.decoder_rules.specs.{Encodings.choice_by, Decoding.bytes_of, Decoding.errors_of, Decoding.errors_by}
use Rattle.decoder_rules.specs.declared.{Encoding.Encoding, Decoded.Decoded}

-- the count of bytes, or the number returned
abbrev pub decoded_value : Result Decoded Refusal → ℕ
decoded_value (Ok d) = d.bytes
decoded_value (Err r) = refusal_value r

-- the count of errors; zero where refused
abbrev pub decoded_errors : Result Decoded Refusal → ℕ
decoded_errors (Ok d) = d.errors
decoded_errors (Err r) = 0

-- what they come to for a text, the numbers of an edition and a kind, and the lent sizes: 2 and 1 as the check has them, then
-- 7 and 9 as kind and edition have them, then 4 with the bytes and 5 with the errors, else 0 with the bytes and, apart, the
-- errors
abbrev pub chosen_refusal : Result Encoding Refusal → List ℕ → ℕ → ℕ → ℕ
chosen_refusal (Ok k) t o e = cond (ltb o (length (bytes_of k t))) 4 (cond (ltb e (length (errors_of k t))) 5 0)
chosen_refusal (Err r) t o e = refusal_number r

abbrev pub decode_refusal : List ℕ → ℕ → ℕ → ℕ → ℕ → ℕ
decode_refusal t edition kind o e =
    cond (ltb limit (length t)) 2
    (cond (eqb (valid_prefix t) (length t)) (chosen_refusal (choice_by edition kind) t o e) 1)

abbrev pub chosen_returned : Result Encoding Refusal → List ℕ → ℕ → ℕ → ℕ
chosen_returned (Ok k) t o e =
    cond (ltb o (length (bytes_of k t))) (length (bytes_of k t))
    (cond (ltb e (length (errors_of k t))) (length (errors_of k t)) (length (bytes_of k t)))
chosen_returned (Err r) t o e = refusal_value r

abbrev pub decode_returned : List ℕ → ℕ → ℕ → ℕ → ℕ → ℕ
decode_returned t edition kind o e =
    cond (ltb limit (length t)) limit
    (cond (eqb (valid_prefix t) (length t)) (chosen_returned (choice_by edition kind) t o e) (valid_prefix t))

-- the count of errors is told only where it is answered
abbrev pub decode_noted : List ℕ → ℕ → ℕ → ℕ → ℕ → ℕ
decode_noted t edition kind o e =
    cond (eqb (decode_refusal t edition kind o e) 0) (length (errors_by (choice_by edition kind) t)) 0
