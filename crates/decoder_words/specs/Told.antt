-- FOLLOWS. The numbers in which the answers of this crate are told: each follows from the answer, and promises say besides
-- what they come to for the numbers of an error and an edition. Proved where the promises of `error_of` and `error_words` are.
-- Assumes nothing.
use Rattle.std.specs.Prelude.{ℕ, is_ok}
use mathlib.Core.{Bool.cond}
use lib.{Dec.eqb}
use Rattle.decoder_words.specs.{ErrorNumbers.error_of_number}

-- what they come to for a number n: 7 with n itself where it is no error's, else 0
abbrev pub error_refusal : ℕ → ℕ
error_refusal n = cond (is_ok (error_of_number n)) 0 7

abbrev pub error_returned : ℕ → ℕ
error_returned n = cond (is_ok (error_of_number n)) 0 n

-- and for the number of an edition besides: then 9 with that number where it is neither 10 nor 11
abbrev pub edition_refusal : ℕ → ℕ
edition_refusal edition = cond (eqb edition 10) 0 (cond (eqb edition 11) 0 9)

abbrev pub edition_returned : ℕ → ℕ
edition_returned edition = cond (eqb edition 10) 0 (cond (eqb edition 11) 0 edition)

abbrev pub words_refusal : ℕ → ℕ → ℕ
words_refusal n edition = cond (is_ok (error_of_number n)) (edition_refusal edition) 7

abbrev pub words_returned : ℕ → ℕ → ℕ
words_returned n edition = cond (is_ok (error_of_number n)) (edition_returned edition) n
