-- STATEMENT. What is said of an answered `decode`, besides its answer, proved as `decode_answered` in
-- proofs/AnswerLaws.antt. Not to be believed.
-- Assumes nothing.
use Rattle.std.specs.Prelude.{ℕ, ◌+◌, ◌*◌, ◌≤◌, Ok}
use mathlib.Core.{Path.◌≡◌, List.List}
use lib.{ListN.length}
use Rattle.text_refusals.specs.{Refusals.limit}
use Rattle.text_scalars.specs.{Utf8.Utf8}
use Rattle.decoder_rules.specs.{Encodings.choice_by, Decoding.bytes_of, Decoding.errors_of}
use Rattle.decoder_rules.specs.declared.{Encoding.Encoding}

-- n bytes and m errors were written, to o bytes of output and e error records
pub record Answered (t : List ℕ) (edition kind o e n m : ℕ) : Type 0 where
  -- the text passed the check
  pub check : (length t ≤ limit) × Utf8 t
  -- kind and edition ask for a decoder, and both counts are its
  pub encoding : Encoding
  pub chosen : choice_by edition kind ≡ Ok encoding
  pub bytes : n ≡ length (bytes_of encoding t)
  pub errors : m ≡ length (errors_of encoding t)
  -- and there was room
  pub room : (n ≤ o) × (m ≤ e)
  -- the bytes are UTF-8: at most the text's length where there is no error, and twice them at most three times it always
  pub utf8 : Utf8 (bytes_of encoding t)
  pub most : 2 * n ≤ 3 * length t
  pub quiet : m ≡ 0 → n ≤ length t
  -- the errors are at most its length plus two
  pub few : m ≤ length t + 2
