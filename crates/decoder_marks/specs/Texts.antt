-- STATEMENT. A text that is opened and read to the end gives the bytes and the errors that the rules say: those of `bytes_of`
-- and `errors_of`, which `decode` writes. Proved as `text_read` in proofs/OpenLaws.antt. Not to be believed.
-- Assumes nothing.
use Rattle.std.specs.Prelude.{ℕ, ◌≤◌, ◌≡◌, List, ◌++◌, length}
use Rattle.decoder_rules.specs.declared.Encoding.{Encoding}
use Rattle.decoder_rules.specs.Pieces.{notes_of}
use Rattle.decoder_rules.specs.Decoding.{bytes_of, errors_of}
use Rattle.decoder_pieces.specs.Walks.{Walk, Walked}
use Rattle.decoder_marks.specs.Opening.{opened_of}

-- a walk over the text's body: its bytes are the text's; the marks' errors and then its own are the text's; and it has no more
-- pieces than the text has bytes
pub record Said (e : Encoding) (t bytes : List ℕ) (errors : List (List ℕ)) (count : ℕ) : Type 0 where
  pub bytes_are : bytes ≡ bytes_of e t
  pub errors_are : notes_of (opened_of e t).opening ++ (notes_of (opened_of e t).closing ++ errors) ≡ errors_of e t
  pub few : count ≤ length t

-- there is such a walk, and each says that
pub record TextRead (e : Encoding) (t : List ℕ) : Type 0 where
  pub walked : Walked e t (opened_of e t).body
  pub said : (bytes : List ℕ) (errors : List (List ℕ)) (count : ℕ) → Walk e t (opened_of e t).body bytes errors count
      → Said e t bytes errors count
