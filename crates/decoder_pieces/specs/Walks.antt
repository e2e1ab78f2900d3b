-- STATEMENT. What walking over a body step by step comes to: its pieces' bytes, joined, and their errors, in order, are those
-- of `collect`; and the walk ends. Proved in proofs/StepLaws.antt: a step as `at_piece` and `at_end`, a whole walk as
-- `walk_said`, and that there is one as `Walk-Ends`. Not to be believed.
-- Assumes nothing.
use Rattle.std.specs.Prelude.{◌≡◌, ℕ, Some, None, suc, ◌+◌, ◌<◌, List, [], ◌++◌, length}
use Rattle.decoder_rules.specs.declared.Encoding.{Encoding}
use Rattle.decoder_rules.specs.declared.Piece.{Piece}
use Rattle.decoder_rules.specs.Pieces.{gives, notes}
use Rattle.decoder_pieces.specs.declared.body.Body.{Body}
use Rattle.decoder_pieces.specs.Steps.{body_bytes, body_step, bytes_left, errors_left}

-- what a step tells that gives the piece p of a body b, and the body n after it: what was left is what p gives and notes, and
-- then what is left of n, which has fewer bytes
pub record AtPiece (e : Encoding) (t : List ℕ) (b : Body) (p : Piece) (n : Body) : Type 0 where
  pub bytes : bytes_left e t b ≡ gives p (body_bytes b t) ++ bytes_left e t n
  pub errors : errors_left e t b ≡ notes p ++ errors_left e t n
  pub some : 0 < p.take
  pub fewer : p.take + length (body_bytes n t) ≡ length (body_bytes b t)

-- what a step tells that gives none: nothing was left
pub record AtEnd (e : Encoding) (t : List ℕ) (b : Body) : Type 0 where
  pub bytes : bytes_left e t b ≡ []
  pub errors : errors_left e t b ≡ []

-- the walk over a body, from step to step to the end: the bytes that its pieces give, the errors that they note, and how many
-- pieces there are
pub data Walk (e : Encoding) (t : List ℕ) : Body → List ℕ → List (List ℕ) → ℕ → Type 0 where
  ended : {b : Body} → body_step e t b ≡ None → Walk e t b [] [] 0
  stepped : {b n : Body} {p : Piece} {bytes : List ℕ} {errors : List (List ℕ)} {count : ℕ} → body_step e t b ≡ Some (p, n)
      → Walk e t n bytes errors count → Walk e t b (gives p (body_bytes b t) ++ bytes) (notes p ++ errors) (suc count)

-- there is one
pub record Walked (e : Encoding) (t : List ℕ) (b : Body) : Type 0 where
  pub bytes : List ℕ
  pub errors : List (List ℕ)
  pub count : ℕ
  pub walk : Walk e t b bytes errors count
