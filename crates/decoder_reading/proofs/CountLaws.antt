-- What the loop that counts keeps of a body, from piece to piece.
-- Assumes nothing.
use Prim.Native.Nat.{ℕ, ◌+◌}
use mathlib.Core.Path.{◌≡◌}
use mathlib.Core.List.{List}
use lib.ListN.{length}
use Rattle.decoder_rules.specs.declared.Encoding.{Encoding}
use Rattle.decoder_rules.specs.declared.Piece.{Piece}
use Rattle.decoder_rules.specs.Pieces.{gives, notes}
use Rattle.decoder_rules.specs.Bodies.{piece_of}
use Rattle.decoder_rules.proofs.BodyLaws.{piece_fine}
use Rattle.decoder_rules.proofs.LoopLaws.{Counting, count_turn}
use Rattle.decoder_rules.proofs.Fine.{Turn}
use Rattle.decoder_pieces.specs.declared.body.Body.{Body}
use Rattle.decoder_pieces.specs.Steps.{body_bytes, body_after, bytes_left, errors_left}
use Rattle.decoder_pieces.proofs.StepLaws.{left_is}

module _ (e : Encoding) (t : List ℕ) (start : Body) where
  -- n bytes and m errors are counted, and the body b is left
  abbrev pub CountedTo : Body → ℕ → ℕ → Type 0
  CountedTo b n m =
      Counting (piece_of e) (bytes_left e t start) (errors_left e t start) (length (body_bytes start t))
      b.dropping b.at (body_bytes b t) n m

  pub count_on : (b : Body) (p : Piece) → Turn (piece_of e) b.dropping b.at (body_bytes b t) p → {n m : ℕ} → CountedTo b n m
      → (w k : ℕ) → w ≡ length (gives p (body_bytes b t)) → k ≡ length (notes p) → CountedTo (body_after b p) (n + w) (m + k)
  count_on b p turn v w k ew ek = rw (left_is e t b p turn) (count_turn (piece_fine e) turn v w k ew ek)
