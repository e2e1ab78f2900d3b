-- FOLLOWS. A body read piece by piece: what a step answers, by the rule `piece_of` alone, for every body that a caller can make.
-- Walks.antt states what the steps together come to.
-- Assumes nothing.
use Rattle.std.specs.Prelude.{ℕ, min, false, Option, Some, None, ◌+◌, ◌-◌, List, [], ◌∷◌, take, drop}
use Rattle.decoder_rules.specs.declared.Encoding.{Encoding}
use Rattle.decoder_rules.specs.declared.Piece.{Piece}
use Rattle.decoder_rules.specs.Pieces.{gives, notes_at, collect}
use Rattle.decoder_rules.specs.Bodies.{piece_of}
use Rattle.decoder_pieces.specs.declared.body.Body.{Body}

-- the bytes of a body: from its place in the text t to its end, as far as the text has them
abbrev pub body_bytes : Body → List ℕ → List ℕ
body_bytes b t = take (b.end - b.at) (drop b.at t)

-- the body after its first piece p
abbrev pub body_after : Body → Piece → Body
body_after b p = record { at = b.at + p.take; end = b.end; dropping = p.dropping }

-- the body after n of its bytes, where no line-ending escape goes on; past the last number of a usize it begins there
abbrev pub body_past : Body → ℕ → Body
body_past b n = record { at = min (b.at + n) 0xFFFF_FFFF_FFFF_FFFF; end = b.end; dropping = false }

-- a step at a body with the bytes s: where there is none, none; else the rule's piece, and the body after it
abbrev pub step_over : Encoding → Body → List ℕ → Option (Piece × Body)
step_over e b [] = None
step_over e b (x ∷ s) =
    let p : Piece = piece_of e b.dropping b.at (x ∷ s) in
    Some (p, body_after b p)

unfoldable pub body_step : Encoding → List ℕ → Body → Option (Piece × Body)
body_step e t b = step_over e b (body_bytes b t)

-- what the pieces of a body give, joined, and the errors that they have, in order
abbrev pub bytes_left : Encoding → List ℕ → Body → List ℕ
bytes_left e t b = collect (piece_of e) gives 0 b.dropping b.at (body_bytes b t)

abbrev pub errors_left : Encoding → List ℕ → Body → List (List ℕ)
errors_left e t b = collect (piece_of e) notes_at 0 b.dropping b.at (body_bytes b t)
