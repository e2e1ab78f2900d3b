-- What the shortcuts of an engine say of the piece at the front of a body: it is the rule's, read off before any piece is made.
-- Assumes nothing.
use Rattle.std.specs.Prelude.{◌≡◌, ℕ, ◌<◌, Bool, true, false, cond, ◌&&◌, nat_lt, Option, Some, None, List, take}
use Rattle.text_classes.specs.Runs.{run}
use Rattle.decoder_rules.specs.Encodings.{plain}
use Rattle.decoder_rules.specs.declared.Encoding.{Encoding}
use Rattle.decoder_rules.specs.Pieces.{copy_piece}
use Rattle.decoder_rules.specs.Bodies.{piece_of}
use Rattle.decoder_pieces.specs.declared.string.Escape.{Escape}
use Rattle.decoder_pieces.specs.GoodEscapes.{escape_at}

-- a run of n bytes, fewer than eight, is the rule's piece at the front of s
pub record FewAt (e : Encoding) (d : Bool) (s : List ℕ) (n : ℕ) : Type 0 where
  pub some : 0 < n
  pub short : n < 8
  pub piece : (at : ℕ) → piece_of e d at s ≡ copy_piece n

-- a run of fewer than eight bytes that stand for themselves, at the front of s; none for any other piece
unfoldable pub few_at : Encoding → Bool → List ℕ → Option ℕ
few_at e true s = None
few_at e false s =
    let n : ℕ = run (plain e) (take 8 s) in
    cond (nat_lt 0 n && nat_lt n 8) (Some n) None

-- x is the escape at the front of s: `good_escape_piece` in proofs/EscapeAtLaws.antt shows that the rule's piece there is this one
abbrev pub EscapeAt : Encoding → List ℕ → Escape → Type 0
EscapeAt e s x = Some x ≡ escape_at e s
