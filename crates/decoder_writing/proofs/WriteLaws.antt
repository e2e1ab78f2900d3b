-- What the loop that writes keeps of a body, from piece to piece, where a short run and an escape are the rule's pieces too; and
-- what is copied whole.
-- Assumes nothing.
use Prim.Native.Nat.{ℕ, ◌+◌, ◌≤◌, ◌<◌}
use mathlib.Core.Path.{◌≡◌, refl, sym, subst, ap}
use mathlib.Core.Bool.{Bool}
use Rattle.std.specs.Prelude.{Some, None, Option, IfSome}
use mathlib.Core.List.{List}
use native.Mathlib.Omega.{arith}
use lib.ListN.{length, take, length-append}
use lib.Seq.{take_all}
use borrow.Author.Tests.{lt-ltb, le-ltb}
use Rattle.text_scalars.specs.Utf8.{encode_scalar}
use Rattle.decoder_rules.specs.declared.Encoding.{Encoding}
use Rattle.decoder_rules.specs.declared.Piece.{Piece}
use Rattle.decoder_rules.specs.Pieces.{gives, notes, notes_of, copy_piece, char_piece}
use Rattle.decoder_rules.specs.Bodies.{piece_of}
use Rattle.decoder_rules.specs.Decoding.{errors_of}
use Rattle.decoder_rules.proofs.PieceLaws.{notes_none}
use Rattle.decoder_rules.proofs.BodyLaws.{piece_fine}
use Rattle.decoder_rules.proofs.LoopLaws.{Writing, write_turn}
use Rattle.decoder_rules.proofs.StoreLaws.{Stored, store_none, front_long, overwritten}
use Rattle.decoder_rules.proofs.Fine.{Turn}
use Rattle.decoder_pieces.specs.declared.body.Body.{Body}
use Rattle.decoder_pieces.specs.declared.string.Escape.{Escape}
use Rattle.decoder_pieces.specs.Steps.{body_bytes, body_after, bytes_left, errors_left}
use Rattle.decoder_pieces.specs.GoodEscapes.{escape_at}
use Rattle.decoder_pieces.proofs.StepLaws.{left_is}
use Rattle.decoder_pieces.proofs.EscapeAtLaws.{good_escape_piece}
use Rattle.decoder_marks.specs.declared.Opened.{Opened}
use Rattle.decoder_marks.specs.Opening.{opened_of}
use Rattle.decoder_marks.proofs.OpenLaws.{opened_errors}
use Rattle.decoder_writing.specs.Copies.{fitting, copied_to}

-- what a law says of what is there
pub if_some : {A : Type 0} (P : A → Type 0) (r : Option A) (x : A) → IfSome r P → Some x ≡ r → P x
if_some {A} P r x h e = let Q : Option A → Type 0 = λ o. IfSome o P in subst Q (sym e) h

-- ---- over what is left of the body `start` of the text t

module _ (e : Encoding) (t : List ℕ) (start : Body) where
  -- memory that held out₀ and errs₀ holds out and errs: it is written to o and m, and the body b is left
  module _ (out₀ : List ℕ) (o₀ : ℕ) (errs₀ : List (List ℕ)) (m₀ : ℕ) where
    abbrev pub WrittenTo : List ℕ → List (List ℕ) → Body → ℕ → ℕ → Type 0
    WrittenTo out errs b o m =
        Writing (piece_of e) (bytes_left e t start) (errors_left e t start) out₀ o₀ errs₀ m₀ out errs
        b.dropping b.at (body_bytes b t) o m

  module _ {out₀ : List ℕ} {o₀ : ℕ} {errs₀ : List (List ℕ)} {m₀ : ℕ} {out out' : List ℕ} {errs : List (List ℕ)} {o o' m : ℕ}
      (b : Body) (p : Piece) (turn : Turn (piece_of e) b.dropping b.at (body_bytes b t) p)
      (v : WrittenTo out₀ o₀ errs₀ m₀ out errs b o m) (stored : Stored out o (gives p (body_bytes b t)) o' out') where
    pub write_on : {errs' : List (List ℕ)} {m' : ℕ} → Stored errs m (notes p) m' errs'
        → WrittenTo out₀ o₀ errs₀ m₀ out' errs' (body_after b p) o' m'
    write_on noted = rw (left_is e t b p turn) (write_turn (piece_fine e) turn v stored noted)

    -- a piece without an error notes nothing
    pub write_quiet : p.verdict ≡ None → WrittenTo out₀ o₀ errs₀ m₀ out' errs (body_after b p) o' m
    write_quiet quiet = write_on (rw (notes_none p quiet) (store_none errs m))

pub given_copy : (n : ℕ) (s : List ℕ) → gives (copy_piece n) s ≡ take n s
unfolding gives
given_copy n s = refl

pub given_char : (n c : ℕ) (s : List ℕ) → gives (char_piece n c) s ≡ encode_scalar c
unfolding gives
given_char n c s = refl

-- an escape that is read off is the rule's piece
pub escape_turn : (e : Encoding) (d : Bool) (at : ℕ) (s : List ℕ) → 0 < length s → (x : Escape) → Some x ≡ escape_at e s
    → Turn (piece_of e) d at s (char_piece x.take x.char)
escape_turn e d at s h x is =
    record { more = h; reads = sym (good_escape_piece e d at s x is) }

-- the errors of an opened text's marks and of its body are all that it has
pub error_parts : (e : Encoding) (t : List ℕ) (o : Opened) → o ≡ opened_of e t
    → length (errors_of e t) ≡ length (notes_of o.opening) + (length (notes_of o.closing) + length (errors_left e t o.body))
error_parts e t o opens = simp length-append at (ap length (opened_errors e t o opens))

-- ---- what is copied whole to the front of memory that held `old`

module _ (s old : List ℕ) where
  pub none_copied : length old < length s → (None ≡ fitting s old) × (old ≡ copied_to s old)
  unfolding fitting copied_to
  none_copied h = let short = lt-ltb (length old) (length s) h in (rw short, rw short)

  pub all_copied : length s ≤ length old → {r : ℕ} {out : List ℕ} → Stored old 0 (take (length s) s) r out
      → (Some r ≡ fitting s old) × (out ≡ copied_to s old)
  unfolding fitting copied_to
  all_copied h stored =
      let room = le-ltb (length old) (length s) h in
      let whole = rw (take_all (length s) s (omega arith)) at stored in
      (rw (room, front_long whole), rw room (overwritten whole h))
