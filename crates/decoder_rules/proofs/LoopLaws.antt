-- What the loop that counts and the loop that writes keep, and a turn of each, for any decoder whose pieces are fine.
-- Assumes nothing.
use Prim.Native.Nat.{ℕ, ◌+◌, ◌*◌, ◌≤◌}
use mathlib.Core.Path.{◌≡◌, refl, ap, ◌∙◌}
use mathlib.Core.Bool.{Bool}
use mathlib.Core.List.{List, []}
use native.Mathlib.Nat.{zero-add}
use native.Mathlib.Omega.{arith}
use lib.ListN.{length, drop, length-append, length-drop}
use lib.Seq.{sets, length-sets}
use Rattle.decoder_rules.specs.declared.Piece.{Piece}
use Rattle.decoder_rules.specs.Pieces.{gives, notes, notes_at, Pieces, collect}
use Rattle.decoder_rules.proofs.PieceLaws.{notes_few}
use Rattle.decoder_rules.proofs.StoreLaws.{Stored, sets_append}
use Rattle.decoder_rules.proofs.Fine.{Fine, Turn, turn_fine, turn_said}

-- what the pieces of s give and note, whose first byte stands at place `at` of the text
module _ (P : Pieces) (d : Bool) (at : ℕ) (s : List ℕ) where
  abbrev pub bytes : List ℕ
  bytes = collect P gives 0 d at s

  abbrev pub errors : List (List ℕ)
  errors = collect P notes_at 0 d at s

-- ---- counting: n and m with what is left in s make the whole, which is `bs` and `es`, of a body of `size` bytes

pub record Counting (P : Pieces) (bs : List ℕ) (es : List (List ℕ)) (size : ℕ) (d : Bool) (at : ℕ) (s : List ℕ) (n m : ℕ)
    : Type 0 where
  pub small : 2 * n + 3 * length s ≤ 3 * size
  pub few : m + length s ≤ size
  pub bytes_sum : n + length (bytes P d at s) ≡ length bs
  pub errors_sum : m + length (errors P d at s) ≡ length es

pub count_start : (P : Pieces) (d : Bool) (at : ℕ) (s : List ℕ)
    → Counting P (bytes P d at s) (errors P d at s) (length s) d at s 0 0
count_start P d at s = record { small = omega arith; few = omega arith; bytes_sum = rw zero-add; errors_sum = rw zero-add }

module _ {P : Pieces} {bs : List ℕ} {es : List (List ℕ)} {size : ℕ} where
  pub count_turn : Fine P → {d : Bool} {at : ℕ} {s : List ℕ} {n m : ℕ} {p : Piece} → Turn P d at s p
      → Counting P bs es size d at s n m → (w k : ℕ) → w ≡ length (gives p s) → k ≡ length (notes p)
      → Counting P bs es size p.dropping (at + p.take) (drop p.take s) (n + w) (m + k)
  count_turn fine {s = s} {p = p} t v w k ew ek =
      let f = turn_fine fine t in
      let left = length-drop p.take s in
      let b = simp length-append at (ap length (turn_said fine t gives)) in
      let r = simp length-append at (ap length (turn_said fine t notes_at)) in
      record {
        small = omega (arith, left, f.small, f.fits, v.small);
        few = omega (arith, left, f.some, f.fits, notes_few p, v.few);
        bytes_sum = omega (arith, b, v.bytes_sum);
        errors_sum = omega (arith, r, v.errors_sum);
      }

  pub count_end : {d : Bool} {at : ℕ} {s : List ℕ} {n m : ℕ} → s ≡ [] → Counting P bs es size d at s n m
      → (n ≡ length bs) × (m ≡ length es) × (m ≤ size)
  count_end h v =
      let b = rw h at v.bytes_sum in
      let e = rw h at v.errors_sum in
      (omega (arith, b), omega (arith, e), omega (arith, v.few))

-- ---- writing: what is left in s, stored from o and m on, makes the whole, which is `bs` and `es` stored from o₀ and m₀ on

pub record Writing (P : Pieces) (bs : List ℕ) (es : List (List ℕ)) (out₀ : List ℕ) (o₀ : ℕ) (errs₀ : List (List ℕ)) (m₀ : ℕ)
    (out : List ℕ) (errs : List (List ℕ)) (d : Bool) (at : ℕ) (s : List ℕ) (o m : ℕ) : Type 0 where
  pub out_long : length out ≡ length out₀
  pub errs_long : length errs ≡ length errs₀
  pub out_room : o₀ + length bs ≤ length out₀
  pub errs_room : m₀ + length es ≤ length errs₀
  pub out_sum : o + length (bytes P d at s) ≡ o₀ + length bs
  pub errs_sum : m + length (errors P d at s) ≡ m₀ + length es
  pub out_is : sets out o (bytes P d at s) ≡ sets out₀ o₀ bs
  pub errs_is : sets errs m (errors P d at s) ≡ sets errs₀ m₀ es

pub write_start : (P : Pieces) (d : Bool) (at : ℕ) (s : List ℕ) {out₀ : List ℕ} {o₀ : ℕ} {errs₀ : List (List ℕ)} {m₀ : ℕ}
    → o₀ + length (bytes P d at s) ≤ length out₀ → m₀ + length (errors P d at s) ≤ length errs₀
    → Writing P (bytes P d at s) (errors P d at s) out₀ o₀ errs₀ m₀ out₀ errs₀ d at s o₀ m₀
write_start P d at s a b =
    record {
      out_long = refl;
      errs_long = refl;
      out_room = a;
      errs_room = b;
      out_sum = refl;
      errs_sum = refl;
      out_is = refl;
      errs_is = refl;
    }

module _ {P : Pieces} {bs : List ℕ} {es : List (List ℕ)} {out₀ : List ℕ} {o₀ : ℕ} {errs₀ : List (List ℕ)} {m₀ : ℕ} where
  -- there is room for what the piece gives, and for its error
  pub write_room : Fine P → {out : List ℕ} {errs : List (List ℕ)} {d : Bool} {at : ℕ} {s : List ℕ} {o m : ℕ} {p : Piece}
      → Turn P d at s p → Writing P bs es out₀ o₀ errs₀ m₀ out errs d at s o m
      → (o + length (gives p s) ≤ length out) × (m + length (notes p) ≤ length errs)
  write_room fine t v =
      let b = simp length-append at (ap length (turn_said fine t gives)) in
      let r = simp length-append at (ap length (turn_said fine t notes_at)) in (
        omega (arith, b, v.out_room, v.out_sum, v.out_long),
        omega (arith, r, v.errs_room, v.errs_sum, v.errs_long),
      )

  pub write_turn : Fine P → {out out' : List ℕ} {errs errs' : List (List ℕ)} {d : Bool} {at : ℕ} {s : List ℕ} {o m o' m' : ℕ}
      {p : Piece} → Turn P d at s p → Writing P bs es out₀ o₀ errs₀ m₀ out errs d at s o m
      → Stored out o (gives p s) o' out' → Stored errs m (notes p) m' errs'
      → Writing P bs es out₀ o₀ errs₀ m₀ out' errs' p.dropping (at + p.take) (drop p.take s) o' m'
  write_turn fine {out} {errs = errs} {s = s} {o = o} {m = m} {p = p} t v bytes-in errors-in =
      let tb = turn_said fine t gives in
      let tr = turn_said fine t notes_at in
      let b = simp length-append at (ap length tb) in
      let r = simp length-append at (ap length tr) in
      record {
        out_long = rw bytes-in.holds (length-sets out o (gives p s) ∙ v.out_long);
        errs_long = rw errors-in.holds (length-sets errs m (notes p) ∙ v.errs_long);
        out_room = v.out_room;
        errs_room = v.errs_room;
        out_sum = omega (arith, b, v.out_sum, bytes-in.place);
        errs_sum = omega (arith, r, v.errs_sum, errors-in.place);
        out_is = rw (bytes-in.place, bytes-in.holds, ← sets_append, ← tb) v.out_is;
        errs_is = rw (errors-in.place, errors-in.holds, ← sets_append, ← tr) v.errs_is;
      }

  pub write_end : {out : List ℕ} {errs : List (List ℕ)} {d : Bool} {at : ℕ} {s : List ℕ} {o m : ℕ} → s ≡ []
      → Writing P bs es out₀ o₀ errs₀ m₀ out errs d at s o m → Stored out₀ o₀ bs o out × Stored errs₀ m₀ es m errs
  write_end h v =
      let a = rw h at v.out_sum in
      let b = rw h at v.errs_sum in (
        record { place = omega (arith, a); holds = rw h at v.out_is },
        record { place = omega (arith, b); holds = rw h at v.errs_is },
      )
