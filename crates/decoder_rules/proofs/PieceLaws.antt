-- What a piece gives and notes, case by case, and how a body's pieces follow one another.
-- Assumes nothing.
use Rattle.std.specs.Prelude.{Option, Some, None}
use Prim.Native.Nat.{ℕ, zero, suc, pred, ◌+◌, ◌≤◌, ◌<◌}
use mathlib.Core.Path.{◌≡◌, refl, ap}
use mathlib.Core.Bool.{Bool}
use mathlib.Core.List.{List, [], ◌∷◌, ◌++◌, cons≢nil}
use native.Mathlib.Nat.{add-zero, add-suc, suc-add}
use native.Mathlib.Omega.{arith}
use lib.ListN.{length, take, drop}
use Rattle.text_scalars.specs.Utf8.{encode_scalar}
use Rattle.decoder_rules.specs.declared.Piece.{Piece}
use Rattle.decoder_rules.specs.declared.Given.TheVariants.{Copy, Char, Nothing}
use Rattle.decoder_rules.specs.declared.DecodeError.{DecodeError}
use Rattle.decoder_rules.specs.declared.Wrong.{Wrong}
use Rattle.decoder_rules.specs.Pieces.{gives, error_at, wrong, notes_of, notes, Pieces, collect}

-- an error is not nothing
pub wrong≢none : {e : DecodeError} {a z : ℕ} → wrong e a z ≡ None → ⊥
wrong≢none h = cons≢nil (ap notes_of h)

-- a verdict has one error at most
pub verdict_few : (w : Option Wrong) → length (notes_of w) ≤ 1
verdict_few None = omega arith
verdict_few (Some w) = omega arith

module _ (p : Piece) where
  pub gives_copy : (s : List ℕ) → p.given ≡ Copy → gives p s ≡ take p.take s
  unfolding gives
  gives_copy s e = rw e

  pub gives_char : (s : List ℕ) (c : ℕ) → p.given ≡ Char c → gives p s ≡ encode_scalar c
  unfolding gives
  gives_char s c e = rw e

  pub gives_nothing : (s : List ℕ) → p.given ≡ Nothing → gives p s ≡ []
  unfolding gives
  gives_nothing s e = rw e

  pub notes_none : p.verdict ≡ None → notes p ≡ []
  unfolding notes
  notes_none h = rw h

  pub notes_few : length (notes p) ≤ 1
  unfolding notes
  notes_few = verdict_few p.verdict

  -- a piece that notes nothing has no error
  pub notes_clean : length (notes p) ≡ 0 → p.verdict ≡ None
  unfolding notes
  notes_clean = go p.verdict
    where
      go : (w : Option Wrong) → length (notes_of w) ≡ 0 → w ≡ None
      go None h = refl
      go (Some w) h = absurd (omega arith)

module _ {A : Type 0} (P : Pieces) (g : Piece → List ℕ → List A) where
  -- to skip k bytes is to drop them
  pub collect_skip : (k : ℕ) (d : Bool) (at : ℕ) (s : List ℕ) → collect P g k d at s ≡ collect P g zero d (at + k) (drop k s)
  collect_skip zero d at s = rw add-zero
  collect_skip (suc k) d at [] = refl
  collect_skip (suc k) d at (b ∷ r) = rw (add-suc, ← suc-add) (collect_skip k d (suc at) r)

  skip_in : (t : ℕ) (d : Bool) (at b : ℕ) (r : List ℕ) → 0 < t
      → collect P g (pred t) d (suc at) r ≡ collect P g zero d (at + t) (drop t (b ∷ r))
  skip_in zero d at b r h = absurd (omega arith)
  skip_in (suc k) d at b r h = rw (add-suc, ← suc-add) (collect_skip k d (suc at) r)

  -- where the first piece p takes a byte or more: what g says of it, and then what is collected of the rest after the bytes
  -- that it takes
  pub collect_step : (d : Bool) (at : ℕ) (s : List ℕ) → 0 < length s → 0 < (P d at s).take
      → let p = P d at s in collect P g zero d at s ≡ g p s ++ collect P g zero p.dropping (at + p.take) (drop p.take s)
  collect_step d at [] n h = absurd (omega arith)
  collect_step d at (b ∷ r) n h =
      let p = P d at (b ∷ r) in
      ap (λ (l : List A). g p (b ∷ r) ++ l) (skip_in p.take p.dropping at b r h)
