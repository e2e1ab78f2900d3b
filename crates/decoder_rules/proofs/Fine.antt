-- What the two loops ask of a decoder's pieces: `Fine`. From it alone come the bounds on lengths, and a turn of each loop.
-- Assumes nothing.
use Rattle.std.specs.Prelude.{Option, None}
use Prim.Native.Nat.{ℕ, zero, ◌+◌, ◌-◌, ◌*◌, ◌≤◌, ◌<◌}
use mathlib.Core.Path.{◌≡◌}
use mathlib.Core.Bool.{Bool, true, false}
use mathlib.Core.List.{List, ◌++◌}
use native.Mathlib.Omega.{arith}
use lib.ListN.{length, take, drop, length-drop, length-take}
use lib.Seq.{take_all}
use Rattle.text_scalars.specs.Utf8.{Scalar, encode_scalar}
use Rattle.decoder_rules.specs.declared.Piece.{Piece}
use Rattle.decoder_rules.specs.declared.Given.{Given}
use Rattle.decoder_rules.specs.declared.Given.TheVariants.{Copy, Char, Nothing}
use Rattle.decoder_rules.specs.declared.DecodeError.{DecodeError}
use Rattle.decoder_rules.specs.declared.Wrong.{Wrong}
use Rattle.decoder_rules.specs.Pieces.{gives, Pieces, collect, char_piece, bad_char}
use Rattle.decoder_rules.proofs.PieceLaws.{wrong≢none, collect_step}

-- a character that is given is a scalar value
abbrev pub Encodable : Given → Type 0
Encodable Copy = Unit {0}
Encodable (Char c) = Scalar c
Encodable Nothing = Unit {0}

-- a piece at the front of s takes a byte or more of it, gives at most three bytes for two that it takes, and no more than
-- it takes where it has no error
pub record FineAt (p : Piece) (s : List ℕ) : Type 0 where
  pub some : 0 < p.take
  pub fits : p.take ≤ length s
  pub small : 2 * length (gives p s) ≤ 3 * p.take
  pub quiet : p.verdict ≡ None → length (gives p s) ≤ p.take
  pub char : Encodable p.given

abbrev pub Fine : Pieces → Type 0
Fine P = (d : Bool) (at : ℕ) (s : List ℕ) → 0 < length s → FineAt (P d at s) s

-- ---- the three ways to make a piece

-- with an error or without one
pub fine_copy : (n : ℕ) (w : Option Wrong) (s : List ℕ) → 0 < n → n ≤ length s
    → FineAt (record { take = n; given = Copy; verdict = w; dropping = false }) s
unfolding gives
fine_copy n w s l h =
    record { some = l; fits = h; small = rw length-take (omega arith); quiet = λ e. rw length-take (omega arith); char = tt }

pub fine_drop : (n : ℕ) (w : Option Wrong) (s : List ℕ) → 0 < n → n ≤ length s
    → FineAt (record { take = n; given = Nothing; verdict = w; dropping = true }) s
unfolding gives
fine_drop n w s l h = record { some = l; fits = h; small = omega arith; quiet = λ e. omega arith; char = tt }

pub fine_char : (n c : ℕ) (s : List ℕ) → 0 < n → n ≤ length s → Scalar c → length (encode_scalar c) ≤ n
    → FineAt (char_piece n c) s
unfolding gives
fine_char n c s l h v m = record { some = l; fits = h; small = omega arith; quiet = λ e. m; char = v }

pub fine_bad_char : (n c : ℕ) (e : DecodeError) (p : ℕ) (s : List ℕ) → 0 < n → n ≤ length s → Scalar c
    → 2 * length (encode_scalar c) ≤ 3 * n → FineAt (bad_char n c e p) s
unfolding gives
fine_bad_char n c e p s l h v m = record { some = l; fits = h; small = m; quiet = λ q. absurd (wrong≢none q); char = v }

-- ---- what a turn of a loop reads

-- `&s[i..]`
abbrev pub rest : List ℕ → ℕ → List ℕ
rest s i = take (length s - i) (drop i s)

pub rest_is : (s : List ℕ) (i : ℕ) → rest s i ≡ drop i s
rest_is s i = take_all (length s - i) (drop i s) (omega (arith, length-drop i s))

-- a turn reads the piece p at the front of s, whose first byte stands at place `at` of the text
pub record Turn (P : Pieces) (d : Bool) (at : ℕ) (s : List ℕ) (p : Piece) : Type 0 where
  pub more : 0 < length s
  pub reads : p ≡ P d at s

module _ {P : Pieces} {d : Bool} {at : ℕ} {s : List ℕ} {p : Piece} (fine : Fine P) (t : Turn P d at s p) where
  -- the piece that it reads is fine
  pub turn_fine : FineAt p s
  turn_fine = rw t.reads (fine d at s t.more)

  -- and what was to come is what it says, and then what comes after it
  pub turn_said : {A : Type 0} (g : Piece → List ℕ → List A)
      → collect P g zero d at s ≡ g p s ++ collect P g zero p.dropping (at + p.take) (drop p.take s)
  turn_said g = rw t.reads (collect_step P g d at s t.more (fine d at s t.more).some)
