-- The laws of the encoding of one scalar value: its four lengths, and that its value is read back off its bit fields.
-- Assumes nothing.
use Prim.Native.Nat.{ℕ, ◌+◌, ◌*◌, ◌/◌, ◌%◌, ◌≤◌, ◌<◌}
use mathlib.Core.Path.{◌≡◌, refl}
use mathlib.Core.Logic.{inl, inr}
use mathlib.Core.List.{List, [], ◌∷◌, ◌++◌}
use mathlib.Core.Bool.{Bool, true, false, ◌&&◌, ◌||◌}
use native.Mathlib.Omega.{arith}
use native.Mathlib.Decide.{dec_lt}
use lib.ListN.{length}
use lib.Dec.{ltb, leb}
use borrow.Author.Tests.{ltb-true, leb-true, lt-ltb, le-ltb, le-leb}
use Rattle.text_scalars.specs.Utf8.{Scalar, All, encode_scalar}
use Rattle.text_scalars.specs.Utf8Read.{is_scalar, guess}
use Rattle.text_classes.proofs.Conds.{by_lt, not_both}

-- the ranges of a scalar value: a range for each length, the third cut in two by the surrogates
pub data Size (c : ℕ) : Type 0 where
  one : c < 0x80 → Size c
  two : 0x80 ≤ c → c < 0x800 → Size c
  low : 0x800 ≤ c → c < 0xD800 → Size c
  high : 0xE000 ≤ c → c < 0x10000 → Size c
  four : 0x10000 ≤ c → c < 0x110000 → Size c

pub size : (c : ℕ) → Scalar c → Size c
size c (inl h) =
    elim (dec_lt c 0x80) [
      | yes a ↦ one a
      | no a ↦ elim (dec_lt c 0x800) [ yes b ↦ two (omega arith) b | no b ↦ low (omega arith) h ]
    ]
size c (inr h) = elim (dec_lt c 0x10000) [ yes a ↦ high h.0 a | no a ↦ four (omega arith) h.1 ]

abbrev Few : List ℕ → Type 0
Few l = (1 ≤ length l) × (length l ≤ 4)

module _ (c : ℕ) where
  pub encode_1 : c < 0x80 → encode_scalar c ≡ c ∷ []
  unfolding encode_scalar
  encode_1 h = simp (lt-ltb _ _ h)

  pub encode_2 : 0x80 ≤ c → c < 0x800 → encode_scalar c ≡ (0xC0 + c / 64) ∷ (0x80 + c % 64) ∷ []
  unfolding encode_scalar
  encode_2 l h = simp (le-ltb _ _ l, lt-ltb _ _ h)

  pub encode_3 : 0x800 ≤ c → c < 0x10000 → encode_scalar c ≡ (0xE0 + c / 4096) ∷ (0x80 + c / 64 % 64) ∷ (0x80 + c % 64) ∷ []
  unfolding encode_scalar
  encode_3 l h =
      let l1 : 0x80 ≤ c = omega arith in
      simp (le-ltb _ _ l1, le-ltb _ _ l, lt-ltb _ _ h)

  pub encode_4 : 0x10000 ≤ c
      → encode_scalar c ≡ (0xF0 + c / 262144) ∷ (0x80 + c / 4096 % 64) ∷ (0x80 + c / 64 % 64) ∷ (0x80 + c % 64) ∷ []
  unfolding encode_scalar
  encode_4 l =
      let l1 : 0x80 ≤ c = omega arith in
      let l2 : 0x800 ≤ c = omega arith in
      simp (le-ltb _ _ l1, le-ltb _ _ l2, le-ltb _ _ l)

  -- one to four bytes, whatever the number
  pub encode_length : (1 ≤ length (encode_scalar c)) × (length (encode_scalar c) ≤ 4)
  unfolding encode_scalar
  encode_length =
      by_lt Few c 0x80 (λ h. omega arith)
      λ a. by_lt Few c 0x800 (λ h. omega arith)
      λ b. by_lt Few c 0x10000 (λ h. omega arith) (λ h. omega arith)

-- a byte after the first
abbrev pub Tail : ℕ → Type 0
Tail b = (0x80 ≤ b) × (b < 0xC0)

-- an encoding is a first byte, which is the value itself for ASCII and at least C0 beyond, and continuation bytes
pub record Parts (c : ℕ) : Type 0 where
  pub first : ℕ
  pub tails : List ℕ
  pub whole : encode_scalar c ≡ first ∷ tails
  pub each : All Tail tails
  pub same : c < 0x80 → first ≡ c
  pub more : 0x80 ≤ c → 0xC0 ≤ first

parts_of_lem : {c first : ℕ} {tails : List ℕ} → encode_scalar c ≡ first ∷ tails → All Tail tails
    → (c < 0x80 → first ≡ c) × (0x80 ≤ c → 0xC0 ≤ first) → Parts c
parts_of_lem e t f = record { first = _; tails = _; whole = e; each = t; same = f.0; more = f.1 }

pub parts : (c : ℕ) → Parts c
parts c =
    elim (dec_lt c 0x80) [
      | yes h ↦ parts_of_lem (encode_1 c h) tt (omega arith)
      | no l ↦ elim (dec_lt c 0x800) [
        | yes h ↦ parts_of_lem (encode_2 c (omega arith) h) (omega arith, tt) (omega arith)
        | no l ↦ elim (dec_lt c 0x10000) [
          | yes h ↦ parts_of_lem (encode_3 c (omega arith) h) (omega arith, (omega arith, tt)) (omega arith)
          | no l ↦ parts_of_lem (encode_4 c (omega arith)) (omega arith, (omega arith, (omega arith, tt))) (omega arith)
        ]
      ]
    ]

-- ---- the value comes back

low_6 : (x : ℕ) → (0x80 + x % 64) % 64 ≡ x % 64
low_6 x = omega arith

fields : (c : ℕ) → c / 262144 * 262144 + c / 4096 % 64 * 4096 + c / 64 % 64 * 64 + c % 64 ≡ c
fields c =
    let a : c / 64 * 64 + c % 64 ≡ c = omega arith in
    let b : c / 4096 * 64 + c / 64 % 64 ≡ c / 64 = omega arith in
    let d : c / 262144 * 64 + c / 4096 % 64 ≡ c / 4096 = omega arith in
    omega arith

module _ (c : ℕ) (t : List ℕ) where
  guess_3 : 0x800 ≤ c → c < 0x10000 → guess (encode_scalar c ++ t) ≡ c
  unfolding guess
  guess_3 l h =
      let a : 0x80 ≤ 0xE0 + c / 4096 = omega arith in
      let b : 0xE0 ≤ 0xE0 + c / 4096 = omega arith in
      let d : 0xE0 + c / 4096 < 0xF0 = omega arith in
      rw (encode_3 c l h) (simp (le-ltb _ _ a, le-ltb _ _ b, lt-ltb _ _ d) (omega arith))

  guess_size : Size c → guess (encode_scalar c ++ t) ≡ c
  unfolding guess
  guess_size (one h) = rw (encode_1 c h) (simp (lt-ltb _ _ h))
  guess_size (two l h) =
      let a : 0x80 ≤ 0xC0 + c / 64 = omega arith in
      let b : 0xC0 + c / 64 < 0xE0 = omega arith in
      rw (encode_2 c l h) (simp (le-ltb _ _ a, lt-ltb _ _ b) (omega arith))
  guess_size (low l h) = guess_3 l (omega arith)
  guess_size (high l h) = guess_3 (omega arith) h
  guess_size (four l h) =
      let a : 0x80 ≤ 0xF0 + c / 262144 = omega arith in
      let b : 0xE0 ≤ 0xF0 + c / 262144 = omega arith in
      let d : 0xF0 ≤ 0xF0 + c / 262144 = omega arith in
      let e : (0xF0 + c / 262144) % 8 ≡ c / 262144 = omega arith in
      rw (encode_4 c l) (simp (le-ltb _ _ a, le-ltb _ _ b, le-ltb _ _ d, e, low_6) (fields c))

  pub guess_encode : Scalar c → guess (encode_scalar c ++ t) ≡ c
  guess_encode s = guess_size (size c s)

-- ---- `is_scalar` is `Scalar`

module _ (c : ℕ) where
  pub scalar_true : Scalar c → is_scalar c ≡ true
  scalar_true (inl h) = simp (lt-ltb _ _ h)
  scalar_true (inr h) =
      let a : 0xD800 ≤ c = omega arith in
      simp (le-ltb _ _ a, le-leb _ _ h.0, lt-ltb _ _ h.1)

  pub true_scalar : is_scalar c ≡ true → Scalar c
  true_scalar = go (ltb c 0xD800) (leb 0xE000 c) (ltb c 0x110000) refl refl refl
    where
      go : (x y z : Bool) → ltb c 0xD800 ≡ x → leb 0xE000 c ≡ y → ltb c 0x110000 ≡ z → (x || (y && z)) ≡ true → Scalar c
      go true y z ex ey ez h = inl (ltb-true _ _ ex)
      go false true true ex ey ez h = inr (leb-true _ _ ey, ltb-true _ _ ez)
      go false true false ex ey ez h = not_both h refl
      go false false z ex ey ez h = not_both h refl

  pub scalar_lt : Scalar c → c < 0x110000
  scalar_lt (inl h) = omega arith
  scalar_lt (inr h) = h.1
