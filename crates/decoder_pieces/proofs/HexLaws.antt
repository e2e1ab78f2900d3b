-- What the loop over the digits of a hex escape keeps.
-- Assumes nothing.
use Rattle.std.proofs.Common.{Some, None, ◌≡◌, ℕ, ◌+◌, ◌*◌, ◌^◌, ◌<◌, ◌≤◌, Bool, true, false, cond, not, ◌||◌, ltb, List, length, get_or, take, drop, sym, refl, ap, ◌∙◌, pow-suc, add-one, arith, ltb-true}
use mathlib.Core.Bool.{false≢true}
use native.Mathlib.Nat.{pow-le-pow_right}
use native.Mathlib.Decide.{dec_lt}
use Rattle.text_classes.specs.Classes.{hexdig}
use Rattle.text_classes.specs.Runs.{run}
use Rattle.text_classes.proofs.ByteTable.{class_is}
use Rattle.text_classes.proofs.RunLaws.{run_step, there, run_halts, run_end}
use Rattle.decoder_rules.specs.Escapes.{hex_value, hex_from}
use Rattle.decoder_rules.proofs.EscapeLaws.{hex_more}
use Rattle.decoder_rules.proofs.AsciiLaws.{hexdig_low}
use Rattle.decoder_pieces.specs.Hexes.{digit_of, HexAll, HexFew}

-- a hex digit is at least 0
hexdig_above : (b : ℕ) → hexdig b ≡ true → 0x30 ≤ b
unfolding hexdig
hexdig_above b e =
    elim (dec_lt b 0x30) [
      | yes l ↦ absurd (false≢true (class_is false hexdig 0 0x30 tt b (omega arith) l ∙ e))
      | no l ↦ omega arith
    ]

value_test : (b : ℕ) → b < 0x80 → true ≡ (not (hexdig b) || ltb (hex_value b) 16)
unfolding hexdig hex_value
value_test b h = class_is true (λ b. not (hexdig b) || ltb (hex_value b) 16) 0 0x80 tt b (omega arith) h

pub value_small : (b : ℕ) → hexdig b ≡ true → hex_value b < 16
value_small b e = ltb-true _ _ (sym (rw e at (value_test b (hexdig_low b e))))

-- what `digit_of` says of a byte tells whether it is a digit
pub digit_none : (b : ℕ) → None ≡ digit_of b → hexdig b ≡ false
digit_none b = go (hexdig b)
  where
    go : (t : Bool) → None ≡ cond t (Some (hex_value b)) None → t ≡ false
    go true e = absurd (let z : ◌≡◌ {A = ℕ} 0 1 = cc in omega arith)
    go false e = refl

pub digit_some : (b d : ℕ) → Some d ≡ digit_of b → (hexdig b ≡ true) × (d ≡ hex_value b)
digit_some b d = go (hexdig b)
  where
    go : (t : Bool) → Some d ≡ cond t (Some (hex_value b)) None → (t ≡ true) × (d ≡ hex_value b)
    go true e = (refl, cc)
    go false e = absurd (let z : ◌≡◌ {A = ℕ} 0 1 = cc in omega arith)

pub digit_small : (b d : ℕ) → Some d ≡ digit_of b → d < 16
digit_small b d e =
    let is = digit_some b d e in
    omega (arith, is.1, value_small b is.0)

-- i digits are read, and v is their number
pub record Digits (n : ℕ) (s : List ℕ) (i v : ℕ) : Type 0 where
  pub within : i ≤ n
  pub small : v < 16 ^ i
  pub value : v ≡ hex_from 0 (take i s)
  pub found : i + run hexdig (drop i s) ≡ run hexdig s

pub digits_start : (n : ℕ) (s : List ℕ) → Digits n s 0 0
unfolding hex_from
digits_start n s = record { within = omega arith; small = omega arith; value = refl; found = omega arith }

module _ (n : ℕ) (s : List ℕ) (i v : ℕ) (d : Digits n s i v) where
  -- one more has room in 32 bits
  pub digits_room : i < n → n ≤ 8 → v < 0x10000000
  digits_room h l = omega (arith, d.small, pow-le-pow_right {n = 16} (omega arith) {i = i} {j = 7} (omega arith))

  pub digits_turn : i < n → (w : ℕ) → Some w ≡ digit_of (get_or s i 0) → Digits n s (i + 1) (v * 16 + w)
  digits_turn h w is =
      let e = (digit_some (get_or s i 0) w is).0 in
      let f = (digit_some (get_or s i 0) w is).1 in
      let l = there s i (omega (arith, hexdig_above (get_or s i 0) e)) in
      record {
        within = omega arith;
        small = rw (add-one, pow-suc) (omega (arith, d.small, value_small (get_or s i 0) e));
        value = rw (f, d.value) (sym (hex_more s i l));
        found = omega (arith, d.found, run_step hexdig s i l e);
      }

  -- no digit is here
  pub digits_few : i < n → None ≡ digit_of (get_or s i 0) → HexFew n s i
  digits_few h e =
      record { few = h; found = omega (arith, d.found, run_halts hexdig s i (digit_none (get_or s i 0) e)) }

  -- none is left
  pub digits_end : i < n → length s ≤ i → HexFew n s i
  digits_end h e = record { few = h; found = omega (arith, d.found, run_end hexdig s i e) }

  -- all are read
  pub digits_all : n ≤ i → HexAll n s v
  digits_all h =
      let e : i ≡ n = omega (arith, d.within) in
      record { enough = omega (arith, d.found); number = d.value ∙ ap (λ (k : ℕ). hex_from 0 (take k s)) e }
