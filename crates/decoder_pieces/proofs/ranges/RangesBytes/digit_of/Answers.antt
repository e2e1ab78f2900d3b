-- `digit_of` is right because what it makes of a byte and what the rule says agree, by a computed test of all bytes.
use Rattle.std.proofs.Common.{◌≡◌, ℕ, ◌+◌, ◌%◌, ◌<◌, ◌≤◌, Bool, true, false, cond, Some, None, eqb, ltb, refl, ap, sym, arith, le-ltb, lt-ltb, eqb-true}
use lib.Bits.{bit_or}
use Rattle.text_classes.specs.Classes.{hexdig}
use Rattle.text_classes.proofs.ByteTable.{class_is}
use Rattle.decoder_rules.specs.Escapes.{hex_value}
use Rattle.decoder_pieces.specs.Hexes.{digit_of}
use Rattle.decoder_pieces.proofs.HexLaws.{value_small}
use Rattle.decoder_pieces.proofs.ranges.RangesBytes.digit_of.Goals as goal

-- b less 0, and its small letter less a, both wrapped
abbrev digit : ℕ → ℕ
digit b = (b + 0xD0) % 256

abbrev letter : ℕ → ℕ
letter b = (bit_or b 0x20 + 0x9F) % 256

-- their value, 16 for none
abbrev read : ℕ → ℕ
read b = cond (ltb (digit b) 10) (digit b) (cond (ltb (letter b) 6) (letter b + 10) 16)

abbrev told : ℕ → ℕ
told b = cond (hexdig b) (hex_value b) 16

agree : (b : ℕ) → b < 256 → read b ≡ told b
unfolding hexdig hex_value
agree b h = eqb-true _ _ (sym (class_is true (λ b. eqb (read b) (told b)) 0 256 tt b (omega arith) h))

-- a value below 16 is a digit's
some_told : (b v : ℕ) → v < 16 → v ≡ told b → Some v ≡ digit_of b
some_told b v h e = go (hexdig b) e
  where
    go : (t : Bool) → v ≡ cond t (hex_value b) 16 → Some v ≡ cond t (Some (hex_value b)) None
    go true f = ap Some f
    go false f = absurd (omega arith)

none_told : (b : ℕ) → 16 ≡ told b → None ≡ digit_of b
none_told b e = go (hexdig b) (value_small b) e
  where
    go : (t : Bool) → (t ≡ true → hex_value b < 16) → 16 ≡ cond t (hex_value b) 16 → None ≡ cond t (Some (hex_value b)) None
    go true small f = absurd (omega (arith, small refl))
    go false small f = refl

by_digit : (b d : ℕ) → b < 256 → d ≡ digit b → d < 10 → Some d ≡ digit_of b
by_digit b d byte e h = some_told b d (omega arith) (rw (← e, lt-ltb d 10 h) at (agree b byte))

module _ (b d l : ℕ) (byte : b < 256) (e : d ≡ digit b) (f : l ≡ letter b) (no_digit : 10 ≤ d) where
  by_letter : l < 6 → Some (l + 10) ≡ digit_of b
  by_letter h = some_told b (l + 10) (omega arith) (rw (← e, le-ltb d 10 no_digit, ← f, lt-ltb l 6 h) at (agree b byte))

  by_none : 6 ≤ l → None ≡ digit_of b
  by_none h = none_told b (rw (← e, le-ltb d 10 no_digit, ← f, le-ltb l 6 h) at (agree b byte))

pub returns-then-d-lt10 : goal.returns-then-d-lt10
returns-then-d-lt10 c =
    let is : c.wrapping_sub_u8-d.result ≡ digit c.args.b = omega (arith, c.wrapping_sub_u8-d.ensures) in
    by_digit c.args.b c.wrapping_sub_u8-d.result (omega arith) is c.if-d-lt10.true

pub returns-then-l-lt6 : goal.returns-then-l-lt6
returns-then-l-lt6 c =
    let is-d : c.wrapping_sub_u8-d.result ≡ digit c.args.b = omega (arith, c.wrapping_sub_u8-d.ensures) in
    let is-l : c.wrapping_sub_u8-l.result ≡ letter c.args.b = omega (arith, c.wrapping_sub_u8-l.ensures) in
    by_letter c.args.b c.wrapping_sub_u8-d.result c.wrapping_sub_u8-l.result (omega arith) is-d is-l c.if-d-lt10.false c.if-l-lt6.true

pub returns : goal.returns
returns c =
    let is-d : c.wrapping_sub_u8-d.result ≡ digit c.args.b = omega (arith, c.wrapping_sub_u8-d.ensures) in
    let is-l : c.wrapping_sub_u8-l.result ≡ letter c.args.b = omega (arith, c.wrapping_sub_u8-l.ensures) in
    by_none c.args.b c.wrapping_sub_u8-d.result c.wrapping_sub_u8-l.result (omega arith) is-d is-l c.if-d-lt10.false c.if-l-lt6.false
