-- Four bytes as one number: where it has the marks of one character or of two, and not all of the bits are off that tell an
-- overlong form, the bytes are one character, or two.
-- Assumes nothing.
use Prim.Native.Nat.{ℕ, ◌+◌, ◌*◌, ◌^◌, ◌/◌, ◌%◌, ◌≤◌, ◌<◌}
use mathlib.Core.Path.{◌≡◌, sym, ◌∙◌}
use native.Mathlib.Nat.{mod-eq_of_lt}
use native.Mathlib.Omega.{arith}
use native.Mathlib.Decide.{dec_lt}
use lib.Bits.{bit_and, and_block, and_high, and_le_r, and_mask, and_zero_r}
use Rattle.text_characters.specs.Lead.{row, lead_of, Among, Asked, Character}
use Rattle.text_ascii.specs.Words.{four_of}
use Rattle.text_characters.proofs.CharLaws.{asked}
use Rattle.text_characters.proofs.LeadLaws.{row_is}

-- ---- what a mask leaves of two parts is what it leaves of each

bytes_left : (a b r s u v : ℕ) → r < 256 → s < 256 → v < 256 → bit_and (a * 2 ^ 8 + r) (b * 2 ^ 8 + s) ≡ u * 2 ^ 8 + v
    → (bit_and a b ≡ u) × (bit_and r s ≡ v)
bytes_left a b r s u v hr hs hv e =
    let sum : bit_and a b * 2 ^ 8 + bit_and r s ≡ u * 2 ^ 8 + v = sym (and_block 8 a b r s hr hs) ∙ e in
    let small : bit_and r s ≤ s = and_le_r r s in
    (omega arith, omega arith)

pairs_left : (a b r s u v : ℕ) → r < 0x10000 → s < 0x10000 → v < 0x10000
    → bit_and (a * 2 ^ 16 + r) (b * 2 ^ 16 + s) ≡ u * 2 ^ 16 + v → (bit_and a b ≡ u) × (bit_and r s ≡ v)
pairs_left a b r s u v hr hs hv e =
    let sum : bit_and a b * 2 ^ 16 + bit_and r s ≡ u * 2 ^ 16 + v = sym (and_block 16 a b r s hr hs) ∙ e in
    let small : bit_and r s ≤ s = and_le_r r s in
    (omega arith, omega arith)

-- ---- the marks of a byte

tail_mark : (b : ℕ) → b < 256 → bit_and b 0xC0 ≡ 0x80 → Among 0x80 0xBF b
tail_mark b h e =
    let field : bit_and b 0xC0 ≡ b / 2 ^ 6 % 2 ^ 2 * 2 ^ 6 = and_high b 2 6 in
    let small : b / 2 ^ 6 % 2 ^ 2 ≡ b / 2 ^ 6 = mod-eq_of_lt (omega arith) in
    omega arith

first_mark : (a : ℕ) → a < 256 → bit_and a 0xFC ≡ 0xF0 → Among 0xF0 0xF3 a
first_mark a h e =
    let field : bit_and a 0xFC ≡ a / 2 ^ 2 % 2 ^ 6 * 2 ^ 2 = and_high a 6 2 in
    let small : a / 2 ^ 2 % 2 ^ 6 ≡ a / 2 ^ 2 = mod-eq_of_lt (omega arith) in
    omega arith

two_mark : (a : ℕ) → a < 256 → bit_and a 0xE0 ≡ 0xC0 → Among 0xC0 0xDF a
two_mark a h e =
    let field : bit_and a 0xE0 ≡ a / 2 ^ 5 % 2 ^ 3 * 2 ^ 5 = and_high a 3 5 in
    let small : a / 2 ^ 5 % 2 ^ 3 ≡ a / 2 ^ 5 = mod-eq_of_lt (omega arith) in
    omega arith

second_asked : (a b : ℕ) → Among 0xF0 0xF3 a → Among 0x80 0xBF b → (a < 0xF1 → b < 0x90 → ⊥) → Asked a 4 b
unfolding lead_of
second_asked a b first second long =
    elim (dec_lt a 0xF1) [
      | yes l ↦ elim (dec_lt b 0x90) [
        | yes k ↦ absurd (long l k)
        | no k ↦ asked a 4 0x90 0xBF b (row_is (row 4 0x90 0xBF) 0xF0 1 tt a (omega arith) (omega arith)) (omega arith)
      ]
      | no l ↦ asked a 4 0x80 0xBF b (row_is (row 4 0x80 0xBF) 0xF1 3 tt a (omega arith) (omega arith)) second
    ]

two_bytes : (a b : ℕ) → Among 0xC0 0xDF a → Among 0x80 0xBF b → (a < 0xC2 → ⊥) → (x y : ℕ) → Character a b x y 2
unfolding lead_of
two_bytes a b first second long x y =
    let least : 0xC2 ≤ a = elim (dec_lt a 0xC2) [ yes l ↦ absurd (long l) | no l ↦ omega arith ] in
    record {
      some = omega arith;
      asked = asked a 2 0x80 0xBF b (row_is (row 2 0x80 0xBF) 0xC2 30 tt a least (omega arith)) second;
      third = λ k. absurd (omega arith);
      fourth = λ k. absurd (omega arith);
    }

-- ---- the number

module _ (a b c d : ℕ) (ha : a < 256) (hb : b < 256) (hc : c < 256) (hd : d < 256) where
  abbrev low : ℕ
  low = b * 2 ^ 8 + a

  abbrev high : ℕ
  high = d * 2 ^ 8 + c

  -- F0 and then a byte below 90 have all bits of this mask off
  overlong_off : Among 0xF0 0xF3 a → a < 0xF1 → Among 0x80 0xBF b → b < 0x90 → bit_and (four_of a b c d) 0x3003 ≡ 0
  overlong_off first l second k =
      let parts : bit_and (high * 2 ^ 16 + low) 0x3003 ≡ bit_and high 0 * 2 ^ 16 + bit_and low 0x3003 =
      and_block 16 high 0 low 0x3003 (omega arith) (omega arith) in
      let bytes : bit_and low 0x3003 ≡ bit_and b 0x30 * 2 ^ 8 + bit_and a 3 = and_block 8 b 0x30 a 3 ha (omega arith) in
      let none : bit_and high 0 ≡ 0 = and_zero_r high in
      let left : bit_and b 0x30 ≡ b / 2 ^ 4 % 2 ^ 2 * 2 ^ 4 = and_high b 2 4 in
      let right : bit_and a 3 ≡ a % 2 ^ 2 = and_mask a 2 in
      omega arith

  pub word_four : (w : ℕ) → w ≡ four_of a b c d → bit_and w 0xC0C0C0FC ≡ 0x808080F0 → (bit_and w 0x3003 ≡ 0 → ⊥) → Character a b c d 4
  word_four w is marks long =
      let halves = pairs_left high 0xC0C0 low 0xC0FC 0x8080 0x80F0 (omega arith) (omega arith) (omega arith) (rw is at marks) in
      let front = bytes_left b 0xC0 a 0xFC 0x80 0xF0 ha (omega arith) (omega arith) halves.1 in
      let back = bytes_left d 0xC0 c 0xC0 0x80 0x80 hc (omega arith) (omega arith) halves.0 in
      let first = first_mark a ha front.1 in
      let second = tail_mark b hb front.0 in
      record {
        some = omega arith;
        asked = second_asked a b first second (λ l k. long (rw is (overlong_off first l second k)));
        third = λ k. tail_mark c hc back.1;
        fourth = λ k. tail_mark d hd back.0;
      }

  -- C0 and C1 have all bits of this mask off
  low_off : Among 0xC0 0xDF a → a < 0xC2 → bit_and (four_of a b c d) 0x1E ≡ 0
  low_off first l =
      let parts : bit_and (high * 2 ^ 16 + low) 0x1E ≡ bit_and high 0 * 2 ^ 16 + bit_and low 0x1E =
      and_block 16 high 0 low 0x1E (omega arith) (omega arith) in
      let bytes : bit_and low 0x1E ≡ bit_and b 0 * 2 ^ 8 + bit_and a 0x1E = and_block 8 b 0 a 0x1E ha (omega arith) in
      let none : (bit_and high 0 ≡ 0) × (bit_and b 0 ≡ 0) = (and_zero_r high, and_zero_r b) in
      let field : bit_and a 0x1E ≡ a / 2 ^ 1 % 2 ^ 4 * 2 ^ 1 = and_high a 4 1 in
      omega arith

  high_off : Among 0xC0 0xDF c → c < 0xC2 → bit_and (four_of a b c d) 0x1E0000 ≡ 0
  high_off first l =
      let parts : bit_and (high * 2 ^ 16 + low) 0x1E0000 ≡ bit_and high 0x1E * 2 ^ 16 + bit_and low 0 =
      and_block 16 high 0x1E low 0 (omega arith) (omega arith) in
      let bytes : bit_and high 0x1E ≡ bit_and d 0 * 2 ^ 8 + bit_and c 0x1E = and_block 8 d 0 c 0x1E hc (omega arith) in
      let none : (bit_and low 0 ≡ 0) × (bit_and d 0 ≡ 0) = (and_zero_r low, and_zero_r d) in
      let field : bit_and c 0x1E ≡ c / 2 ^ 1 % 2 ^ 4 * 2 ^ 1 = and_high c 4 1 in
      omega arith

  pub word_twos : (w : ℕ) → w ≡ four_of a b c d → bit_and w 0xC0E0C0E0 ≡ 0x80C080C0 → (bit_and w 0x1E ≡ 0 → ⊥)
      → (bit_and w 0x1E0000 ≡ 0 → ⊥) → ((x y : ℕ) → Character a b x y 2) × ((x y : ℕ) → Character c d x y 2)
  word_twos w is marks one other =
      let halves = pairs_left high 0xC0E0 low 0xC0E0 0x80C0 0x80C0 (omega arith) (omega arith) (omega arith) (rw is at marks) in
      let front = bytes_left b 0xC0 a 0xE0 0x80 0xC0 ha (omega arith) (omega arith) halves.1 in
      let back = bytes_left d 0xC0 c 0xE0 0x80 0xC0 hc (omega arith) (omega arith) halves.0 in (
        two_bytes a b (two_mark a ha front.1) (tail_mark b hb front.0) (λ l. one (rw is (low_off (two_mark a ha front.1) l))),
        two_bytes c d (two_mark c hc back.1) (tail_mark d hd back.0) (λ l. other (rw is (high_off (two_mark c hc back.1) l))),
      )
