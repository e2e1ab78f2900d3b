-- Bit fields as sums: a mark set above a field, as the code sets it with `|`, adds.
-- Assumes nothing.
use Prim.Native.Nat.{ℕ, ◌+◌, ◌/◌, ◌%◌, ◌≤◌, ◌<◌}
use mathlib.Core.Path.{◌≡◌, ap, ◌∙◌}
use native.Mathlib.Omega.{arith}
use lib.Bits.{bit_or, bit_and, and_mask, mask_lt, or_shifted_r, or_add_and, and_le_l, and_le_r}

-- 10xxxxxx
pub tail_or : (x : ℕ) → bit_or (bit_and x 63) 128 ≡ 128 + x % 64
tail_or x = or_shifted_r 2 6 (bit_and x 63) (mask_lt x 6) ∙ ap (λ (y : ℕ). 128 + y) (and_mask x 6)

module _ (c : ℕ) where
  -- 110xxxxx
  pub lead_2 : c < 0x800 → bit_or (c / 64) 192 ≡ 192 + c / 64
  lead_2 h = or_shifted_r 6 5 (c / 64) (omega arith)

  -- 1110xxxx
  pub lead_3 : c < 0x10000 → bit_or (c / 4096) 224 ≡ 224 + c / 4096
  lead_3 h = or_shifted_r 14 4 (c / 4096) (omega arith)

  -- 11110xxx
  pub lead_4 : c < 0x110000 → bit_or (c / 262144) 240 ≡ 240 + c / 262144
  lead_4 h = or_shifted_r 30 3 (c / 262144) (omega arith)

-- bits joined are no less than either part
pub bits_left : (a b : ℕ) → a ≤ bit_or a b
bits_left a b = omega (arith, or_add_and a b, and_le_r a b)

pub bits_right : (a b : ℕ) → b ≤ bit_or a b
bits_right a b = omega (arith, or_add_and a b, and_le_l a b)
