-- The bits of a byte: a bit that is put stands there, and no other bit changes; and how the code sets, clears and reads one.
-- Assumes nothing.
use Prim.Native.Nat.{ℕ, zero, suc, ◌-◌, ◌/◌, ◌%◌, ◌^◌, ◌≤◌, ◌<◌}
use mathlib.Core.Path.{◌≡◌, refl, sym, ap, ◌∙◌}
use mathlib.Core.Bool.{not}
use native.Mathlib.Omega.{arith}
use native.Mathlib.Nat.{pow-succ', div-div-eq-div-mul}
use lib.Bits.{bit_and, bit_or}
use lib.Dec.{T, eqb, eqb→eq}
use Rattle.text_classes.proofs.ByteTable.{all_from, at_each, classes_agree}
use Rattle.built_review.specs.Review.{bit, is_set, put_bit}

-- ---- the higher bits of a byte are those of its half

bit_half : (k b : ℕ) → bit (suc k) b ≡ bit k (b / 2)
unfolding bit
bit_half k b = ap (λ (n : ℕ). b / n % 2) (pow-succ' 2 k) ∙ ap (λ (n : ℕ). n % 2) (sym (div-div-eq-div-mul b 2 (2 ^ k)))

higher : (k a b : ℕ) → a / 2 ≡ b / 2 → bit (suc k) a ≡ bit (suc k) b
higher k a b e = bit_half k a ∙ ap (bit k) e ∙ sym (bit_half k b)

pub bit_le : (k b : ℕ) → bit k b ≤ 1
unfolding bit
bit_le k b = omega arith

-- ---- a bit that is put

pub put_own : (k d b : ℕ) → k ≤ 1 → d ≤ 1 → bit k (put_bit k d b) ≡ d
unfolding bit put_bit
put_own zero d b h l = omega arith
put_own (suc zero) d b h l = omega arith
put_own (suc (suc k)) d b h l = absurd (omega arith)

pub put_other : (k j d b : ℕ) → k ≤ 1 → d ≤ 1 → (k ≡ j → ⊥) → bit j (put_bit k d b) ≡ bit j b
unfolding bit put_bit
put_other zero zero d b h l n = absurd (n refl)
put_other zero (suc j) d b h l n = higher j (put_bit 0 d b) b (omega arith)
put_other (suc zero) zero d b h l n = omega arith
put_other (suc zero) (suc zero) d b h l n = absurd (n refl)
put_other (suc zero) (suc (suc j)) d b h l n =
    let a = put_bit 1 d b in
    bit_half (suc j) a ∙ higher j (a / 2) (b / 2) (omega arith) ∙ sym (bit_half (suc j) b)
put_other (suc (suc k)) j d b h l n = absurd (omega arith)

-- ---- what the code does to a byte, by a test that is computed for all bytes

bytes_agree : (f g : ℕ → ℕ) → T (all_from (λ b. eqb (f b) (g b)) 0 256) → (b : ℕ) → b < 256 → f b ≡ g b
bytes_agree f g t b h = eqb→eq (f b) (g b) (at_each (λ b. eqb (f b) (g b)) 0 256 t b (omega arith) h)

pub or_bit : (k b : ℕ) → k ≤ 1 → b < 256 → bit_or b (2 ^ k) ≡ put_bit k 1 b
unfolding bit put_bit
or_bit zero b h l = bytes_agree (λ b. bit_or b 1) (put_bit 0 1) tt b l
or_bit (suc zero) b h l = bytes_agree (λ b. bit_or b 2) (put_bit 1 1) tt b l
or_bit (suc (suc k)) b h l = absurd (omega arith)

pub and_not_bit : (k b : ℕ) → k ≤ 1 → b < 256 → bit_and b (255 - 2 ^ k) ≡ put_bit k 0 b
unfolding bit put_bit
and_not_bit zero b h l = bytes_agree (λ b. bit_and b 254) (put_bit 0 0) tt b l
and_not_bit (suc zero) b h l = bytes_agree (λ b. bit_and b 253) (put_bit 1 0) tt b l
and_not_bit (suc (suc k)) b h l = absurd (omega arith)

-- so the code's test tells the bit
pub bit_told : (k b : ℕ) → k ≤ 1 → b < 256 → not (eqb (bit_and b (2 ^ k)) 0) ≡ is_set k b
unfolding bit
bit_told zero b h l = classes_agree (λ b. not (eqb (bit_and b 1) 0)) (is_set 0) 0 256 tt b (omega arith) l
bit_told (suc zero) b h l = classes_agree (λ b. not (eqb (bit_and b 2) 0)) (is_set 1) 0 256 tt b (omega arith) l
bit_told (suc (suc k)) b h l = absurd (omega arith)
