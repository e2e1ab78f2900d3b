-- `is_token_start` is right because the bits of its first number are off only where the class has no byte, those of the
-- second and the class agree on the bytes below 64, both by a computed test, and its four brackets are the class above.
use Prim.Native.Nat.{ℕ, ◌/◌, ◌^◌, ◌<◌}
use mathlib.Core.Path.{◌≡◌, sym, ap, ◌∙◌}
use mathlib.Core.Bool.{Bool, false, cond}
use native.Mathlib.Omega.{arith}
use borrow.Author.Tests.{eq-eqb}
use lib.Dec.{eqb}
use lib.Bits.{bit_and}
use Rattle.text_classes.specs.Classes.{token_start}
use Rattle.text_classes.proofs.ByteTable.{classes_agree}
use Rattle.text_classes.proofs.is_token_start.Goals as goal

-- the bit of the first number at the low six bits of a byte
abbrev low_bit : ℕ → ℕ
low_bit n = bit_and (0x2800508d28002600 / 2 ^ bit_and n 63) 1

abbrev told : ℕ → Bool
told n = cond (eqb (low_bit n) 0) false (token_start n)

agree : (b : ℕ) → b < 256 → told b ≡ token_start b
unfolding token_start
agree b h = classes_agree told token_start 0 256 tt b (omega arith) h

-- where it is off, the byte is not in the class
off : (b : ℕ) → b < 256 → low_bit b ≡ 0 → false ≡ token_start b
off b h e = ap (λ (t : Bool). cond t false (token_start b)) (sym (eq-eqb _ _ e)) ∙ agree b h

-- the bit of the second number at a byte
abbrev bit : ℕ → Bool
bit n = eqb (bit_and (0x2000500900002600 / 2 ^ n) 1) 1

pub returns-then-b-lt64 : goal.returns-then-b-lt64
unfolding token_start
returns-then-b-lt64 c =
    let b = c.args.b in
    ap bit c.from-then-b-lt64.ensures ∙ classes_agree bit token_start 0 64 tt b (omega arith) (omega arith)
