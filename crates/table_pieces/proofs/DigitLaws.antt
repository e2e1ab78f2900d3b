-- The digits of a hex escape, where they are known to be there: the value of each, and what the loop over them meets.
-- Assumes nothing.
use Prim.Native.Nat.{ℕ, ◌+◌, ◌*◌, ◌/◌, ◌%◌, ◌<◌}
use mathlib.Core.Path.{◌≡◌, sym}
use mathlib.Core.Bool.{true, not, ◌||◌}
use native.Mathlib.Omega.{arith}
use borrow.Author.Tests.{eqb-true}
use lib.Dec.{eqb}
use Rattle.text_classes.specs.Classes.{hexdig}
use Rattle.text_classes.proofs.ByteTable.{class_is}
use Rattle.decoder_rules.specs.Escapes.{hex_value}

-- the low four bits of a digit, and 9 more for a letter
value_test : (b : ℕ) → b < 256 → true ≡ (not (hexdig b) || eqb (b % 16 + 9 * (b / 64)) (hex_value b))
unfolding hexdig hex_value
value_test b h = class_is true (λ n. not (hexdig n) || eqb (n % 16 + 9 * (n / 64)) (hex_value n)) 0 256 tt b (omega arith) h

pub value_of : (b : ℕ) → b < 256 → hexdig b ≡ true → b % 16 + 9 * (b / 64) ≡ hex_value b
value_of b h e = eqb-true _ _ (sym (rw e at (value_test b h)))
