-- The promise of `next_request` admits many answers, and this file proves that: what standard input holds decides which one is
-- given, and no contract can speak of that. The promise says only that the document lies in the line's memory.
use Prim.Native.Nat.{ℕ, ◌≤◌}
use mathlib.Core.Path.{◌≡◌}
use native.Mathlib.Omega.{arith}

-- where the line's memory has one byte, a document of no byte and one of one byte are both admitted
pub next_request : ((x y : ℕ) → x ≤ 1 → y ≤ 1 → x ≡ y) → ⊥
next_request one = let same : ◌≡◌ {A = ℕ} 0 1 = one 0 1 (omega arith) (omega arith) in omega arith
