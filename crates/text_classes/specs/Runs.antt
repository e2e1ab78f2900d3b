-- RULE. Bytes that pass a test: how many at the front do, and whether the first does; a byte and three of it at the front.
use Rattle.std.specs.Prelude.{ℕ, suc}
use mathlib.Core.{Bool.Bool, Bool.false, Bool.cond, Bool.◌&&◌, List.List, List.[], List.◌∷◌}
use lib.{ListN.drop, Dec.eqb}

-- how many bytes at the front pass the test, up to the first that does not
unfoldable pub run : (ℕ → Bool) → List ℕ → ℕ
run p [] = 0
run p (b ∷ s) = cond (p b) (suc (run p s)) 0

-- a byte stands at the front, and passes the test
abbrev pub first_is : (ℕ → Bool) → List ℕ → Bool
first_is p [] = false
first_is p (b ∷ s) = p b

-- the byte q stands at the front
abbrev pub stands : ℕ → List ℕ → Bool
stands q s = first_is (λ b. eqb b q) s

-- three marks q stand at the front
unfoldable pub triple : ℕ → List ℕ → Bool
triple q s = stands q s && (stands q (drop 1 s) && stands q (drop 2 s))
