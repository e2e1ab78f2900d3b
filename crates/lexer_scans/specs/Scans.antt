-- What the helpers promise: what a search is for, and what it knows of a block. None of it is a rule: no promise of a public
-- function cites it.
-- Assumes nothing.
use Rattle.std.specs.Prelude.{ℕ, ◌+◌, ◌≤◌, ◌<◌, ◌≡◌, Bool, false, not, ◌||◌, List, eqb, get_or, drop}
use Rattle.text_classes.specs.Runs.{run}
use Rattle.text_classes.proofs.RunLaws.{Block}

-- x is one of two bytes, or of three
abbrev pub is_two : ℕ → ℕ → ℕ → Bool
is_two a b x = eqb x a || eqb x b

abbrev pub is_three : ℕ → ℕ → ℕ → ℕ → Bool
is_three a b c x = eqb x a || (eqb x b || eqb x c)

-- x is any byte but the one sought, the two or the three
abbrev pub but_one : ℕ → ℕ → Bool
but_one a x = not (eqb x a)

abbrev pub but_two : ℕ → ℕ → ℕ → Bool
but_two a b x = not (is_two a b x)

abbrev pub but_three : ℕ → ℕ → ℕ → ℕ → Bool
but_three a b c x = not (is_three a b c x)

-- of the block of w bytes of s from i on the first n pass the test, and the byte after them does not, unless they are all
abbrev pub Clear : (ℕ → Bool) → List ℕ → ℕ → ℕ → ℕ → Type 0
Clear p s i w n = (n ≤ w) × Block p s i n × (n < w → p (get_or s (i + n) 0) ≡ false)

-- a search that has gone over all before the place i ends where it did from `start` on
abbrev pub GoesOn : (ℕ → Bool) → List ℕ → ℕ → ℕ → Type 0
GoesOn p s start i = (start ≤ i) × (i + run p (drop i s) ≡ start + run p (drop start s))
