-- Four bytes as one number, which the compiler reads at once.
-- Assumes nothing.
use Rattle.std.specs.Prelude.{ℕ, ◌+◌, ◌*◌, ◌^◌, List, get_or}

-- the first byte lowest
abbrev pub four_of : ℕ → ℕ → ℕ → ℕ → ℕ
four_of a b c d = (d * 2 ^ 8 + c) * 2 ^ 16 + (b * 2 ^ 8 + a)

abbrev pub four_at : List ℕ → ℕ → ℕ
four_at s i = four_of (get_or s i 0) (get_or s (i + 1) 0) (get_or s (i + 2) 0) (get_or s (i + 3) 0)
