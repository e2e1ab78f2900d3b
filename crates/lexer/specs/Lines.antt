-- RULE. Lines: the line of an offset is 1 plus the LFs before it. A CR alone ends none.
use Rattle.std.specs.Prelude.{ℕ, suc, ◌+◌}
use mathlib.Core.{Bool.cond, List.List, List.[], List.◌∷◌}
use lib.{ListN.take, Dec.eqb}

-- the LFs in some bytes
unfoldable pub line_feeds : List ℕ → ℕ
line_feeds [] = 0
line_feeds (b ∷ s) = cond (eqb b 0x0A) (suc (line_feeds s)) (line_feeds s)

-- the line is 1 plus the LFs before the offset
abbrev pub line_of : List ℕ → ℕ → ℕ
line_of doc offset = 1 + line_feeds (take offset doc)

-- the line after one byte
abbrev pub line_behind : ℕ → ℕ → ℕ
line_behind line b = cond (eqb b 0x0A) (suc line) line
