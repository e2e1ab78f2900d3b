-- What the code reads of hex digits. Not to be believed: `digit_of` is `hexdig` and `hex_value` in one, and no promise of a public
-- function cites `HexRead`.
-- Assumes nothing.
use Rattle.std.specs.Prelude.{◌≡◌, ℕ, ◌<◌, ◌≤◌, cond, Option, Some, None, Result, MatchResult, List, take}
use Rattle.text_classes.specs.Classes.{hexdig}
use Rattle.text_classes.specs.Runs.{run}
use Rattle.decoder_rules.specs.Escapes.{hex_value, hex_from}

-- the value of a hex digit; none of any other byte
abbrev pub digit_of : ℕ → Option ℕ
digit_of b = cond (hexdig b) (Some (hex_value b)) None

-- n digits are there, and v is their number
pub record HexAll (n : ℕ) (s : List ℕ) (v : ℕ) : Type 0 where
  pub enough : n ≤ run hexdig s
  pub number : v ≡ hex_from 0 (take n s)

-- only k are
pub record HexFew (n : ℕ) (s : List ℕ) (k : ℕ) : Type 0 where
  pub few : k < n
  pub found : k ≡ run hexdig s

-- the digits that s begins with, of which n are asked for
abbrev pub HexRead : ℕ → List ℕ → Result ℕ ℕ → Type 0
HexRead n s r = MatchResult r (HexAll n s) (HexFew n s)
