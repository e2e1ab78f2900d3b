-- STATEMENT. What a caller keeps as numbers stands for the very state that a call gave: handed in at the next call, it is that
-- state. So calls in numbers go on from one another as calls on states do, whatever numbers the first was handed. Proved in
-- proofs/KeptLaws.antt.
use Rattle.std.specs.Prelude.{ℕ}
use mathlib.Core.{Path.◌≡◌, List.List}
use Rattle.built_parts.specs.{Feeding.no_parts, Feeding.feed_of, Feeding.close_of}
use Rattle.built_parts.specs.declared.{Parts.Parts}
use Rattle.library_parts.specs.{Numbers.state_numbers, Numbers.parts_from}

-- a state whose numbers stand for it
abbrev pub Kept : Parts → Type 0
Kept p = parts_from (state_numbers p) ≡ p

-- the state before the first part; the one after a part and after the closing word, from a state of any numbers, refused or not
pub record StatesKept : Type 0 where
  pub start : Kept no_parts
  pub feed : (numbers part : List ℕ) (room : ℕ) → Kept (feed_of (parts_from numbers) part room).parts
  pub close : (numbers : List ℕ) (room : ℕ) → Kept (close_of (parts_from numbers) room).parts
