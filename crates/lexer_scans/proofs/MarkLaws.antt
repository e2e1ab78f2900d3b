-- Marks at a place of the document.
-- Assumes nothing.
use Prim.Native.Nat.{ℕ, ◌+◌}
use mathlib.Core.Path.{◌≡◌, refl}
use mathlib.Core.Bool.{false, cond, ◌&&◌}
use mathlib.Core.List.{List}
use lib.Dec.{eqb}
use lib.ListN.{get_or, drop}
use lib.Seq.{drop-drop}
use Rattle.text_classes.specs.Runs.{stands}
use Rattle.text_classes.proofs.FirstLaws.{first_at}
use Rattle.lexer_scans.specs.Extents.{up_to_two, newline_tail}

-- a byte that is not 0 stands at a place where `get_or` gives it
pub stands_at : (q : ℕ) → eqb 0 q ≡ false → (s : List ℕ) (i : ℕ) → stands q (drop i s) ≡ eqb (get_or s i 0) q
stands_at q none s i = first_at (λ b. eqb b q) none s i

pub up_to_two_at : (q : ℕ) (s : List ℕ) (i : ℕ)
    → up_to_two q (drop i s) ≡ cond (stands q (drop i s)) (cond (stands q (drop (i + 1) s)) 2 1) 0
unfolding up_to_two
up_to_two_at q s i = rw (drop-drop 1 i s)

pub newline_tail_at : (s : List ℕ) (i : ℕ) → newline_tail (drop i s) ≡ cond (eqb (get_or s i 0) 13 && eqb (get_or s (i + 1) 0) 10) 1 0
unfolding newline_tail
newline_tail_at s i = rw (drop-drop 1 i s, stands_at 13 refl s i, stands_at 10 refl s (i + 1))
