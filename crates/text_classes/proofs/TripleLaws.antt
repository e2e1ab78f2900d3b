-- Three marks at a place.
-- Assumes nothing.
use Prim.Native.Nat.{ℕ, ◌+◌, ◌≤◌}
use mathlib.Core.Path.{◌≡◌}
use mathlib.Core.Bool.{true, ◌&&◌}
use mathlib.Core.List.{List}
use native.Mathlib.Omega.{arith}
use lib.ListN.{length, get_or, drop, length-drop}
use lib.Seq.{drop-drop}
use Rattle.text_classes.specs.Runs.{stands, triple}
use Rattle.text_classes.proofs.Conds.{both_left, both_right}
use Rattle.text_classes.proofs.FirstLaws.{stands_there}

-- the first three bytes are marks, and there is room for them
module _ (q : ℕ) (s : List ℕ) (t : triple q s ≡ true) where
  pub triple_bytes : (get_or s 0 0 ≡ q) × (get_or s 1 0 ≡ q) × (get_or s 2 0 ≡ q)
  unfolding triple
  triple_bytes =
      let rest = both_right (stands q s) _ t in (
        (stands_there q s 0 (both_left (stands q s) _ t)).1,
        (stands_there q s 1 (both_left (stands q (drop 1 s)) _ rest)).1,
        (stands_there q s 2 (both_right (stands q (drop 1 s)) _ rest)).1,
      )

  pub triple_fits : 3 ≤ length s
  unfolding triple
  triple_fits = (stands_there q s 2 (both_right (stands q (drop 1 s)) _ (both_right (stands q s) _ t))).0

module _ (q : ℕ) (s : List ℕ) (i : ℕ) where
  pub triple_fits_at : triple q (drop i s) ≡ true → i + 3 ≤ length s
  triple_fits_at t = omega (arith, triple_fits q (drop i s) t, length-drop i s)

  -- each stands at its place
  pub triple_at : triple q (drop i s) ≡ (stands q (drop i s) && (stands q (drop (i + 1) s) && stands q (drop (i + 2) s)))
  unfolding triple
  triple_at = rw (drop-drop 1 i s, drop-drop 2 i s)
