-- What `tally` promises is what `tallied` says: so the theorems of specs/Totals.antt are about the function. It is of the function's
-- own contract, what a caller learns of its `ensures`.
use mathlib.Core.Path.{◌≡◌}
use Rattle.built_figures.specs.Figures.{tallied}
use Rattle.built_figures.proofs as promised

-- A promise is about a function's lifetimes, its arguments, its result, and what its parameters hold at exit.
module _ {L : Type 0} {A R S : L → Type 0} (Promise : (κs : L) → A κs → R κs → S κs → Type 0) where
  abbrev Is : ((κs : L) → A κs → R κs → S κs → Type 0) → Type 0
  Is Says = (κs : L) (a : A κs) (r : R κs) (s : S κs) → Promise κs a r s → Says κs a r s

pub tally_makes : Is promised.tally.Reads.Learnt (λ κs a r s. r ≡ tallied a.0.now a.1.0)
tally_makes κs a r s p = p.0
