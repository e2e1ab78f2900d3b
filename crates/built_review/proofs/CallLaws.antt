-- What the functions promise is what the calls of specs/Apart.antt tell and leave: so the theorems over lists of calls are
-- about the functions. Each is of the function's own contract, what a caller learns of its `ensures`.
-- Assumes nothing.
use Prim.Native.Nat.{ℕ}
use mathlib.Core.Path.{◌≡◌, refl, ap}
use mathlib.Core.List.{List}
use lib.ListN.{length}
use Rattle.built_review.specs.Apart.{ReviewCall, tick, untick, is_ticked, ticks, CallAnswer, marked, read, counted, tells, leaves}
use Rattle.built_review.proofs as promised

-- a call tells so much and leaves such a table
abbrev Makes : ReviewCall → ℕ → List ℕ → CallAnswer → List ℕ → Type 0
Makes c records marks told table = (told ≡ tells records marks c) × (table ≡ leaves records marks c)

-- A promise is about a function's lifetimes, its arguments, its result, and what its parameters hold at exit.
module _ {L : Type 0} {A R S : L → Type 0} (Promise : (κs : L) → A κs → R κs → S κs → Type 0) where
  abbrev Is : ((κs : L) → A κs → R κs → S κs → Type 0) → Type 0
  Is Says = (κs : L) (a : A κs) (r : R κs) (s : S κs) → Promise κs a r s → Says κs a r s

pub tick_makes : Is promised.tick.Reads.Learnt
    (λ κs a r s. Makes (tick a.1.1.0 a.1.1.1.0) (length a.0.now) a.1.0.now (marked r) s.1.0.now)
tick_makes κs a r s p = (ap marked p.0, p.1.1.1)

pub untick_makes : Is promised.untick.Reads.Learnt
    (λ κs a r s. Makes (untick a.1.1.0 a.1.1.1.0) (length a.0.now) a.1.0.now (marked r) s.1.0.now)
untick_makes κs a r s p = (ap marked p.0, p.1.1.1)

-- these two are lent the table to read only: it stays as it was
pub is_ticked_makes : Is promised.is_ticked.Reads.Learnt
    (λ κs a r s. Makes (is_ticked a.1.1.0 a.1.1.1.0) (length a.0.now) a.1.0.now (read r) a.1.0.now)
is_ticked_makes κs a r s p = (ap read p.0, refl)

pub ticks_makes : Is promised.ticks.Reads.Learnt
    (λ κs a r s. Makes (ticks a.1.1.0) (length a.0.now) a.1.0.now (counted r) a.1.0.now)
ticks_makes κs a r s p = (ap counted p.0, refl)
