-- What the functions promise is what specs/ValuesTell.antt speaks of: so its theorems are about the functions. Each is of the
-- function's own contract, what a caller learns of its `ensures`.
use Rattle.decoder_rules.specs.declared.Edition.TheVariants.{Toml10}
use Rattle.decoder_rules.specs.Encodings.{edition_number}
use Rattle.built_values.proofs.is_value.Reads as is_value
use Rattle.built_values.proofs.is_value_in.Reads as is_value_in
use Rattle.theorems_values.specs.ValuesTell.{Tells}
use Rattle.theorems_values.proofs.TellLaws.{tells}

-- A promise is about a function's lifetimes, its arguments, its result, and what its parameters hold at exit.
module _ {L : Type 0} {A R S : L → Type 0} (Promise : (κs : L) → A κs → R κs → S κs → Type 0) where
  abbrev Is : ((κs : L) → A κs → R κs → S κs → Type 0) → Type 0
  Is Says = (κs : L) (a : A κs) (r : R κs) (s : S κs) → Promise κs a r s → Says κs a r s

pub is_value_tells : Is is_value.Learnt (λ κs a r s. Tells a.0.now (edition_number Toml10) a.1.0 a.1.1.0 r)
is_value_tells κs a r s p = tells a.0.now (edition_number Toml10) a.1.0 a.1.1.0 r p.0

pub is_value_in_tells : Is is_value_in.Learnt (λ κs a r s. Tells a.0.now a.1.0 a.1.1.0 a.1.1.1.0 r)
is_value_in_tells κs a r s p = tells a.0.now a.1.0 a.1.1.0 a.1.1.1.0 r p.0
