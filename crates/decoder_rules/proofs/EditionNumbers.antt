-- What the number of an edition is read as.
-- Assumes nothing.
use Rattle.std.specs.Prelude.{Result, Ok, Err}
use Prim.Native.Nat.{ℕ}
use mathlib.Core.Path.{◌≡◌, refl, sym, subst}
use mathlib.Core.Bool.{true, false}
use borrow.Author.Tests.{eq-eqb, ne_eqb}
use lib.Dec.{eqb}
use Rattle.text_classes.proofs.Conds.{by_eq, or_left, or_right}
use Rattle.text_refusals.specs.declared.Refusal.{Refusal}
use Rattle.text_refusals.specs.declared.Refusal.TheVariants.{NoEdition}
use Rattle.decoder_rules.specs.declared.Edition.{Edition}
use Rattle.decoder_rules.specs.declared.Edition.TheVariants.{Toml10, Toml11}
use Rattle.decoder_rules.specs.Encodings.{edition_number, is_edition, edition_of}

none_has : (n : ℕ) → (n ≡ 10 → ⊥) → (n ≡ 11 → ⊥) → (v : Edition) → edition_number v ≡ n → ⊥
none_has n a b Toml10 e = a (sym e)
none_has n a b Toml11 e = b (sym e)

-- an edition and its number, or the refusal of a number that no edition has
pub data OfNumber (n : ℕ) : Result Edition Refusal → Type 0 where
  known : (v : Edition) → edition_number v ≡ n → OfNumber n (Ok v)
  unknown : ((v : Edition) → edition_number v ≡ n → ⊥) → OfNumber n (Err (NoEdition n))

pub of_number : (n : ℕ) → OfNumber n (edition_of n)
unfolding edition_of
of_number n =
    by_eq (OfNumber n) n 10 (λ e. OfNumber.known Toml10 (sym e))
    (λ a. by_eq (OfNumber n) n 11 (λ e. OfNumber.known Toml11 (sym e)) (λ b. OfNumber.unknown (none_has n a b)))

-- the same, by what the code reads it as
pub as_read : (n : ℕ) (r : Result Edition Refusal) → r ≡ edition_of n → OfNumber n r
as_read n r e = subst (OfNumber n) (sym e) (of_number n)

pub edition_is : (v : Edition) (n : ℕ) → edition_number v ≡ n → is_edition n ≡ true
edition_is Toml10 n e = or_left _ _ (eq-eqb n 10 (sym e))
edition_is Toml11 n e = or_right (eqb n 10) _ (eq-eqb n 11 (sym e))

pub not_edition : (n : ℕ) → ((v : Edition) → edition_number v ≡ n → ⊥) → is_edition n ≡ false
not_edition n h = rw (ne_eqb n 10 (λ e. h Toml10 (sym e)), ne_eqb n 11 (λ e. h Toml11 (sym e))) refl

-- a number that is read as an edition is one's, and only a number that is none's is refused
module _ (n : ℕ) where
  pub named_number : (v : Edition) → Ok v ≡ edition_of n → edition_number v ≡ n
  named_number v e = go (as_read n (Ok v) e)
    where
      go : OfNumber n (Ok v) → edition_number v ≡ n
      go (OfNumber.known w f) = f

  pub named_is : (v : Edition) → Ok v ≡ edition_of n → is_edition n ≡ true
  named_is v e = edition_is v n (named_number v e)

  pub unnamed_is : (r : Refusal) → Err r ≡ edition_of n → (is_edition n ≡ false) × (r ≡ NoEdition n)
  unnamed_is r e = go (as_read n (Err r) e)
    where
      go : {x : Refusal} → OfNumber n (Err x) → (is_edition n ≡ false) × (x ≡ NoEdition n)
      go (OfNumber.unknown f) = (not_edition n f, refl)
