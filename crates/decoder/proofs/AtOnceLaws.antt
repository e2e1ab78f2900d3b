-- The texts that are decoded ahead of the check, without a pass over pieces: a plain line, a plain key, a short string.
-- Assumes nothing.
use Rattle.std.proofs.Common.{◌≡◌, ℕ, Option, Some, None, MatchOption, true, false, Result, Ok, Err, List, length, sym, refl, inl, inr, arith, lt-ltb, le-ltb}
use Rattle.std.specs.Result.{is_ok}
use native.Mathlib.Decide.{dec_lt}
use Rattle.text_refusals.specs.declared.Refusal.{Refusal}
use Rattle.decoder_rules.proofs.PlainLaws.{Named, Plain, BodyCopied, middle, middle_long, plain_decodes}
use Rattle.decoder_rules.specs.declared.Edition.{Edition}
use Rattle.decoder_rules.specs.declared.Edition.TheVariants.{Toml10, Toml11}
use Rattle.decoder_rules.specs.Encodings.{edition_of}
use Rattle.decoder_rules.proofs.EditionNumbers.{named_number}
use Rattle.decoder_rules.proofs.KeyLaws.{PlainKey, WholeCopied, key_decodes}
use Rattle.decoder_rules.proofs.StoreLaws.{front_long, overwritten}
use Rattle.decoder_short.specs.Letters.{Written, simple_bytes, body_from}
use Rattle.decoder.specs.AtOnce.{AtOnce}
use Rattle.decoder_writing.specs.Copies.{fitting, copied_to}
use Rattle.decoder_short.proofs.ShortLaws.{short_decodes}

module _ (edition kind : ℕ) (t old out : List ℕ) (named : Named edition) where
  pub plain_at_once : (r : Option ℕ) → MatchOption r (out ≡ old) (BodyCopied (Plain kind t) t old out)
      → MatchOption r (out ≡ old) (AtOnce edition kind t old out)
  plain_at_once None c = c
  plain_at_once (Some n) c =
      record {
        body = middle n t;
        decodes = plain_decodes t edition kind n named c.size c.is;
        size = middle_long n t c.size;
        room = c.room;
        holds = c.holds;
      }

  pub key_at_once : kind ≡ 3 → (r : Option ℕ) → MatchOption r (out ≡ old) (WholeCopied t old out)
      → MatchOption r (out ≡ old) (AtOnce edition kind t old out)
  key_at_once k None c = c
  key_at_once k (Some n) c =
      record { body = t; decodes = key_decodes t c.key edition kind named k; size = sym c.size; room = c.room; holds = c.holds }

  pub short_at_once : kind ≡ 34 → (r : Option ℕ) → MatchOption r (out ≡ old) (Written t old out)
      → MatchOption r (out ≡ old) (AtOnce edition kind t old out)
  short_at_once k None c = c
  short_at_once k (Some n) c =
      let size = front_long c.stored in
      record {
        body = simple_bytes false (body_from t 1);
        decodes = short_decodes t edition kind named k c.short;
        size = sym size;
        room = c.room;
        holds = rw (← size) at (overwritten c.stored (omega (arith, size, c.room)));
      }

-- a number that is read as an edition names it
pub named_by : (n : ℕ) (r : Result Edition Refusal) → is_ok r ≡ true → r ≡ edition_of n → Named n
named_by n (Ok Toml10) ok is = inl (sym (named_number n Toml10 is))
named_by n (Ok Toml11) ok is = inr (sym (named_number n Toml11 is))
named_by n (Err r) ok is = cc

-- a key that was copied whole, where there was room
pub key_copied : (t old : List ℕ) (r : Option ℕ) (out : List ℕ) → PlainKey t → r ≡ fitting t old → out ≡ copied_to t old
    → MatchOption r (out ≡ old) (WholeCopied t old out)
unfolding fitting copied_to
key_copied t old r out key size holds =
    elim (dec_lt (length old) (length t)) [
      | yes l ↦ let short = lt-ltb (length old) (length t) l in rw (size, short) (rw short at holds)
      | no l ↦
          let fits = le-ltb (length old) (length t) (omega arith) in
          rw (size, fits) (record { key = key; size = refl; room = omega arith; holds = rw fits at holds })
    ]
