-- The texts of an error by their numbers: the message, then what is expected; and each has at most 43 bytes.
-- Assumes nothing.
use Rattle.std.proofs.Common.{◌≡◌, ℕ, zero, suc, ◌-◌, ◌≤◌, Bool, true, false, ◌&&◌, leb, leb-true, List, [], ◌∷◌, length, map, sym, refl, ap, subst, arith, Option, Some, None, option_map, slice_get, IfSome}
use Rattle.std.specs.Borrow.{Bor}
use Rattle.std.specs.List.{list_all}
use Rattle.std.proofs.lemmas.Option.{slice_get-map}
use Rattle.decoder_rules.specs.declared.Edition.{Edition}
use Rattle.decoder_rules.specs.declared.Edition.TheVariants.{Toml10, Toml11}
use Rattle.decoder_rules.specs.declared.DecodeError.{DecodeError}
use Rattle.decoder_rules.specs.declared.DecodeError.TheVariants.{LiteralMissingQuote, LiteralInvalid, MlLiteralMissingQuote, LoneCr, MlLiteralInvalid, BasicMissingQuote, BasicInvalid, MissingEscape, FewDigits, NotScalar, MlBasicMissingQuote, MlBasicInvalid, MissingNewline, EmptyKey, KeyInvalid}
use Rattle.decoder_words.specs.declared.Said.{Said}
use Rattle.decoder_words.specs.declared.Phrase.{Phrase}
use Rattle.decoder_words.specs.declared.Words.{Words}
use Rattle.decoder_words.specs.Words.{Spoken, Worded, spoken_by, text_by, worded_by, words_of, message, error_message, error_expects, phrase_of}

-- behind the first of a list, number i is number i - 1
pub behind : (m : Spoken) (xs : List Spoken) (i : ℕ) → (i ≡ 0 → ⊥) → slice_get (m ∷ xs) i ≡ slice_get xs (i - 1)
behind m xs zero some = absurd (some refl)
behind m xs (suc i) some = let same : suc i - 1 ≡ i = omega arith in rw same

-- and so a text of an error is the one of that number of what it expects
pub later : (m : Spoken) (ps : List (Said × Bor (List ℕ))) (xs : List Spoken) (i : ℕ) (p : Said × Bor (List ℕ)) → map text_by ps ≡ xs → (i ≡ 0 → ⊥)
    → slice_get ps (i - 1) ≡ Some p → Some (text_by p) ≡ slice_get (m ∷ xs) i
later m ps xs i p list some read = rw (behind m xs i some, ← list, slice_get-map, read)

-- ---- 43 bytes

abbrev is_short : Spoken → Bool
is_short s = leb (length s.text) 43

expects_short : (v : Edition) (e : DecodeError) → list_all is_short (message (error_message e) ∷ error_expects v e) ≡ true
expects_short v LiteralMissingQuote = refl
expects_short v LiteralInvalid = refl
expects_short v MlLiteralMissingQuote = refl
expects_short v LoneCr = refl
expects_short v MlLiteralInvalid = refl
expects_short v BasicMissingQuote = refl
expects_short v BasicInvalid = refl
expects_short Toml10 MissingEscape = refl
expects_short Toml11 MissingEscape = refl
expects_short v FewDigits = refl
expects_short v NotScalar = refl
expects_short v MlBasicMissingQuote = refl
expects_short v MlBasicInvalid = refl
expects_short v MissingNewline = refl
expects_short v EmptyKey = refl
expects_short v KeyInvalid = refl

and_parts : (a b : Bool) → (a && b) ≡ true → (a ≡ true) × (b ≡ true)
and_parts true b h = (refl, h)
and_parts false b h = cc

get_short : (xs : List Spoken) (i : ℕ) → list_all is_short xs ≡ true → IfSome (slice_get xs i) (λ s. length s.text ≤ 43)
get_short [] i all = tt
get_short (x ∷ xs) zero all = leb-true (length x.text) 43 (and_parts _ _ all).0
get_short (x ∷ xs) (suc i) all = get_short xs i (and_parts _ _ all).1

-- a phrase that is said is as short
phrase_short : (p : Option Phrase) (q : Option Spoken) → option_map spoken_by p ≡ q → IfSome q (λ s. length s.text ≤ 43) → IfSome p (λ p. length p.text.now ≤ 43)
phrase_short None q e h = tt
phrase_short (Some p) q e h = let P : Option Spoken → Type 0 = λ q. IfSome q (λ s. length s.text ≤ 43) in subst P (sym e) h

pub words_short : (v : Edition) (e : DecodeError) (which : ℕ) (w : Words) → worded_by w ≡ words_of v e which
    → IfSome w.phrase (λ p. length p.text.now ≤ 43)
unfolding phrase_of
words_short v e which w is =
    phrase_short w.phrase (phrase_of v e which) (ap (λ (x : Worded). x.phrase) is)
    (get_short (message (error_message e) ∷ error_expects v e) which (expects_short v e))
