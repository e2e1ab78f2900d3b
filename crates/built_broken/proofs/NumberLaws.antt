-- The answer of `first_broken_in`, refusal by refusal, and its numbers: which refusal, the number returned, and the second number of
-- refusal 1.
-- Assumes nothing.
use Prim.Native.Nat.{ℕ, ◌≤◌, ◌<◌}
use mathlib.Core.Path.{◌≡◌, refl, sym, ap, ◌∙◌, subst}
use mathlib.Core.Bool.{Bool, true, false, cond}
use mathlib.Core.List.{List, [], ◌∷◌}
use Rattle.std.specs.Prelude.{Some, None, Result, Ok, Err}
use borrow.Author.Tests.{lt-ltb, le-ltb, eq-eqb, ne_eqb}
use lib.Dec.{ltb, eqb}
use lib.ListN.{length}
use Rattle.text_classes.proofs.Conds.{by_eq, of_choice, or_left, or_right}
use Rattle.text_refusals.specs.Refusals.{limit}
use Rattle.text_refusals.specs.declared.Refusal.TheVariants.{TooLong, NoEdition}
use Rattle.lexer_token.specs.declared.Token.{Token}
use Rattle.lexer_token.specs.Records.{text_of}
use Rattle.lexer.specs.Tokens.{tokens_of}
use Rattle.built_broken.specs.Broken.{BrokenFound, is_utf8, token_errors, broken_by, not_utf8, first_among, broken_answer}
use Rattle.built_broken.specs.Told.{unbroken, refused_among, broken_refusal, broken_returned, broken_fault}
use Rattle.text_refusals.specs.Told.{told_number, told_value, told_length}
use Rattle.text_refusals.specs.declared.Refusal.{Refusal}
use Rattle.decoder_rules.specs.declared.Edition.{Edition}
use Rattle.decoder_rules.specs.Encodings.{edition_number, edition_of}
use Rattle.built_broken.specs.declared.FirstError.{FirstError}
use Rattle.decoder_rules.specs.Encodings.{is_edition}

-- ---- the answer

module _ (doc : List ℕ) (edition : ℕ) where
  pub answer_long : limit < length doc → Err TooLong ≡ broken_answer doc edition
  unfolding broken_answer
  answer_long h = rw (lt-ltb limit (length doc) h)

  pub answer_among : length doc ≤ limit → is_edition edition ≡ true → first_among doc edition (tokens_of doc) ≡ broken_answer doc edition
  unfolding broken_answer
  answer_among h e = rw (le-ltb limit (length doc) h, e)

  pub answer_unnamed : length doc ≤ limit → is_edition edition ≡ false → Err (NoEdition edition) ≡ broken_answer doc edition
  unfolding broken_answer
  answer_unnamed h e = rw (le-ltb limit (length doc) h, e)

edition_10 : (n : ℕ) → n ≡ 10 → is_edition n ≡ true
edition_10 n e = or_left _ (eqb n 11) (eq-eqb n 10 e)

edition_11 : (n : ℕ) → n ≡ 11 → is_edition n ≡ true
edition_11 n e = or_right (eqb n 10) _ (eq-eqb n 11 e)

edition_none : (n : ℕ) → (n ≡ 10 → ⊥) → (n ≡ 11 → ⊥) → is_edition n ≡ false
edition_none n a b = rw (ne_eqb n 10 a, ne_eqb n 11 b)

-- by the edition that the number names, or the refusal of a number that names none
module _ (doc : List ℕ) (edition : ℕ) (small : length doc ≤ limit) where
  abbrev pub Told : Result Edition Refusal → Type 0
  Told (Ok v) = first_among doc (edition_number v) (tokens_of doc) ≡ broken_answer doc edition
  Told (Err r) = Err r ≡ broken_answer doc edition

  same : (n : ℕ) → edition ≡ n → is_edition edition ≡ true → first_among doc n (tokens_of doc) ≡ broken_answer doc edition
  same n is named = ap (λ (k : ℕ). first_among doc k (tokens_of doc)) (sym is) ∙ answer_among doc edition small named

  pub answer_by : (x : Result Edition Refusal) → x ≡ edition_of edition → Told x
  unfolding edition_of
  answer_by x e =
      subst Told (sym e)
      (by_eq Told edition 10 (λ is. same 10 is (edition_10 edition is))
      (λ a. by_eq Told edition 11 (λ is. same 11 is (edition_11 edition is))
      (λ b. answer_unnamed doc edition small (edition_none edition a b))))

-- ---- a number that is 0 where the call answers

module _ (doc : List ℕ) (edition : ℕ) (f : BrokenFound → ℕ) (broken : (t : Token) (e : FirstError) → f (Ok (Some (t, e))) ≡ 0)
    (sound : f (Ok None) ≡ 0) where
  of_token : (t : Token) (readable : Bool) (errors : List (List ℕ)) (answer : BrokenFound) (refused : Bool)
      → f answer ≡ cond refused (f (not_utf8 doc)) 0
      → f (cond readable (broken_by t errors answer) (not_utf8 doc))
      ≡ cond (cond readable (unbroken errors refused false) true) (f (not_utf8 doc)) 0
  of_token t true [] answer refused e = e
  of_token t true (x ∷ xs) answer refused e = broken t _
  of_token t false errors answer refused e = refl

  among : (ts : List Token) → f (first_among doc edition ts) ≡ cond (refused_among doc edition ts) (f (not_utf8 doc)) 0
  unfolding first_among refused_among
  among [] = sound
  among (t ∷ ts) = of_token t (is_utf8 (text_of doc t)) (token_errors doc edition t) _ _ (among ts)

-- ---- the four promises, from the answer

pub found : (doc : List ℕ) (edition : ℕ) (r : BrokenFound) → r ≡ broken_answer doc edition
    → record {
      answer : r ≡ broken_answer doc edition;
      number : told_number r ≡ broken_refusal doc edition;
      value : told_value r ≡ broken_returned doc edition;
      length : told_length r ≡ broken_fault doc edition;
    }
unfolding broken_answer
found doc edition r is =
    let long = ltb limit (length doc) in
    let named = is_edition edition in
    let ts = tokens_of doc in
    let number = among doc edition told_number (λ t e. refl) refl ts in
    let value = among doc edition told_value (λ t e. refl) refl ts in
    let fault = among doc edition told_length (λ t e. refl) refl ts in
    record {
      answer = is;
      number = ap told_number is ∙ of_choice told_number long refl (of_choice told_number named number refl);
      value = ap told_value is ∙ of_choice told_value long refl (of_choice told_value named value refl);
      length = ap told_length is ∙ of_choice told_length long refl (of_choice told_length named fault refl);
    }
