-- The numbers of the answers of `put_right` and `put_right_in`: which refusal, the number returned, the records, and the second
-- number of refusal 1.
-- Assumes nothing.
use Prim.Native.Nat.{ℕ}
use mathlib.Core.Path.{◌≡◌, refl, ap, ◌∙◌, sym}
use mathlib.Core.Bool.{Bool, cond}
use mathlib.Core.List.{List}
use lib.Dec.{ltb, eqb}
use lib.ListN.{length}
use Rattle.text_classes.proofs.Conds.{cond_case, of_choice}
use Rattle.text_refusals.specs.Refusals.{limit}
use Rattle.text_scalars.specs.Utf8Read.{valid_prefix}
use Rattle.text.specs.CheckMeans.{check_of}
use Rattle.text.specs.Told.{check_fault}
use Rattle.std.specs.Prelude.{Result, Err, ⊤}
use Rattle.text_refusals.specs.Told.{told_number, told_length}
use Rattle.text_refusals.specs.declared.Refusal.{Refusal}
use Rattle.text_refusals.specs.declared.Refusal.TheVariants.{NoEdition}
use Rattle.built_mending.specs.declared.Mended.{Mended}
use Rattle.built_mending.specs.Mending.{mended, listed, fit_both, mended_by, mend_in}
use Rattle.built_mending.specs.Told.{mended_value, mended_records, mend_refusal, mend_returned, mend_noted}
use Rattle.decoder_rules.specs.Encodings.{is_edition}

-- ---- of a text and records that are to be written

module _ (text : List ℕ) (new : List (List ℕ)) (o m : ℕ) where
  fit_number : told_number (fit_both text new o m)
      ≡ cond (ltb limit (length text)) 2 (cond (ltb o (length text)) 4 (cond (ltb m (length new)) 5 0))
  unfolding fit_both
  fit_number =
      of_choice told_number (ltb limit (length text)) refl
      (of_choice told_number (ltb o (length text)) refl (of_choice told_number (ltb m (length new)) refl refl))

  fit_value : mended_value (fit_both text new o m)
      ≡ cond (ltb limit (length text)) limit
      (cond (ltb o (length text)) (length text) (cond (ltb m (length new)) (length new) (length text)))
  unfolding fit_both
  fit_value =
      of_choice mended_value (ltb limit (length text)) refl
      (of_choice mended_value (ltb o (length text)) refl (of_choice mended_value (ltb m (length new)) refl refl))

  fit_length : told_length (fit_both text new o m) ≡ 0
  unfolding fit_both
  fit_length =
      let P : Result Mended Refusal → Type 0 = λ r. told_length r ≡ 0 in
      cond_case P (ltb limit (length text)) (λ _. refl)
      (λ _. cond_case P (ltb o (length text)) (λ _. refl) (λ _. cond_case P (ltb m (length new)) (λ _. refl) (λ _. refl)))

  -- the records are told exactly where the number is 0
  abbrev Noted : Result Mended Refusal → Type 0
  Noted r = mended_records r ≡ cond (eqb (told_number r) 0) (length new) 0

  fit_noted : Noted (fit_both text new o m)
  unfolding fit_both
  fit_noted =
      cond_case Noted (ltb limit (length text)) (λ _. refl)
      (λ _. cond_case Noted (ltb o (length text)) (λ _. refl) (λ _. cond_case Noted (ltb m (length new)) (λ _. refl) (λ _. refl)))

-- ---- the promises, from the answer

module _ (doc : List ℕ) (edition o m : ℕ) (r : Result Mended Refusal) (is : r ≡ mend_in doc edition o m) where
  abbrev text : List ℕ
  text = mended edition doc

  abbrev new : List (List ℕ)
  new = listed edition doc

  abbrev long : Bool
  long = ltb limit (length doc)

  abbrev whole : Bool
  whole = eqb (valid_prefix doc) (length doc)

  number_is : told_number r ≡ mend_refusal doc edition o m
  unfolding mend_in check_of
  number_is =
      let number : Result ⊤ Refusal → ℕ = λ u. told_number (mended_by u doc edition o m) in
      ap told_number is
      ∙ of_choice number long refl (of_choice number whole (of_choice told_number (is_edition edition) (fit_number text new o m) refl) refl)

  value_is : mended_value r ≡ mend_returned doc edition o m
  unfolding mend_in check_of
  value_is =
      let value : Result ⊤ Refusal → ℕ = λ u. mended_value (mended_by u doc edition o m) in
      ap mended_value is
      ∙ of_choice value long refl (of_choice value whole (of_choice mended_value (is_edition edition) (fit_value text new o m) refl) refl)

  length_is : told_length r ≡ check_fault doc
  unfolding mend_in check_of
  length_is =
      let fault : Result ⊤ Refusal → ℕ = λ u. told_length (mended_by u doc edition o m) in
      let none : told_length (cond (is_edition edition) (fit_both text new o m) (Err (NoEdition edition))) ≡ 0 =
      cond_case (λ (x : Result Mended Refusal). told_length x ≡ 0) (is_edition edition) (λ _. fit_length text new o m) (λ _. refl) in
      ap told_length is ∙ of_choice fault long refl (of_choice fault whole none refl)

  all_noted : Noted text new o m (mend_in doc edition o m)
  unfolding mend_in check_of
  all_noted =
      let P : Result Mended Refusal → Type 0 = Noted text new o m in
      let Q : Result ⊤ Refusal → Type 0 = λ u. P (mended_by u doc edition o m) in
      cond_case Q long (λ _. refl)
      (λ _. cond_case Q whole
      (λ _. cond_case P (is_edition edition) (λ _. fit_noted text new o m) (λ _. refl)) (λ _. refl))

  noted_is : mended_records r ≡ mend_noted doc edition o m
  noted_is =
      ap mended_records is ∙ all_noted
      ∙ ap (λ (n : ℕ). cond (eqb n 0) (length new) 0) (sym (ap told_number is) ∙ number_is)

  pub told : {A B : Type 0} → A → B
      → record {
        answer : r ≡ mend_in doc edition o m;
        output : A;
        records : B;
        number : told_number r ≡ mend_refusal doc edition o m;
        value : mended_value r ≡ mend_returned doc edition o m;
        noted : mended_records r ≡ mend_noted doc edition o m;
        length : told_length r ≡ check_fault doc;
      }
  told out recs =
      record {
        answer = is;
        output = out;
        records = recs;
        number = number_is;
        value = value_is;
        noted = noted_is;
        length = length_is;
      }
