-- The numbers of `write_value`'s answer: which refusal, the number returned, and the second number of refusal 1.
-- Assumes nothing.
use Rattle.std.specs.Prelude.{Result, ⊤}
use Rattle.std.proofs.Common.{◌≡◌, ℕ, cond, eqb, ltb, List, length, refl, ap, ◌∙◌}
use Rattle.text_classes.proofs.Conds.{cond_case, of_choice}
use Rattle.text_refusals.specs.Refusals.{limit}
use Rattle.text_scalars.specs.Utf8Read.{valid_prefix}
use Rattle.text.specs.CheckMeans.{check_of}
use Rattle.text.specs.Told.{check_fault}
use Rattle.text_refusals.specs.declared.Refusal.{Refusal}
use Rattle.text_refusals.specs.Told.{told_number, told_count, told_length}
use Rattle.built_writing.specs.Writing.{written, fit_text, written_by, write_answer}
use Rattle.built_writing.specs.Told.{write_refusal, write_returned}

-- ---- of a text and an output of o bytes

module _ (text : List ℕ) (o : ℕ) where
  fit_number : told_number (fit_text text o) ≡ cond (ltb o (length text)) 4 0
  unfolding fit_text
  fit_number = of_choice told_number (ltb o (length text)) refl refl

  fit_value : told_count (fit_text text o) ≡ length text
  unfolding fit_text
  fit_value = cond_case (λ (r : Result ℕ Refusal). told_count r ≡ length text) (ltb o (length text)) (λ _. refl) (λ _. refl)

  fit_length : told_length (fit_text text o) ≡ 0
  unfolding fit_text
  fit_length = cond_case (λ (r : Result ℕ Refusal). told_length r ≡ 0) (ltb o (length text)) (λ _. refl) (λ _. refl)

-- ---- the five promises of `write_value`, from the answer and what the output holds

module _ (value : List ℕ) (o : ℕ) (r : Result ℕ Refusal) (is : r ≡ write_answer value o) where
  numbers : (told_number r ≡ write_refusal value o) × ((told_count r ≡ write_returned value o) × (told_length r ≡ check_fault value))
  unfolding write_answer check_of
  numbers =
      let long = ltb limit (length value) in
      let whole = eqb (valid_prefix value) (length value) in
      let text = written value in
      let number : Result ⊤ Refusal → ℕ = λ u. told_number (written_by u value o) in
      let returned : Result ⊤ Refusal → ℕ = λ u. told_count (written_by u value o) in
      let fault : Result ⊤ Refusal → ℕ = λ u. told_length (written_by u value o) in (
        ap told_number is ∙ of_choice number long refl (of_choice number whole (fit_number text o) refl),
        (
          ap told_count is ∙ of_choice returned long refl (of_choice returned whole (fit_value text o) refl),
          ap told_length is ∙ of_choice fault long refl (of_choice fault whole (fit_length text o) refl),
        ),
      )

  pub wrote : {A : Type 0} → A
      → record {
        answer : r ≡ write_answer value o;
        output : A;
        number : told_number r ≡ write_refusal value o;
        returned : told_count r ≡ write_returned value o;
        length : told_length r ≡ check_fault value;
      }
  wrote held =
      record { answer = is; output = held; number = numbers.0; returned = numbers.1.0; length = numbers.1.1 }
