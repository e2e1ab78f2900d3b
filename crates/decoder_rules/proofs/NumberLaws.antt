-- The numbers of `decode`'s answer: which refusal, the number returned, the errors, and the second number of refusal 1.
-- Assumes nothing.
use Rattle.std.specs.Prelude.{Result, Ok, Err, ⊤}
use Prim.Native.Nat.{ℕ}
use mathlib.Core.Path.{◌≡◌, refl, sym, ap, ◌∙◌}
use mathlib.Core.Bool.{Bool, true, false, cond}
use mathlib.Core.List.{List}
use lib.Dec.{ltb, eqb}
use lib.ListN.{length}
use Rattle.text_classes.proofs.Conds.{cond_case, of_choice}
use Rattle.text_refusals.specs.Refusals.{limit, refusal_length}
use Rattle.text_scalars.specs.Utf8Read.{valid_prefix}
use Rattle.text.specs.CheckMeans.{check_of}
use Rattle.text.specs.Told.{check_fault}
use Rattle.text_refusals.specs.declared.Refusal.{Refusal}
use Rattle.text_refusals.specs.declared.Refusal.TheVariants.{TooLong, ShortOutput, FewErrors}
use Rattle.decoder_rules.specs.declared.Edition.{Edition}
use Rattle.decoder_rules.specs.declared.Edition.TheVariants.{Toml10, Toml11}
use Rattle.decoder_rules.specs.declared.Encoding.{Encoding}
use Rattle.decoder_rules.specs.declared.Decoded.{Decoded}
use Rattle.decoder_rules.specs.Encodings.{choice_in, unnamed, choice_by}
use Rattle.decoder_rules.specs.Decoding.{bytes_of, errors_of, errors_by, written, fitted, decoded_by, decode_in}
use Rattle.text_refusals.specs.Told.{told_number, told_length}
use Rattle.decoder_rules.specs.Told.{decoded_value, decoded_errors}
use Rattle.decoder_rules.specs.Told.{chosen_refusal, decode_refusal, chosen_returned, decode_returned, decode_noted}

-- ---- a number that asks for no decoder is refused without a second number

abbrev Quiet : Result Encoding Refusal → Type 0
Quiet (Ok k) = Unit {0}
Quiet (Err r) = refusal_length r ≡ 0

quiet_in : (v : Edition) (kind : ℕ) → Quiet (choice_in v kind)
unfolding choice_in
quiet_in v kind =
    cond_case Quiet (eqb kind 39) (λ _. tt)
    (λ _. cond_case Quiet (eqb kind 34) (λ _. tt)
    (λ _. cond_case Quiet (eqb kind 1) (λ _. tt)
    (λ _. cond_case Quiet (eqb kind 2) (λ _. tt)
    (λ _. cond_case Quiet (eqb kind 3) (λ _. tt) (λ _. refl)))))

quiet_unnamed : (edition : ℕ) (c : Result Encoding Refusal) → Quiet c → Quiet (unnamed edition c)
quiet_unnamed edition (Ok k) h = refl
quiet_unnamed edition (Err r) h = h

quiet_by : (edition kind : ℕ) → Quiet (choice_by edition kind)
unfolding choice_by
quiet_by edition kind =
    cond_case Quiet (eqb edition 10) (λ _. quiet_in Toml10 kind)
    (λ _. cond_case Quiet (eqb edition 11) (λ _. quiet_in Toml11 kind)
    (λ _. quiet_unnamed edition (choice_in Toml10 kind) (quiet_in Toml10 kind)))

-- ---- of a text that passed the check

-- the errors are told only where there is room for both
by_room : (n m : ℕ) (short few : Bool)
    → decoded_errors (cond short (Err (ShortOutput n)) (cond few (Err (FewErrors m)) (written n m)))
    ≡ cond (eqb (cond short 4 (cond few 5 0)) 0) m 0
by_room n m true few = refl
by_room n m false true = refl
by_room n m false false = refl

module _ (t : List ℕ) (o e : ℕ) where
  chosen_number : (c : Result Encoding Refusal) → told_number (decoded_by (Ok tt) c t o e) ≡ chosen_refusal c t o e
  unfolding fitted
  chosen_number (Ok k) =
      of_choice told_number (ltb o (length (bytes_of k t))) refl (of_choice told_number (ltb e (length (errors_of k t))) refl refl)
  chosen_number (Err r) = refl

  chosen_value : (c : Result Encoding Refusal) → decoded_value (decoded_by (Ok tt) c t o e) ≡ chosen_returned c t o e
  unfolding fitted
  chosen_value (Ok k) =
      of_choice decoded_value (ltb o (length (bytes_of k t))) refl (of_choice decoded_value (ltb e (length (errors_of k t))) refl refl)
  chosen_value (Err r) = refl

  chosen_length : (c : Result Encoding Refusal) → Quiet c → told_length (decoded_by (Ok tt) c t o e) ≡ 0
  unfolding fitted
  chosen_length (Ok k) h =
      let P : Result Decoded Refusal → Type 0 = λ d. told_length d ≡ 0 in
      cond_case P (ltb o (length (bytes_of k t))) (λ _. refl) (λ _. cond_case P (ltb e (length (errors_of k t))) (λ _. refl) (λ _. refl))
  chosen_length (Err r) h = h

  -- by the tests: longer than the limit, UTF-8, an output too short, too few error records
  noted : (long whole : Bool) (r : Refusal) (c : Result Encoding Refusal)
      → decoded_errors (decoded_by (cond long (Err TooLong) (cond whole (Ok tt) (Err r))) c t o e)
      ≡ cond (eqb (cond long 2 (cond whole (chosen_refusal c t o e) 1)) 0) (length (errors_by c t)) 0
  unfolding fitted
  noted true whole r c = refl
  noted false false r c = refl
  noted false true r (Ok k) =
      by_room (length (bytes_of k t)) (length (errors_of k t)) (ltb o (length (bytes_of k t))) (ltb e (length (errors_of k t)))
  noted false true r (Err x) = cond_case (λ (n : ℕ). 0 ≡ n) (eqb (chosen_refusal (Err x) t o e) 0) (λ _. refl) (λ _. refl)

-- ---- the seven promises of `decode_in`, from the answer and what the lent memory holds

module _ (t : List ℕ) (edition kind o e : ℕ) (r : Result Decoded Refusal) (is : r ≡ decode_in t edition kind o e) where
  pub decoded_numbers : (told_number r ≡ decode_refusal t edition kind o e) × ((decoded_value r ≡ decode_returned t edition kind o e)
      × ((decoded_errors r ≡ decode_noted t edition kind o e) × (told_length r ≡ check_fault t)))
  unfolding decode_in check_of
  decoded_numbers =
      let c = choice_by edition kind in
      let long = ltb limit (length t) in
      let whole = eqb (valid_prefix t) (length t) in
      let number : Result ⊤ Refusal → ℕ = λ u. told_number (decoded_by u c t o e) in
      let value : Result ⊤ Refusal → ℕ = λ u. decoded_value (decoded_by u c t o e) in
      let fault : Result ⊤ Refusal → ℕ = λ u. told_length (decoded_by u c t o e) in (
        ap told_number is ∙ of_choice number long refl (of_choice number whole (chosen_number t o e c) refl),
        (
          ap decoded_value is ∙ of_choice value long refl (of_choice value whole (chosen_value t o e c) refl),
          (
            ap decoded_errors is ∙ noted t o e long whole _ c,
            ap told_length is ∙ of_choice fault long refl (of_choice fault whole (chosen_length t o e c (quiet_by edition kind)) refl),
          ),
        ),
      )

  pub decoded : {A B : Type 0} → A → B
      → (r ≡ decode_in t edition kind o e) × (A × (B × ((told_number r ≡ decode_refusal t edition kind o e)
      × ((decoded_value r ≡ decode_returned t edition kind o e) × ((decoded_errors r ≡ decode_noted t edition kind o e)
      × (told_length r ≡ check_fault t))))))
  decoded output records = (is, (output, (records, decoded_numbers)))
