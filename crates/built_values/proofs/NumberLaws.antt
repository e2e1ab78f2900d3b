-- The numbers of each answer: which refusal, and the number returned. And that the rule admits one answer.
-- Assumes nothing.
use Prim.Native.Nat.{ℕ, ◌≤◌, ◌<◌}
use mathlib.Core.Path.{◌≡◌, refl, sym, subst, ◌∙◌}
use mathlib.Core.Bool.{Bool, true, false, cond}
use mathlib.Core.Logic.{◌⊎◌, inl, inr}
use mathlib.Core.List.{List}
use native.Mathlib.Omega.{arith}
use borrow.Author.Tests.{lt-ltb, le-ltb}
use lib.Dec.{ltb}
use lib.ListN.{length}
use Rattle.text_classes.proofs.Conds.{or_left, or_right}
use Rattle.std.specs.Prelude.{Result, Err}
use Rattle.text_refusals.specs.Refusals.{depth}
use Rattle.text_refusals.specs.Told.{told_number, told_value}
use Rattle.text_refusals.specs.declared.Refusal.{Refusal}
use Rattle.decoder_rules.specs.declared.Edition.{Edition}
use Rattle.decoder_rules.specs.declared.Edition.TheVariants.{Toml10, Toml11}
use Rattle.decoder_rules.specs.Encodings.{edition_number, is_edition, edition_of}
use Rattle.decoder_rules.proofs.EditionNumbers.{OfNumber, as_read, edition_is, not_edition}
use Rattle.built_values.specs.Depth.{Deep}
use Rattle.built_values.specs.Answers.{Judged, Named, ValueAnswer}
use Rattle.built_values.specs.Told.{is_outside, value_refusal, value_returned}
use Rattle.built_values.specs.Told.{deep_from}
use Rattle.built_values.proofs.DepthLaws.{is_deep, deep_is}

-- ---- the tests that the numbers go by

out : (n start end : ℕ) → (n < end) ⊎ (end < start) → is_outside n start end ≡ true
out n start end (inl h) = or_left _ _ (lt-ltb n end h)
out n start end (inr h) = or_right (ltb n end) _ (lt-ltb end start h)

not_out : (n start end : ℕ) → end ≤ n → start ≤ end → is_outside n start end ≡ false
not_out n start end h k = rw (le-ltb n end h, le-ltb end start k) refl

pub unnamed_by : (n : ℕ) (run : List ℕ) (r : Refusal) → Err r ≡ edition_of n → Named n run (Err r)
unnamed_by n run r e = go (as_read n (Err r) e)
  where
    go : {x : Refusal} → OfNumber n (Err x) → Named n run (Err x)
    go (OfNumber.unknown f) = Named.no_edition f

shallow : (run : List ℕ) → (Deep run → ⊥) → deep_from 0 0 run ≡ false
shallow run calm = go (deep_from 0 0 run) refl
  where
    go : (t : Bool) → deep_from 0 0 run ≡ t → t ≡ false
    go true e = absurd (calm (deep_is run e))
    go false e = refl

-- ---- the numbers

abbrev Told : Result Bool Refusal → ℕ → ℕ → Type 0
Told answer number value = (told_number answer ≡ number) × (told_value answer ≡ value)

judged_told : {v : Edition} {run : List ℕ} {answer : Result Bool Refusal} → Judged v run answer
    → Told answer (cond (deep_from 0 0 run) 10 0) (cond (deep_from 0 0 run) depth 0)
judged_told {run = run} (Judged.too_deep d) = (rw (is_deep run d) refl, rw (is_deep run d) refl)
judged_told {run = run} (Judged.value n d) = (rw (shallow run n) refl, rw (shallow run n) refl)
judged_told {run = run} (Judged.no_value n d) = (rw (shallow run n) refl, rw (shallow run n) refl)

named_told : {edition : ℕ} {run : List ℕ} {answer : Result Bool Refusal} → Named edition run answer
    → Told answer (cond (is_edition edition) (cond (deep_from 0 0 run) 10 0) 9)
    (cond (is_edition edition) (cond (deep_from 0 0 run) depth 0) edition)
named_told {edition} (Named.no_edition n) = let e = not_edition edition n in (rw e refl, rw e refl)
named_told {edition} (Named.named v e d) = let f = edition_is v edition e in let t = judged_told d in (rw f t.0, rw f t.1)

-- beside the answer, as a promise says them
pub told : {records : List (List ℕ)} {edition start end : ℕ} {r : Result Bool Refusal} → ValueAnswer records edition start end r
    → record {
      answer : ValueAnswer records edition start end r;
      number : told_number r ≡ value_refusal records edition start end;
      value : told_value r ≡ value_returned records edition start end;
    }
told {records} {edition} {start} {end} (ValueAnswer.outside h) =
    let e = out (length records) start end h in
    record { answer = ValueAnswer.outside h; number = rw e refl; value = rw e refl }
told {records} {edition} {start} {end} (ValueAnswer.within h k d) =
    let e = not_out (length records) start end h k in
    let t = named_told d in
    record { answer = ValueAnswer.within h k d; number = rw e t.0; value = rw e t.1 }

-- ---- one answer

judged_one : {v : Edition} {run : List ℕ} {x y : Result Bool Refusal} → Judged v run x → Judged v run y → x ≡ y
judged_one (Judged.too_deep d) (Judged.too_deep e) = refl
judged_one (Judged.too_deep d) (Judged.value n e) = absurd (n d)
judged_one (Judged.too_deep d) (Judged.no_value n e) = absurd (n d)
judged_one (Judged.value m d) (Judged.too_deep e) = absurd (m e)
judged_one (Judged.value m d) (Judged.value n e) = refl
judged_one (Judged.value m d) (Judged.no_value n e) = absurd (e d)
judged_one (Judged.no_value m d) (Judged.too_deep e) = absurd (m e)
judged_one (Judged.no_value m d) (Judged.value n e) = absurd (d e)
judged_one (Judged.no_value m d) (Judged.no_value n e) = refl

-- two editions that have one number are one
same_edition : (v w : Edition) → edition_number v ≡ edition_number w → v ≡ w
same_edition Toml10 Toml10 e = refl
same_edition Toml10 Toml11 e = absurd (omega arith)
same_edition Toml11 Toml10 e = absurd (omega arith)
same_edition Toml11 Toml11 e = refl

pub named_one : {edition : ℕ} {run : List ℕ} {x y : Result Bool Refusal} → Named edition run x → Named edition run y → x ≡ y
named_one (Named.no_edition n) (Named.no_edition m) = refl
named_one (Named.no_edition n) (Named.named v e d) = absurd (n v e)
named_one (Named.named v e d) (Named.no_edition n) = absurd (n v e)
named_one {run = run} {x = x} (Named.named v e d) (Named.named w f g) =
    judged_one (subst (λ (u : Edition). Judged u run x) (same_edition v w (e ∙ sym f)) d) g

pub away : (n : ℕ) {start end : ℕ} → (n < end) ⊎ (end < start) → end ≤ n → start ≤ end → ⊥
away n (inl h) a b = omega arith
away n (inr h) a b = omega arith

pub one_answer : {records : List (List ℕ)} {edition start end : ℕ} {x y : Result Bool Refusal}
    → ValueAnswer records edition start end x → ValueAnswer records edition start end y → x ≡ y
one_answer (ValueAnswer.outside h) (ValueAnswer.outside k) = refl
one_answer {records} (ValueAnswer.outside h) (ValueAnswer.within a b d) = absurd (away (length records) h a b)
one_answer {records} (ValueAnswer.within a b d) (ValueAnswer.outside h) = absurd (away (length records) h a b)
one_answer (ValueAnswer.within a b d) (ValueAnswer.within a₂ b₂ e) = named_one d e
