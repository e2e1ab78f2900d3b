-- The numbers of `tally`'s answer: which refusal, the number returned, and the second number of refusal 1.
-- Assumes nothing.
use Prim.Native.Nat.{ℕ, ◌≤◌}
use mathlib.Core.Path.{◌≡◌, refl, ap, ◌∙◌}
use mathlib.Core.Bool.{Bool, true, false, cond}
use mathlib.Core.List.{List}
use native.Mathlib.Omega.{arith}
use borrow.Author.Tests.{ltb-false, le-ltb}
use lib.Dec.{ltb, eqb}
use lib.ListN.{length, drop}
use Rattle.text_classes.proofs.Conds.{of_choice}
use Rattle.text_refusals.specs.Refusals.{limit}
use Rattle.text_refusals.specs.declared.Refusal.TheVariants.{NotUtf8, TotalFull}
use Rattle.text_scalars.specs.Utf8Read.{valid_prefix}
use Rattle.text_characters.specs.Lead.{fault_len}
use Rattle.text.specs.CheckMeans.{check_of}
use Rattle.std.specs.Prelude.{Result, Ok, Err, ⊤}
use Rattle.text_refusals.specs.declared.Refusal.{Refusal}
use Rattle.built_figures.specs.declared.NotAdded.{NotAdded}
use Rattle.built_figures.specs.declared.NotAdded.TheVariants.{TooLong, Refused}
use Rattle.built_figures.specs.declared.Tallied.{Tallied}
use Rattle.built_figures.specs.Figures.{most, figures_of, verdict_by, verdict_on, added, all_fit, tallied}
use Rattle.built_figures.specs.Told.{tally_number, tally_value, tally_length, tally_refusal, tally_returned, tally_fault}

module _ (doc totals : List ℕ) where
  abbrev broken : Result ⊤ NotAdded
  broken = Err (Refused (NotUtf8 (valid_prefix doc) (fault_len (drop (valid_prefix doc) doc))))

  -- what is read off a document's verdict: the check's own refusal 2 does not occur
  short_verdict : (f : Result ⊤ NotAdded → ℕ) → length doc ≤ most
      → f (verdict_by (check_of doc)) ≡ cond (eqb (valid_prefix doc) (length doc)) (f (Ok tt)) (f broken)
  unfolding check_of
  short_verdict f h =
      let by : Result ⊤ Refusal → ℕ = λ u. f (verdict_by u) in
      rw (le-ltb limit (length doc) (omega arith)) (of_choice by (eqb (valid_prefix doc) (length doc)) refl refl)

  pick : (f : Result ⊤ NotAdded → ℕ) (t : Bool) (v : Result ⊤ NotAdded) (n : ℕ) → (t ≡ false → f v ≡ n) → f (cond t (Err TooLong) v) ≡ cond t (f (Err TooLong)) n
  pick f true v n g = refl
  pick f false v n g = g refl

  of_verdict : (f : Result ⊤ NotAdded → ℕ) → f (verdict_on doc)
      ≡ cond (ltb most (length doc)) (f (Err TooLong)) (cond (eqb (valid_prefix doc) (length doc)) (f (Ok tt)) (f broken))
  unfolding verdict_on
  of_verdict f =
      pick f (ltb most (length doc)) (verdict_by (check_of doc)) _ (λ e. short_verdict f (ltb-false most (length doc) e))

  -- and off the answer
  of_answer : (f : Result ⊤ NotAdded → ℕ) (n : ℕ) → f (verdict_on doc) ≡ n
      → f (tallied doc totals).answer ≡ cond (all_fit (added totals (figures_of doc))) n (f (Err (Refused TotalFull)))
  unfolding tallied
  of_answer f n is = of_choice (λ (r : Tallied). f r.answer) (all_fit (added totals (figures_of doc))) is refl

  -- the four promises of `tally`
  pub numbers : (r : Tallied) → r ≡ tallied doc totals
      → record {
        answer : r ≡ tallied doc totals;
        number : tally_number r.answer ≡ tally_refusal doc totals;
        value : tally_value r.answer ≡ tally_returned doc totals;
        length : tally_length r.answer ≡ tally_fault doc totals;
      }
  numbers r is = record {
    answer = is;
    number = ap (λ (x : Tallied). tally_number x.answer) is ∙ of_answer tally_number _ (of_verdict tally_number);
    value = ap (λ (x : Tallied). tally_value x.answer) is ∙ of_answer tally_value _ (of_verdict tally_value);
    length = ap (λ (x : Tallied). tally_length x.answer) is ∙ of_answer tally_length _ (of_verdict tally_length);
  }
