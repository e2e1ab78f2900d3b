-- The check's answer, case by case, and what each case says of the bytes.
-- Assumes nothing.
use Prim.Native.Nat.{ℕ, ◌≤◌, ◌<◌}
use mathlib.Core.Path.{◌≡◌, refl, sym, ap, ◌∙◌}
use mathlib.Core.Logic.{◌↔◌}
use mathlib.Core.List.{List}
use native.Mathlib.Omega.{arith}
use lib.ListN.{length, drop, length-drop}
use lib.Dec.{ltb, eqb}
use borrow.Author.Tests.{eqb-true, eqb-false, lt-ltb, le-ltb, eq-eqb, ne_eqb}
use Rattle.text_refusals.specs.Refusals.{limit}
use Rattle.text_scalars.specs.Utf8.{Utf8}
use Rattle.text_classes.specs.Runs.{run}
use Rattle.text_scalars.specs.Utf8Read.{ascii, valid_prefix}
use Rattle.text_characters.specs.Lead.{fault_len}
use Rattle.text.specs.CheckMeans.{check_of}
use Rattle.text_refusals.specs.Told.{told_number, told_value, told_length}
use Rattle.text.specs.Told.{check_refusal, check_returned, check_fault}
use Rattle.text.specs.CheckMeans.{Longest, CheckMeans}
use Rattle.std.specs.Prelude.{Result, Ok, Err, ⊤}
use Rattle.text_refusals.specs.declared.Refusal.{Refusal}
use Rattle.text_refusals.specs.declared.Refusal.TheVariants.{NotUtf8, TooLong, FewTokens, ShortOutput, FewErrors, OutOfPlace, NoKind, AfterEnd, NoEdition, TooDeep, NoReviewer, FewMarks, TotalFull}
use Rattle.text_classes.proofs.Conds.{by_lt, cond_case, of_choice}
use Rattle.text_scalars.proofs.ReadLaws.{utf8_iff, valid_is, valid_le, valid_longest, valid_ascii, valid_end}
use Rattle.text.proofs.FaultLaws.{fault_is, fault_one}

-- ---- from the bytes to the answer

module _ (s : List ℕ) where
  pub answer_long : limit < length s → Err TooLong ≡ check_of s
  unfolding check_of
  answer_long h = simp (lt-ltb _ _ h)

  pub answer_valid : length s ≤ limit → valid_prefix s ≡ length s → Ok tt ≡ check_of s
  unfolding check_of
  answer_valid h e = simp (le-ltb _ _ h, eq-eqb _ _ e)

  -- all of it ASCII
  pub answer_ascii : length s ≤ limit → run ascii s ≡ length s → Ok tt ≡ check_of s
  answer_ascii h all = answer_valid h (omega (arith, rw all at (valid_ascii s), valid_end s (length s) (omega arith)))

  pub answer_broken : (at r : ℕ) → length s ≤ limit → valid_prefix s ≡ at → at < length s → r ≡ fault_len (drop at s)
      → Err (NotUtf8 at r) ≡ check_of s
  unfolding check_of
  answer_broken at r h e k f =
      let d : at ≡ length s → ⊥ = omega arith in
      rw f (simp (le-ltb _ _ h, e, ne_eqb _ _ d))

-- and its numbers: which refusal, the number returned, and the second one
pub told : (s : List ℕ) (r : Result ⊤ Refusal) → r ≡ check_of s
    → record {
      answer : r ≡ check_of s;
      number : told_number r ≡ check_refusal s;
      value : told_value r ≡ check_returned s;
      length : told_length r ≡ check_fault s;
    }
unfolding check_of
told s r e =
    let long = ltb limit (length s) in
    let whole = eqb (valid_prefix s) (length s) in
    record {
      answer = e;
      number = ap told_number e ∙ of_choice told_number long refl (of_choice told_number whole refl refl);
      value = ap told_value e ∙ of_choice told_value long refl (of_choice told_value whole refl refl);
      length = ap told_length e ∙ of_choice told_length long refl (of_choice told_length whole refl refl);
    }

-- ---- from the answer to the bytes: what the check promises, without a computed definition in it

pub longest_is : (s : List ℕ) → Longest s (valid_prefix s)
longest_is s = record { within = valid_le s; valid = valid_is s; longest = valid_longest s }

pub longest_one : (s : List ℕ) (n : ℕ) → Longest s n → valid_prefix s ≡ n
longest_one s n l =
    omega (arith, valid_longest s n l.within l.valid, l.longest (valid_prefix s) (valid_le s) (valid_is s))

means_answer : (s : List ℕ) (r : Result ⊤ Refusal) → CheckMeans s r → r ≡ check_of s
means_answer s (Ok u') (h, u) = answer_valid s h ((utf8_iff s).1 u)
means_answer s (Err TooLong) h = answer_long s h
means_answer s (Err (NotUtf8 n r)) (h, broken, l, f) =
    let e = longest_one s n l in
    let d : n ≡ length s → ⊥ = λ same. broken ((utf8_iff s).0 (e ∙ same)) in
    let k : n < length s = omega (arith, l.within) in
    let rest = drop n s in
    let some : 1 ≤ length rest = omega (arith, length-drop n s) in
    answer_broken s n r h e k (fault_one rest r (fault_len rest) f (fault_is rest some))
means_answer s (Err (FewTokens n)) m = absurd m
means_answer s (Err (ShortOutput n)) m = absurd m
means_answer s (Err (FewErrors n)) m = absurd m
means_answer s (Err (OutOfPlace n)) m = absurd m
means_answer s (Err (NoKind n)) m = absurd m
means_answer s (Err AfterEnd) m = absurd m
means_answer s (Err (NoEdition n)) m = absurd m
means_answer s (Err TooDeep) m = absurd m
means_answer s (Err (NoReviewer n)) m = absurd m
means_answer s (Err (FewMarks n)) m = absurd m
means_answer s (Err TotalFull) m = absurd m

answer_means : (s : List ℕ) → CheckMeans s (check_of s)
unfolding check_of
answer_means s =
    by_lt (CheckMeans s) limit (length s) (λ h. h)
    λ h. cond_case (CheckMeans s) (eqb (valid_prefix s) (length s))
    (λ e. (h, (utf8_iff s).0 (eqb-true _ _ e)))
    (λ e.
    let d = eqb-false _ _ e in
    let k : 1 ≤ length (drop (valid_prefix s) s) = omega (arith, valid_le s, length-drop (valid_prefix s) s) in
    (h, (λ u. d ((utf8_iff s).1 u)), longest_is s, fault_is (drop (valid_prefix s) s) k))

pub check_means : (s : List ℕ) (r : Result ⊤ Refusal) → (r ≡ check_of s) ↔ CheckMeans s r
check_means s r = (λ e. rw e (answer_means s), means_answer s r)

-- what a caller learns of an answered check
pub checked : (s : List ℕ) → check_of s ≡ Ok tt → (length s ≤ limit) × Utf8 s
checked s e = (check_means s (Ok tt)).0 (sym e)
