-- The numbers of each answer: which refusal, and the number returned.
-- Assumes nothing.
use Prim.Native.Nat.{ℕ}
use Rattle.std.specs.Prelude.{Result, Ok, Err, ⊤}
use mathlib.Core.Path.{◌≡◌, refl, ap, ◌∙◌}
use mathlib.Core.Bool.{Bool, true, false, cond}
use mathlib.Core.List.{List}
use lib.ListN.{length, drop}
use lib.Dec.{ltb, leb}
use Rattle.text_refusals.specs.declared.Refusal.{Refusal}
use Rattle.text_refusals.specs.declared.Refusal.TheVariants.{OutOfPlace, NoReviewer, FewMarks}
use Rattle.text_classes.specs.Runs.{first_is}
use Rattle.text_classes.proofs.Conds.{of_choice}
use Rattle.built_review.specs.Review.{is_set, mark_answer, read_by, read_answer, count_answer}
use Rattle.text_refusals.specs.Told.{told_number, told_value, told_count, told_flag}
use Rattle.built_review.specs.Told.{mark_refusal, mark_returned, read_returned, count_refusal, count_returned}

module _ (records entries reviewer token : ℕ) where
  -- what is read off the answer to a call on a token: n where it is served
  by_refusal : (f : Result ⊤ Refusal → ℕ) (n : ℕ) → f (Ok tt) ≡ n
      → f (mark_answer records entries reviewer token)
      ≡ cond (ltb 1 reviewer) (f (Err (NoReviewer reviewer)))
      (cond (leb records token) (f (Err (OutOfPlace records)))
      (cond (ltb entries records) (f (Err (FewMarks records))) n))
  unfolding mark_answer
  by_refusal f n e =
      of_choice f (ltb 1 reviewer) refl (of_choice f (leb records token) refl (of_choice f (ltb entries records) refl e))

  -- with what the table then holds, which a promise says last
  pub marked : (r : Result ⊤ Refusal) (new after : List ℕ) → r ≡ mark_answer records entries reviewer token → new ≡ after
      → record {
        answer : r ≡ mark_answer records entries reviewer token;
        number : told_number r ≡ mark_refusal records entries reviewer token;
        value : told_value r ≡ mark_returned records entries reviewer token;
        memory : new ≡ after;
      }
  marked r new after e m =
      record {
        answer = e;
        number = ap told_number e ∙ by_refusal told_number 0 refl;
        value = ap told_value e ∙ by_refusal told_value 0 refl;
        memory = m;
      }

flag_lem : (t : Bool) → told_flag (Ok t) ≡ cond t 1 0
flag_lem true = refl
flag_lem false = refl

pub asked : (records : ℕ) (marks : List ℕ) (reviewer token : ℕ) (r : Result Bool Refusal) → r ≡ read_answer records marks reviewer token
    → record {
      answer : r ≡ read_answer records marks reviewer token;
      number : told_number r ≡ mark_refusal records (length marks) reviewer token;
      value : told_flag r ≡ read_returned records marks reviewer token;
    }
unfolding read_answer
asked records marks reviewer token r e =
    let rest = drop token marks in
    let set = first_is (is_set reviewer) rest in
    let number : Result ⊤ Refusal → ℕ = λ a. told_number (read_by a reviewer rest) in
    let value : Result ⊤ Refusal → ℕ = λ a. told_flag (read_by a reviewer rest) in
    record {
      answer = e;
      number = ap told_number e ∙ by_refusal records (length marks) reviewer token number 0 refl;
      value =
          ap told_flag e
          ∙ by_refusal records (length marks) reviewer token value (cond set 1 0) (flag_lem set);
    }

pub counted : (records : ℕ) (marks : List ℕ) (reviewer : ℕ) (r : Result ℕ Refusal) → r ≡ count_answer records marks reviewer
    → record {
      answer : r ≡ count_answer records marks reviewer;
      number : told_number r ≡ count_refusal records (length marks) reviewer;
      value : told_count r ≡ count_returned records marks reviewer;
    }
unfolding count_answer
counted records marks reviewer r e =
    let unknown = ltb 1 reviewer in
    let short = ltb (length marks) records in
    record {
      answer = e;
      number = ap told_number e ∙ of_choice told_number unknown refl (of_choice told_number short refl refl);
      value = ap told_count e ∙ of_choice told_count unknown refl (of_choice told_count short refl refl);
    }
