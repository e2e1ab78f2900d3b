-- The table of marks: what a changed byte leaves as it was, which calls are served, and what they leave in the table.
-- Assumes nothing.
use Prim.Native.Nat.{ℕ, zero, suc, ◌≤◌, ◌<◌}
use Rattle.std.specs.Prelude.{Result, Ok, Err, ⊤}
use mathlib.Core.Path.{◌≡◌, refl, sym, ap, ◌∙◌}
use mathlib.Core.List.{List, [], ◌∷◌, map}
use native.Mathlib.Omega.{arith}
use borrow.Author.Tests.{leb-false}
use lib.ListN.{length, get_or, set, take, drop}
use lib.Dec.{leb, eqb}
use Rattle.text_refusals.specs.declared.Refusal.{Refusal}
use Rattle.text_classes.proofs.FirstLaws.{first_there}
use Rattle.text_classes.proofs.Conds.{cond_case, by_lt}
use Rattle.built_review.specs.Review.{bit, is_set, put_bit, changed, mark_answer, marks_by, marks_with, read_by, read_answer}

-- ---- one byte changed

module _ (f : ℕ → ℕ) where
  pub changed_set : (marks : List ℕ) (token : ℕ) → token < length marks
      → changed f token marks ≡ set marks token (f (get_or marks token 0))
  changed_set [] token h = absurd (omega arith)
  changed_set (b ∷ marks) zero h = refl
  changed_set (b ∷ marks) (suc token) h = ap (λ (s : List ℕ). b ∷ s) (changed_set marks token (omega arith))

  pub length_changed : (marks : List ℕ) (token : ℕ) → length (changed f token marks) ≡ length marks
  length_changed [] token = refl
  length_changed (b ∷ marks) zero = refl
  length_changed (b ∷ marks) (suc token) = ap suc (length_changed marks token)

  pub take_changed : (n : ℕ) (marks : List ℕ) (token : ℕ) → take n (changed f token marks) ≡ changed f token (take n marks)
  take_changed zero marks token = refl
  take_changed (suc n) [] token = refl
  take_changed (suc n) (b ∷ marks) zero = refl
  take_changed (suc n) (b ∷ marks) (suc token) = ap (λ (s : List ℕ). b ∷ s) (take_changed n marks token)

  pub drop_changed : (n : ℕ) (marks : List ℕ) (token : ℕ) → token < n → drop n (changed f token marks) ≡ drop n marks
  drop_changed zero marks token h = absurd (omega arith)
  drop_changed (suc n) [] token h = refl
  drop_changed (suc n) (b ∷ marks) zero h = refl
  drop_changed (suc n) (b ∷ marks) (suc token) h = drop_changed n marks token (omega arith)

  -- what is read of each byte: the same where the change does not touch it, else changed at the same place
  module _ (g : ℕ → ℕ) where
    pub read_kept : ((b : ℕ) → g (f b) ≡ g b) → (marks : List ℕ) (token : ℕ) → map g (changed f token marks) ≡ map g marks
    read_kept same [] token = refl
    read_kept same (b ∷ marks) zero = ap (λ (d : ℕ). d ∷ map g marks) (same b)
    read_kept same (b ∷ marks) (suc token) = ap (λ (s : List ℕ). g b ∷ s) (read_kept same marks token)

    pub read_changed : (h : ℕ → ℕ) → ((b : ℕ) → g (f b) ≡ h (g b)) → (marks : List ℕ) (token : ℕ)
        → map g (changed f token marks) ≡ changed h token (map g marks)
    read_changed h step [] token = refl
    read_changed h step (b ∷ marks) zero = ap (λ (d : ℕ). d ∷ map g marks) (step b)
    read_changed h step (b ∷ marks) (suc token) = ap (λ (s : List ℕ). g b ∷ s) (read_changed h step marks token)

-- ---- which calls are served

pub record Serves (records entries reviewer token : ℕ) : Type 0 where
  pub known : reviewer ≤ 1
  pub there : token < records
  pub long : records ≤ entries

refused_not_done : (r : Refusal) → ◌≡◌ {A = Result ⊤ Refusal} (Err r) (Ok tt) → ⊥
refused_not_done r e = let z : ◌≡◌ {A = ℕ} 0 1 = cc in omega arith

module _ (records entries reviewer token : ℕ) where
  pub serves : mark_answer records entries reviewer token ≡ Ok tt → Serves records entries reviewer token
  unfolding mark_answer
  serves =
      let P : Result ⊤ Refusal → Type 0 = λ r. r ≡ Ok tt → Serves records entries reviewer token in
      by_lt P 1 reviewer (λ h e. absurd (refused_not_done _ e))
      λ known. cond_case P (leb records token) (λ t e. absurd (refused_not_done _ e))
      λ t. by_lt P entries records (λ h e. absurd (refused_not_done _ e))
      λ long e. record { known = known; there = leb-false _ _ t; long = long }

-- ---- the table afterwards, by the answer

module _ (d records : ℕ) (marks : List ℕ) (reviewer token : ℕ) where
  pub marks_kept : (r : Refusal) → mark_answer records (length marks) reviewer token ≡ Err r
      → marks_with d records marks reviewer token ≡ marks
  marks_kept r e = ap (λ (a : Result ⊤ Refusal). marks_by a (put_bit reviewer d) token marks) e

  pub marks_changed : mark_answer records (length marks) reviewer token ≡ Ok tt
      → marks_with d records marks reviewer token ≡ changed (put_bit reviewer d) token marks
  marks_changed e = ap (λ (a : Result ⊤ Refusal). marks_by a (put_bit reviewer d) token marks) e

  -- stored as the code does
  pub marks_stored : (byte : ℕ) → mark_answer records (length marks) reviewer token ≡ Ok tt
      → byte ≡ put_bit reviewer d (get_or marks token 0) → set marks token byte ≡ marks_with d records marks reviewer token
  marks_stored byte e p =
      let h = serves records (length marks) reviewer token e in
      ap (set marks token) p ∙ sym (changed_set (put_bit reviewer d) marks token (omega arith)) ∙ sym (marks_changed e)

-- ---- what is asked, by the answer

module _ (records : ℕ) (marks : List ℕ) (reviewer token : ℕ) where
  pub read_refused : (r : Refusal) → mark_answer records (length marks) reviewer token ≡ Err r
      → read_answer records marks reviewer token ≡ Err r
  unfolding read_answer
  read_refused r e = ap (λ (a : Result ⊤ Refusal). read_by a reviewer (drop token marks)) e

  -- where the call is served, by the bit of the token's byte
  module _ (e : mark_answer records (length marks) reviewer token ≡ Ok tt) where
    pub read_bit : (d : ℕ) → bit reviewer (get_or marks token 0) ≡ d
        → read_answer records marks reviewer token ≡ Ok (eqb d 1)
    unfolding read_answer
    read_bit d f =
        let h = serves records (length marks) reviewer token e in
        ap (λ (a : Result ⊤ Refusal). read_by a reviewer (drop token marks)) e
        ∙ ap Ok
        (first_there (is_set reviewer) marks token (omega arith) ∙ ap (λ (n : ℕ). eqb n 1) f)
