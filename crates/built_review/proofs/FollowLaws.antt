-- What an answered tick or untick does, as later calls tell: the token's bit is then the one that was put, and the count
-- differs by just that bit.
-- Assumes nothing.
use Prim.Native.Nat.{ℕ, zero, suc, ◌+◌, ◌-◌, ◌≤◌, ◌<◌}
use Rattle.std.specs.Prelude.{Ok}
use mathlib.Core.Path.{◌≡◌, refl, sym, ap, ◌∙◌}
use mathlib.Core.Bool.{Bool, cond}
use mathlib.Core.List.{List, [], ◌∷◌}
use native.Mathlib.Omega.{arith}
use borrow.Author.Tests.{le-ltb}
use lib.ListN.{length, get_or, take, drop, length-take}
use lib.Seq.{get_or-take}
use lib.Dec.{eqb}
use Rattle.text_classes.specs.Runs.{first_is}
use Rattle.text_classes.proofs.Conds.{by_eq}
use Rattle.text_classes.proofs.FirstLaws.{first_there}
use Rattle.built_review.specs.Review.{bit, is_set, put_bit, changed, ticks_in, mark_answer, marks_with, ticked_marks, unticked_marks, count_answer}
use Rattle.built_review.specs.Apart.{Follows, CallsFollow}
use Rattle.built_review.proofs.BitLaws.{bit_le, put_own}
use Rattle.built_review.proofs.TableLaws.{take_changed, Serves, serves, marks_changed, read_bit}
use Rattle.built_review.proofs.StepLaws.{with_length}

-- ---- one byte changed

changed_there : (f : ℕ → ℕ) (s : List ℕ) (i : ℕ) → i < length s → get_or (changed f i s) i 0 ≡ f (get_or s i 0)
changed_there f [] i h = absurd (omega arith)
changed_there f (b ∷ s) zero h = refl
changed_there f (b ∷ s) (suc i) h = changed_there f s i (omega arith)

-- the old bit goes out of the count, and d comes into it
ticks_changed : (k d : ℕ) → k ≤ 1 → d ≤ 1 → (s : List ℕ) (i : ℕ) → i < length s
    → ticks_in k (changed (put_bit k d) i s) + bit k (get_or s i 0) ≡ ticks_in k s + d
unfolding ticks_in
ticks_changed k d known small [] i h = absurd (omega arith)
ticks_changed k d known small (b ∷ s) zero h = omega (arith, put_own k d b known small)
ticks_changed k d known small (b ∷ s) (suc i) h = omega (arith, ticks_changed k d known small s i (omega arith))

more_by : (x n m : ℕ) → x ≤ 1 → m + x ≡ n + 1 → m ≡ cond (eqb x 1) n (n + 1)
more_by x n m h e = by_eq (λ (y : ℕ). m ≡ y) x 1 (λ one. omega arith) (λ none. omega arith)

less_by : (x n m : ℕ) → x ≤ 1 → m + x ≡ n + 0 → m ≡ cond (eqb x 1) (n - 1) n
less_by x n m h e = by_eq (λ (y : ℕ). m ≡ y) x 1 (λ one. omega arith) (λ none. omega arith)

-- ---- a call that is served

module _ (records : ℕ) (marks : List ℕ) (reviewer token : ℕ) (e : mark_answer records (length marks) reviewer token ≡ Ok tt) where
  is : Serves records (length marks) reviewer token
  is = serves records (length marks) reviewer token e

  count_served : (table : List ℕ) → length table ≡ length marks
      → count_answer records table reviewer ≡ Ok (ticks_in reviewer (take records table))
  unfolding count_answer
  count_served table same =
      let h = is in
      let known : reviewer ≤ 1 = h.known in
      let long : records ≤ length table = omega arith in
      simp (le-ltb 1 reviewer known, le-ltb (length table) records long)

  module _ (d : ℕ) (small : d ≤ 1) where
    answered : mark_answer records (length (marks_with d records marks reviewer token)) reviewer token ≡ Ok tt
    answered = ap (λ (n : ℕ). mark_answer records n reviewer token) (with_length d records marks reviewer token small) ∙ e

    bit_there : bit reviewer (get_or (marks_with d records marks reviewer token) token 0) ≡ d
    bit_there =
        let h = is in
        ap (λ (s : List ℕ). bit reviewer (get_or s token 0)) (marks_changed d records marks reviewer token e)
        ∙ ap (bit reviewer) (changed_there (put_bit reviewer d) marks token (omega arith))
        ∙ put_own reviewer d (get_or marks token 0) h.known small

    count_with : ticks_in reviewer (take records (marks_with d records marks reviewer token)) + bit reviewer (get_or marks token 0)
        ≡ ticks_in reviewer (take records marks) + d
    count_with =
        let h = is in
        let part = take records marks in
        let there : token < length part = omega (arith, length-take records marks) in
        let new = ap (λ (s : List ℕ). ticks_in reviewer (take records s)) (marks_changed d records marks reviewer token e)
        ∙ ap (ticks_in reviewer) (take_changed (put_bit reviewer d) records marks token) in
        let same = ap (bit reviewer) (get_or-take records marks token 0 h.there) in
        omega (arith, new, same, ticks_changed reviewer d h.known small part token there)

  was_set : first_is (is_set reviewer) (drop token marks) ≡ eqb (bit reviewer (get_or marks token 0)) 1
  was_set = let h = is in first_there (is_set reviewer) marks token (omega arith)

  -- the count afterwards, where a law says what it comes to by the old bit
  count_after : (d : ℕ) → d ≤ 1 → (f : Bool → ℕ)
      → ((m : ℕ) → m + bit reviewer (get_or marks token 0) ≡ ticks_in reviewer (take records marks) + d
      → m ≡ f (eqb (bit reviewer (get_or marks token 0)) 1))
      → count_answer records (marks_with d records marks reviewer token) reviewer
      ≡ Ok (f (first_is (is_set reviewer) (drop token marks)))
  count_after d small f law =
      count_served (marks_with d records marks reviewer token) (with_length d records marks reviewer token small)
      ∙ ap Ok (law _ (count_with d small) ∙ sym (ap f was_set))

  follows : Follows records marks reviewer token
  unfolding ticked_marks unticked_marks
  follows =
      let count = ticks_in reviewer (take records marks) in
      let mark = get_or marks token 0 in
      let low = bit_le reviewer mark in
      let set : 1 ≤ 1 = omega arith in
      let clear : 0 ≤ 1 = omega arith in
      record {
        ticked = read_bit records (marks_with 1 records marks reviewer token) reviewer token (answered 1 set) 1 (bit_there 1 set);
        unticked = read_bit records (marks_with 0 records marks reviewer token) reviewer token (answered 0 clear) 0 (bit_there 0 clear);
        count = count;
        before = count_served marks refl;
        more = count_after 1 set (λ t. cond t count (count + 1)) (λ m e. more_by (bit reviewer mark) count m low e);
        less = count_after 0 clear (λ t. cond t (count - 1) count) (λ m e. less_by (bit reviewer mark) count m low e);
      }

pub calls_follow : CallsFollow
calls_follow = follows
