-- One call on a table: which bits and entries it leaves as they were, and that what it tells and does to its reviewer's bits
-- depends only on these bits, the number of records and the table's length.
-- Assumes nothing.
use Prim.Native.Nat.{ℕ, zero, suc, ◌+◌, ◌≤◌}
use Rattle.std.specs.Prelude.{Result, Ok, Err, ⊤}
use mathlib.Core.Path.{◌≡◌, refl, sym, ap, ◌∙◌}
use mathlib.Core.Bool.{Bool, cond}
use mathlib.Core.List.{List, [], ◌∷◌, map}
use native.Mathlib.Omega.{arith}
use lib.ListN.{length, take, drop}
use lib.Dec.{ltb, eqb}
use Rattle.text_classes.specs.Runs.{first_is}
use Rattle.text_classes.proofs.FirstLaws.{first_take}
use Rattle.text_refusals.specs.declared.Refusal.{Refusal}
use Rattle.text_refusals.specs.declared.Refusal.TheVariants.{NoReviewer, FewMarks}
use Rattle.built_review.specs.Review.{bit, is_set, put_bit, changed, ticks_in, mark_answer, marks_by, marks_with, ticked_marks, unticked_marks, read_by, read_answer, count_answer}
use Rattle.built_review.specs.Apart.{ReviewCall, tick, untick, is_ticked, ticks, caller, marked, read, counted, tells, leaves, own_bits, Alike}
use Rattle.built_review.proofs.BitLaws.{put_own, put_other}
use Rattle.built_review.proofs.TableLaws.{length_changed, take_changed, drop_changed, read_kept, read_changed, Serves, serves}

-- ---- setting a bit to d

module _ (d records : ℕ) (marks : List ℕ) (reviewer token : ℕ) (small : d ≤ 1) where
  -- what holds of the table as it was, and of the changed one where the call is served, holds afterwards
  by_answer : (P : List ℕ → Type 0) → P marks
      → (Serves records (length marks) reviewer token → P (changed (put_bit reviewer d) token marks))
      → P (marks_with d records marks reviewer token)
  by_answer P kept done = go (mark_answer records (length marks) reviewer token) refl
    where
      go : (a : Result ⊤ Refusal) → mark_answer records (length marks) reviewer token ≡ a → P (marks_by a (put_bit reviewer d) token marks)
      go (Ok _) e = done (serves records (length marks) reviewer token e)
      go (Err r) e = kept

  pub with_length : length (marks_with d records marks reviewer token) ≡ length marks
  with_length = by_answer (λ s. length s ≡ length marks) refl (λ h. length_changed (put_bit reviewer d) marks token)

  with_rest : drop records (marks_with d records marks reviewer token) ≡ drop records marks
  with_rest =
      by_answer (λ s. drop records s ≡ drop records marks) refl
      (λ h. drop_changed (put_bit reviewer d) records marks token h.there)

  -- the bits of anyone else
  with_other : (k : ℕ) → (reviewer ≤ 1 → reviewer ≡ k → ⊥)
      → map (bit k) (marks_with d records marks reviewer token) ≡ map (bit k) marks
  with_other k n =
      by_answer (λ s. map (bit k) s ≡ map (bit k) marks) refl
      (λ h. read_kept (put_bit reviewer d) (bit k) (λ b. put_other reviewer k d b h.known small (n h.known)) marks token)

  -- the reviewer's own: the one of the token is d, where the call is served
  with_own : map (bit reviewer) (marks_with d records marks reviewer token)
      ≡ marks_by (mark_answer records (length marks) reviewer token) (λ _. d) token (map (bit reviewer) marks)
  with_own = go (mark_answer records (length marks) reviewer token) refl
    where
      go : (a : Result ⊤ Refusal) → mark_answer records (length marks) reviewer token ≡ a
          → map (bit reviewer) (marks_by a (put_bit reviewer d) token marks)
          ≡ marks_by a (λ _. d) token (map (bit reviewer) marks)
      go (Ok _) e =
          let h = serves records (length marks) reviewer token e in
          read_changed (put_bit reviewer d) (bit reviewer) (λ _. d) (λ b. put_own reviewer d b h.known small) marks token
      go (Err r) e = refl

take_by : (n : ℕ) (a : Result ⊤ Refusal) (f : ℕ → ℕ) (token : ℕ) (bits : List ℕ)
    → take n (marks_by a f token bits) ≡ marks_by a f token (take n bits)
take_by n (Ok _) f token bits = take_changed f n bits token
take_by n (Err r) f token bits = refl

module _ (d records : ℕ) (small : d ≤ 1) (reviewer token : ℕ) where
  own_with : (table : List ℕ) → own_bits reviewer records (marks_with d records table reviewer token)
      ≡ marks_by (mark_answer records (length table) reviewer token) (λ _. d) token (own_bits reviewer records table)
  own_with table =
      ap (take records) (with_own d records table reviewer token small)
      ∙ take_by records (mark_answer records (length table) reviewer token) (λ _. d) token (map (bit reviewer) table)

  alike_with : (marks others : List ℕ) → Alike reviewer records marks others
      → Alike reviewer records (marks_with d records marks reviewer token) (marks_with d records others reviewer token)
  alike_with marks others a = record {
    long = with_length d records marks reviewer token small ∙ a.long ∙ sym (with_length d records others reviewer token small);
    bits = own_with marks
        ∙ ap (λ (n : ℕ). marks_by (mark_answer records n reviewer token) (λ _. d) token (own_bits reviewer records marks)) a.long
        ∙ ap (marks_by (mark_answer records (length others) reviewer token) (λ _. d) token) a.bits ∙ sym (own_with others);
  }

-- ---- a call

module _ (records : ℕ) (marks : List ℕ) where
  pub leaves_length : (c : ReviewCall) → length (leaves records marks c) ≡ length marks
  unfolding ticked_marks unticked_marks
  leaves_length (tick reviewer token) = with_length 1 records marks reviewer token (omega arith)
  leaves_length (untick reviewer token) = with_length 0 records marks reviewer token (omega arith)
  leaves_length (is_ticked reviewer token) = refl
  leaves_length (ticks reviewer) = refl

  pub leaves_rest : (c : ReviewCall) → drop records (leaves records marks c) ≡ drop records marks
  unfolding ticked_marks unticked_marks
  leaves_rest (tick reviewer token) = with_rest 1 records marks reviewer token (omega arith)
  leaves_rest (untick reviewer token) = with_rest 0 records marks reviewer token (omega arith)
  leaves_rest (is_ticked reviewer token) = refl
  leaves_rest (ticks reviewer) = refl

  pub leaves_other : (k : ℕ) (c : ReviewCall) → (caller c ≤ 1 → caller c ≡ k → ⊥)
      → map (bit k) (leaves records marks c) ≡ map (bit k) marks
  unfolding ticked_marks unticked_marks
  leaves_other k (tick reviewer token) n = with_other 1 records marks reviewer token (omega arith) k n
  leaves_other k (untick reviewer token) n = with_other 0 records marks reviewer token (omega arith) k n
  leaves_other k (is_ticked reviewer token) n = refl
  leaves_other k (ticks reviewer) n = refl

pub leaves_alike : (records : ℕ) (marks others : List ℕ) (c : ReviewCall) → Alike (caller c) records marks others
    → Alike (caller c) records (leaves records marks c) (leaves records others c)
unfolding ticked_marks unticked_marks
leaves_alike records marks others (tick reviewer token) a = alike_with 1 records (omega arith) reviewer token marks others a
leaves_alike records marks others (untick reviewer token) a = alike_with 0 records (omega arith) reviewer token marks others a
leaves_alike records marks others (is_ticked reviewer token) a = a
leaves_alike records marks others (ticks reviewer) a = a

-- ---- what a call tells, by its reviewer's bits

first_bits : (k : ℕ) (s : List ℕ) (i : ℕ) → first_is (is_set k) (drop i s) ≡ first_is (λ d. eqb d 1) (drop i (map (bit k) s))
first_bits k [] zero = refl
first_bits k [] (suc i) = refl
first_bits k (b ∷ s) zero = refl
first_bits k (b ∷ s) (suc i) = first_bits k s i

abbrev read_bits : Result ⊤ Refusal → List ℕ → Result Bool Refusal
read_bits (Ok _) bits = Ok (first_is (λ d. eqb d 1) bits)
read_bits (Err r) bits = Err r

read_bits_lem : (records : ℕ) (marks : List ℕ) (reviewer token : ℕ) → read_answer records marks reviewer token
    ≡ read_bits (mark_answer records (length marks) reviewer token) (drop token (own_bits reviewer records marks))
unfolding read_answer
read_bits_lem records marks reviewer token = go (mark_answer records (length marks) reviewer token) refl
  where
    go : (a : Result ⊤ Refusal) → mark_answer records (length marks) reviewer token ≡ a
        → read_by a reviewer (drop token marks) ≡ read_bits a (drop token (own_bits reviewer records marks))
    go (Ok _) e =
        let h = serves records (length marks) reviewer token e in
        ap Ok
        (first_bits reviewer marks token
        ∙ sym (first_take (λ d. eqb d 1) (map (bit reviewer) marks) records token h.there))
    go (Err r) e = refl

abbrev total : List ℕ → ℕ
total [] = 0
total (d ∷ bits) = d + total bits

ticks_total : (k n : ℕ) (s : List ℕ) → ticks_in k (take n s) ≡ total (take n (map (bit k) s))
unfolding ticks_in
ticks_total k zero s = refl
ticks_total k (suc n) [] = refl
ticks_total k (suc n) (b ∷ s) = ap (λ (m : ℕ). bit k b + m) (ticks_total k n s)

-- the answer by the number of entries and that of ticks
abbrev count_with : ℕ → ℕ → ℕ → ℕ → Result ℕ Refusal
count_with records entries reviewer n =
    cond (ltb 1 reviewer) (Err (NoReviewer reviewer))
    (cond (ltb entries records) (Err (FewMarks records)) (Ok n))

count_bits : (records : ℕ) (marks : List ℕ) (reviewer : ℕ)
    → count_answer records marks reviewer ≡ count_with records (length marks) reviewer (total (own_bits reviewer records marks))
unfolding count_answer
count_bits records marks reviewer = ap (count_with records (length marks) reviewer) (ticks_total reviewer records marks)

pub tells_alike : (records : ℕ) (marks others : List ℕ) (c : ReviewCall) → Alike (caller c) records marks others
    → tells records marks c ≡ tells records others c
tells_alike records marks others (tick reviewer token) a =
    ap (λ (n : ℕ). marked (mark_answer records n reviewer token)) a.long
tells_alike records marks others (untick reviewer token) a =
    ap (λ (n : ℕ). marked (mark_answer records n reviewer token)) a.long
tells_alike records marks others (is_ticked reviewer token) a =
    let bits = own_bits reviewer records marks in
    ap read (read_bits_lem records marks reviewer token
    ∙ ap (λ (n : ℕ). read_bits (mark_answer records n reviewer token) (drop token bits)) a.long
    ∙ ap (λ (s : List ℕ). read_bits (mark_answer records (length others) reviewer token) (drop token s)) a.bits
    ∙ sym (read_bits_lem records others reviewer token))
tells_alike records marks others (ticks reviewer) a =
    let bits = own_bits reviewer records marks in
    ap counted (count_bits records marks reviewer
    ∙ ap (λ (n : ℕ). count_with records n reviewer (total bits)) a.long
    ∙ ap (λ (s : List ℕ). count_with records (length others) reviewer (total s)) a.bits
    ∙ sym (count_bits records others reviewer))
