-- Runs of stores into lent memory: joined, copied, and what they leave.
-- Assumes nothing.
use Prim.Native.Nat.{ℕ, suc, ◌+◌, ◌-◌, ◌≤◌, ◌<◌}
use mathlib.Core.Path.{◌≡◌, refl, sym, ap, ◌∙◌}
use mathlib.Core.List.{List, [], ◌∷◌, ◌++◌}
use native.Mathlib.Nat.{add-zero, add-suc, suc-add, zero-add, sub-zero}
use native.Mathlib.Numerals.{add-one}
use native.Mathlib.Omega.{arith}
use lib.ListN.{length, take, drop, get_or, set, length-append, length-set}
use lib.Seq.{sets, sets-eq, drop-cons, length-take-le}
use borrow.Rule.Slice.PartMut.{put_mid}
use Rattle.std.proofs.Common.{append_assoc, drop-drop}

-- `new` is stored in memory that held `old`, from place `at` on: the place after it, and what the memory then holds
pub record Stored {A : Type 0} (old : List A) (at : ℕ) (new : List A) (behind : ℕ) (held : List A) : Type 0 where
  pub place : behind ≡ at + length new
  pub holds : held ≡ sets old at new

pub store_none : {A : Type 0} (old : List A) (at : ℕ) → Stored old at [] at old
store_none old at = record { place = sym (add-zero at); holds = refl }

pub sets_append : {A : Type 0} (l : List A) (i : ℕ) (a b : List A) → sets l i (a ++ b) ≡ sets (sets l i a) (i + length a) b
sets_append l i [] b = rw add-zero
sets_append l i (x ∷ a) b = rw (add-suc, ← suc-add) (sets_append (set l i x) (suc i) a b)

-- one run after another
pub store_append : {A : Type 0} {l l₁ l₂ a b : List A} {i m₁ m₂ : ℕ} → Stored l i a m₁ l₁ → Stored l₁ m₁ b m₂ l₂
    → Stored l i (a ++ b) m₂ l₂
store_append {l = l} {a = a} {b = b} {i = i} p q =
    record {
      place = omega (arith, p.place, q.place, length-append a b);
      holds = rw (sets_append l i a b, ← p.place, ← p.holds) q.holds;
    }

-- stores from the front: how many
pub front_long : {A : Type 0} {old new held : List A} {n : ℕ} → Stored old 0 new n held → n ≡ length new
front_long s = s.place ∙ zero-add _

-- and they leave what was stored, and the rest as it was
pub overwritten : {A : Type 0} {old new held : List A} {n : ℕ} → Stored old 0 new n held → length new ≤ length old
    → held ≡ new ++ drop (length new) old
overwritten {old = old} {new = new} s h = s.holds ∙ rw zero-add at (sets-eq new old 0 (rw zero-add h))

-- the part of memory from `at` to `end` that is overwritten, as `copy_from_slice` leaves it
pub store_part : {A : Type 0} (old new part : List A) (at end : ℕ) → part ≡ new → end ≡ at + length new → end ≤ length old
    → Stored old at new end (put_mid at (end - at) old part)
store_part old new part at end is long room =
    let size : end - at ≡ length new = omega arith in
    let behind = drop-drop (length new) at old in
    let held : put_mid at (end - at) old part ≡ sets old at new =
    rw (is, sets-eq new old at (omega arith), size, behind) (sym (append_assoc (take at old) new (drop (at + length new) old))) in
    record { place = long; holds = held }

-- ---- the front of s, copied to place o: what is still to be copied after j bytes

module _ (s out : List ℕ) (o : ℕ) where
  copy_none : (n : ℕ) → sets out (o + 0) (take (n - 0) (drop 0 s)) ≡ sets out o (take n s)
  copy_none n = rw (add-zero, sub-zero)

  copy_more : (n j : ℕ) → j < n → j < length s
      → sets (set out (o + j) (get_or s j 0)) (o + (j + 1)) (take (n - (j + 1)) (drop (j + 1) s))
      ≡ sets out (o + j) (take (n - j) (drop j s))
  copy_more n j h l =
      let e : n - j ≡ suc (n - (j + 1)) = omega arith in
      let f : o + (j + 1) ≡ suc (o + j) = omega arith in
      rw (e, f, drop-cons s j 0 l, add-one)

  copy_done : (n j : ℕ) → n ≤ j → sets out (o + j) (take (n - j) (drop j s)) ≡ out
  copy_done n j h = let e : n - j ≡ 0 = omega arith in rw e

-- ---- a loop that copies the first n bytes of s to place o of memory that held `old`: j of them are copied

pub record Copying (s : List ℕ) (n : ℕ) (old : List ℕ) (o : ℕ) (out : List ℕ) (j : ℕ) : Type 0 where
  pub within : j ≤ n
  pub long : length out ≡ length old
  pub left : sets out (o + j) (take (n - j) (drop j s)) ≡ sets old o (take n s)

module _ (s : List ℕ) (n : ℕ) (old : List ℕ) (o : ℕ) where
  pub copying_start : Copying s n old o old 0
  copying_start = record { within = omega arith; long = refl; left = copy_none s old o n }

  pub copying_turn : (out : List ℕ) (j : ℕ) → j < n → n ≤ length s → Copying s n old o out j
      → Copying s n old o (set out (o + j) (get_or s j 0)) (j + 1)
  copying_turn out j h l c =
      record {
        within = omega arith;
        long = simp length-set c.long;
        left = copy_more s out o n j h (omega arith) ∙ c.left;
      }

  pub copying_end : (out : List ℕ) (j r : ℕ) → n ≤ j → n ≤ length s → r ≡ o + n → Copying s n old o out j
      → Stored old o (take n s) r out
  copying_end out j r h l e c =
      record {
        place = e ∙ ap (λ (k : ℕ). o + k) (sym (length-take-le n s l));
        holds = sym (copy_done s out o n j h) ∙ c.left;
      }
