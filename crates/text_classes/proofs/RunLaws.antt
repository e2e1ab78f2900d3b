-- The laws of a run of bytes at a place, for the loops that walk it byte by byte or block by block.
-- Assumes nothing.
use Prim.Native.Nat.{ℕ, zero, suc, ◌+◌, ◌-◌, ◌≤◌, ◌<◌}
use mathlib.Core.Path.{◌≡◌, refl, ap, ◌∙◌, subst}
use mathlib.Core.Bool.{Bool, true, false, cond}
use mathlib.Core.List.{List, [], ◌∷◌}
use native.Mathlib.Decide.{dec_lt}
use native.Mathlib.Numerals.{add-one}
use native.Mathlib.Omega.{arith}
use lib.ListN.{length, get_or, take, drop, drop_of_length-le, get_or-eq_default}
use lib.Seq.{drop-cons, drop-drop}
use Rattle.std.proofs.Common.{take-take, length-take}
use Rattle.text_classes.specs.Runs.{run}
use Rattle.text_classes.proofs.Conds.{cond_case}

module _ (p : ℕ → Bool) where
  pub run_le : (s : List ℕ) → run p s ≤ length s
  unfolding run
  run_le [] = omega arith
  run_le (b ∷ s) =
      let r = run_le s in
      cond_case (λ (n : ℕ). n ≤ length (b ∷ s)) (p b) (λ e. omega arith) (λ e. omega arith)

  module _ (s : List ℕ) (i : ℕ) where
    pub run_step : i < length s → p (get_or s i 0) ≡ true → run p (drop i s) ≡ suc (run p (drop (i + 1) s))
    unfolding run
    run_step h t = rw (add-one, drop-cons s i 0, t)

    pub run_stop : i < length s → p (get_or s i 0) ≡ false → run p (drop i s) ≡ 0
    unfolding run
    run_stop h t = rw (drop-cons s i 0, t)

    pub run_end : length s ≤ i → run p (drop i s) ≡ 0
    unfolding run
    run_end h = rw (drop_of_length-le s h)

-- the n bytes from i on pass the test
abbrev pub Block : (ℕ → Bool) → List ℕ → ℕ → ℕ → Type 0
Block p s i n = run p (drop i s) ≡ n + run p (drop (i + n) s)

module _ (p : ℕ → Bool) (s : List ℕ) (i : ℕ) where
  pub block_start : Block p s i 0
  block_start =
      let same : i ≡ i + 0 = omega arith in
      omega (arith, ap (λ (k : ℕ). run p (drop k s)) same)

  -- where j bytes pass, and the byte after them too, j + 1 bytes do
  pub block_step : (j : ℕ) → i + j < length s → p (get_or s (i + j) 0) ≡ true → Block p s i j → Block p s i (j + 1)
  block_step j h t b =
      let same : i + j + 1 ≡ i + (j + 1) = omega arith in
      let more : run p (drop (i + j) s) ≡ suc (run p (drop (i + (j + 1)) s)) =
      run_step p s (i + j) h t ∙ ap (λ (k : ℕ). suc (run p (drop k s))) same in
      omega (arith, b, more)

  pub block_end : (j n : ℕ) → j ≡ n → Block p s i j → Block p s i n
  block_end j n e b = subst (λ (k : ℕ). Block p s i k) e b

-- a part of n bytes from i on, all of which pass the test, is a block of the whole
run_take : (p : ℕ → Bool) (n : ℕ) (s : List ℕ) → run p (take n s) ≡ n → run p s ≡ n + run p (drop n s)
unfolding run
run_take p zero s e = omega arith
run_take p (suc n) [] e = absurd (omega (arith, e))
run_take p (suc n) (b ∷ s) e = go (p b) refl (run_take p n s)
  where
    go : (t : Bool) → p b ≡ t → (run p (take n s) ≡ n → run p s ≡ n + run p (drop n s)) → cond (p b) (suc (run p s)) 0 ≡ suc n + run p (drop n s)
    go true t more = rw t (omega (arith, more (omega (arith, rw t at e))))
    go false t more = absurd (omega (arith, rw t at e))

-- of the part from i on the first n bytes, as a slice of their own
pub chunk_block : (p : ℕ → Bool) (s : List ℕ) (i n : ℕ) {chunk : List ℕ} → i ≤ length s → n ≤ length (take (length s - i) (drop i s))
    → chunk ≡ take n (take (length s - i) (drop i s)) → run p chunk ≡ n → (i + n ≤ length s) × Block p s i n
chunk_block p s i n h l is all =
    let room : n ≤ length s - i = omega (arith, length-take (length s - i) (drop i s)) in
    let run_n : run p (take n (drop i s)) ≡ n = rw (is, take-take n (length s - i) (drop i s) room) at all in
    (omega arith, rw (← drop-drop n i s) (run_take p n (drop i s) run_n))

-- r is a place of s from which a scan goes on as from `start`: it ends at the same place; `reach` is how far it reaches from the
-- front of a list
abbrev pub SameEnd : (List ℕ → ℕ) → List ℕ → ℕ → ℕ → Type 0
SameEnd reach s start r = (r ≤ length s) × (r + reach (drop r s) ≡ start + reach (drop start s))

-- what a loop over a run shows: it begins at the start, a block or a byte leaves the end where it was, and where
-- nothing is left of the run its end is reached
module _ (p : ℕ → Bool) (s : List ℕ) (start : ℕ) where
  pub same_end_start : start ≤ length s → SameEnd (run p) s start start
  same_end_start h = (h, refl)

  pub same_end_block : (i n : ℕ) → i + n ≤ length s → Block p s i n → SameEnd (run p) s start i → SameEnd (run p) s start (i + n)
  same_end_block i n h b e = (h, omega arith)

  pub same_end_byte : (i : ℕ) → i < length s → p (get_or s i 0) ≡ true → SameEnd (run p) s start i → SameEnd (run p) s start (i + 1)
  same_end_byte i h t e = (omega arith, omega (arith, run_step p s i h t))

  pub same_end_reached : (r : ℕ) → run p (drop r s) ≡ 0 → SameEnd (run p) s start r → r ≡ start + run p (drop start s)
  same_end_reached r z e = omega arith

-- a run that is empty, and one that is not, by the first byte
pub run_none : (p : ℕ → Bool) (s : List ℕ) → 0 < length s → (n : ℕ) → n ≡ run p s → n ≤ 0 → p (get_or s 0 0) ≡ false
run_none p s h n e z = go (p (get_or s 0 0)) refl
  where
    go : (t : Bool) → p (get_or s 0 0) ≡ t → p (get_or s 0 0) ≡ false
    go true f = absurd (omega (arith, run_step p s 0 h f))
    go false f = f

pub run_first : (p : ℕ → Bool) (s : List ℕ) → 0 < length s → (n : ℕ) → n ≡ run p s → 0 < n → p (get_or s 0 0) ≡ true
run_first p s h n e z = go (p (get_or s 0 0)) refl
  where
    go : (t : Bool) → p (get_or s 0 0) ≡ t → p (get_or s 0 0) ≡ true
    go true f = f
    go false f = absurd (omega (arith, run_stop p s 0 h f))

-- a run ends where the byte is not in the class, or where there is none
pub run_halts : (p : ℕ → Bool) (s : List ℕ) (i : ℕ) → p (get_or s i 0) ≡ false → run p (drop i s) ≡ 0
run_halts p s i e =
    elim (dec_lt i (length s)) [ yes l ↦ run_stop p s i l e | no l ↦ run_end p s i (omega arith) ]

-- a byte that is not 0 stands within the list
pub there : (s : List ℕ) (i : ℕ) → 0 < get_or s i 0 → i < length s
there s i h =
    elim (dec_lt i (length s)) [ yes l ↦ l | no l ↦ absurd (omega (arith, get_or-eq_default s 0 {n = i} (omega arith))) ]
