-- What a column is of any bytes, UTF-8 or not, and that it is counted on the last line alone.
-- Assumes nothing.
use Prim.Native.Nat.{ℕ, zero, suc, ◌+◌, ◌-◌, ◌<◌}
use mathlib.Core.Path.{◌≡◌, refl, sym, ap, ◌∙◌}
use mathlib.Core.Bool.{Bool, true, false, cond, not}
use mathlib.Core.List.{List, [], ◌∷◌, ◌++◌}
use native.Mathlib.Omega.{arith}
use Rattle.std.specs.Prelude.{count_by}
use Rattle.std.proofs.lemmas.List.{take_all}
use Rattle.std.proofs.lemmas.List.Recursion.{is_count_by}
use borrow.Author.Tests.{eq-eqb, ne_eqb}
use lib.Dec.{eqb}
use lib.ListN.{length, get_or, take, drop, length-drop}
use lib.Seq.{drop-drop, get_or-drop}
use Rattle.text_classes.specs.Classes.{continuation}
use Rattle.lexer_place.specs.Positions.{column_behind}

-- what one byte does to the column
abbrev pub turned : ℕ → ℕ → ℕ
turned b c = cond (eqb b 10) 1 (cond (continuation b) c (c + 1))

-- the column after an LF does not depend on what stands before it
lf_resets : (k c : ℕ) (s : List ℕ) → get_or s k 0 ≡ 10 → column_behind c s ≡ column_behind 1 (drop (suc k) s)
unfolding column_behind
lf_resets k c [] e = absurd (omega arith)
lf_resets zero c (b ∷ s) e = ap (λ (n : ℕ). column_behind n s) (rw (eq-eqb b 10 e))
lf_resets (suc k) c (b ∷ s) e = lf_resets k (turned b c) s e

pub column_after_lf : (s : List ℕ) (a i c : ℕ) → a < i → get_or s (i - 1) 0 ≡ 10
    → column_behind c (drop a s) ≡ column_behind 1 (drop i s)
column_after_lf s a i c h e =
    let k = i - 1 - a in
    let same : a + k ≡ i - 1 = omega arith in
    let on : a + suc k ≡ i = omega arith in
    lf_resets k c (drop a s) (get_or-drop a s k 0 ∙ ap (λ (n : ℕ). get_or s n 0) same ∙ e)
    ∙ ap (column_behind 1) (drop-drop (suc k) a s ∙ ap (λ (n : ℕ). drop n s) on)

-- ---- what a column is, of any bytes

-- the characters that begin in some bytes: the bytes that are not 80 to BF
unfoldable pub begins : List ℕ → ℕ
begins [] = 0
begins (b ∷ s) = cond (continuation b) (begins s) (suc (begins s))

abbrev pub WithoutLf : List ℕ → Type 0
WithoutLf [] = Unit
WithoutLf (b ∷ s) = (b ≡ 10 → ⊥) × WithoutLf s

-- through bytes without an LF the column grows by the characters that begin in them
pub column_plain : (s : List ℕ) (c : ℕ) → WithoutLf s → column_behind c s ≡ c + begins s
unfolding column_behind begins
column_plain [] c h = omega arith
column_plain (b ∷ s) c h = rw (ne_eqb b 10 h.0) (go (continuation b) (λ k. column_plain s k h.1))
  where
    go : (t : Bool) → ((k : ℕ) → column_behind k s ≡ k + begins s)
        → column_behind (cond t c (c + 1)) s ≡ c + cond t (begins s) (suc (begins s))
    go true ih = ih c
    go false ih = ih (c + 1) ∙ omega arith

-- after the last LF the column is 1 plus the characters that begin since
pub column_since : (s t : List ℕ) (c : ℕ) → WithoutLf t → column_behind c (s ++ 10 ∷ t) ≡ 1 + begins t
unfolding column_behind
column_since [] t c h = column_plain t 1 h
column_since (b ∷ s) t c h = column_since s t (turned b c) h

-- the characters that begin, counted one by one
begins_counted : (s : List ℕ) → begins s ≡ count_by (λ (b : ℕ). not (continuation b)) s
unfolding begins
begins_counted = is_count_by begins (λ (b : ℕ). not (continuation b)) refl (λ b s. go (continuation b) s)
  where
    go : (t : Bool) (s : List ℕ) → cond t (begins s) (suc (begins s)) ≡ cond (not t) (1 + begins s) (begins s)
    go true s = refl
    go false s = omega arith

without_lf : (s : List ℕ) → ((k : ℕ) → k < length s → get_or s k 0 ≡ 10 → ⊥) → WithoutLf s
without_lf [] h = tt
without_lf (b ∷ s) h = (h 0 (omega arith), without_lf s (λ k l. h (suc k) (omega arith)))

-- on one line, and behind the last LF
pub column_one_line : (s : List ℕ) → ((k : ℕ) → k < length s → get_or s k 0 ≡ 10 → ⊥)
    → column_behind 1 s ≡ 1 + count_by (λ (b : ℕ). not (continuation b)) s
column_one_line s h = column_plain s 1 (without_lf s h) ∙ ap (λ (n : ℕ). 1 + n) (begins_counted s)

pub column_last_line : (s : List ℕ) (i : ℕ) → i < length s → get_or s i 0 ≡ 10
    → ((k : ℕ) → i < k → k < length s → get_or s k 0 ≡ 10 → ⊥)
    → column_behind 1 s ≡ 1 + count_by (λ (b : ℕ). not (continuation b)) (drop (i + 1) s)
column_last_line s i l e h =
    column_after_lf s 0 (i + 1) 1 (omega arith) (ap (λ (n : ℕ). get_or s n 0) (omega arith) ∙ e)
    ∙ column_one_line (drop (i + 1) s) (λ k m f. h (i + 1 + k) (omega arith) (omega (arith, length-drop (i + 1) s)) (sym (get_or-drop (i + 1) s k 0) ∙ f))

-- a part up to the end
pub up_to_end : (s : List ℕ) (n : ℕ) → take (length s - n) (drop n s) ≡ drop n s
up_to_end s n = take_all (length s - n) (drop n s) (omega (arith, length-drop n s))
