-- When a text is UTF-8: by the check, and by its bytes where all are ASCII.
-- Assumes nothing.
use Prim.Native.Nat.{zero, ℕ, suc, ◌+◌, ◌-◌, ◌/◌, ◌≤◌, ◌<◌}
use mathlib.Core.Path.{◌≡◌, refl, sym, ap, ◌∙◌}
use mathlib.Core.Bool.{Bool, true, false}
use mathlib.Core.List.{List, [], ◌∷◌}
use native.Mathlib.Omega.{arith}
use native.Mathlib.Decide.{dec_lt}
use borrow.Author.Tests.{eq-eqb, eqb-true, lt-ltb, ltb-true}
use lib.Dec.{ltb, eqb}
use lib.ListN.{length, get_or, take, drop, length-drop}
use lib.Seq.{get_or-take, get_or-drop, length-take-le}
use Rattle.text_classes.specs.Runs.{run}
use Rattle.text_classes.proofs.Conds.{not_both}
use Rattle.text_refusals.specs.Refusals.{limit}
use Rattle.text_scalars.specs.Utf8.{Utf8}
use Rattle.text_scalars.specs.Utf8Read.{ascii}
use Rattle.text.specs.CheckMeans.{check_of}
use Rattle.text_refusals.specs.declared.Refusal.{Refusal}
use Rattle.std.specs.Prelude.{Ok, Err}
use Rattle.text_scalars.proofs.ReadLaws.{utf8_iff}
use Rattle.text.proofs.AnswerLaws.{answer_valid, answer_ascii, checked}
use Rattle.built_broken.specs.Broken.{is_utf8}
use Rattle.built_broken.specs.Walk.{AsciiIn}

module _ (s : List ℕ) where
  pub readable : Utf8 s → is_utf8 s ≡ true
  readable u = eq-eqb _ _ ((utf8_iff s).1 u)

  pub is_read : is_utf8 s ≡ true → Utf8 s
  is_read e = (utf8_iff s).0 (eqb-true _ _ e)

  pub unread : is_utf8 s ≡ false → Utf8 s → ⊥
  unread e u = not_both (readable u) e

  -- by the check's answer
  pub check_valid : Ok (tt {0}) ≡ check_of s → is_utf8 s ≡ true
  check_valid e = readable (checked s (sym e)).1

  pub check_refused : (r : Refusal) → length s ≤ limit → Err r ≡ check_of s → is_utf8 s ≡ false
  check_refused r l e = go (is_utf8 s) refl
    where
      go : (x : Bool) → is_utf8 s ≡ x → is_utf8 s ≡ false
      go true f =
          let valid : Ok (tt {0}) ≡ check_of s = answer_valid s l (eqb-true _ _ f) in
          let z : ◌≡◌ {A = ℕ} 0 1 = cc in
          absurd (omega arith)
      go false f = f

-- ---- ASCII

ascii_run : (s : List ℕ) → AsciiIn s 0 (length s) → run ascii s ≡ length s
unfolding run
ascii_run [] h = refl
ascii_run (b ∷ s) h =
    rw (lt-ltb b 0x80 (h 0 (omega arith) (omega arith))) (ap suc (ascii_run s (λ k l m. h (suc k) (omega arith) (omega arith))))

pub ascii_readable : (s : List ℕ) → length s ≤ limit → AsciiIn s 0 (length s) → is_utf8 s ≡ true
ascii_readable s l h = check_valid s (answer_ascii s l (ascii_run s h))

ascii_there : (u : List ℕ) → run ascii u ≡ length u → (k : ℕ) → k < length u → get_or u k 0 < 0x80
unfolding run
ascii_there [] e k h = absurd (omega arith)
ascii_there (b ∷ u) e k h = go (ltb b 0x80) refl (ascii_there u) k h
  where
    go : (x : Bool) → ltb b 0x80 ≡ x → (run ascii u ≡ length u → (j : ℕ) → j < length u → get_or u j 0 < 0x80) → (k : ℕ)
        → k < suc (length u) → get_or (b ∷ u) k 0 < 0x80
    go true f more zero h = ltb-true b 0x80 f
    go true f more (suc k) h = more (omega (arith, rw f at e)) k (omega arith)
    go false f more k h = absurd (omega (arith, rw f at e))

-- the bytes from i up to j, asked for by themselves
pub ascii_part : (s : List ℕ) (i j : ℕ) → i ≤ j → j ≤ length s
    → eqb (run ascii (take (j - i) (drop i s))) (length (take (j - i) (drop i s))) ≡ true → AsciiIn s i j
ascii_part s i j h l e k from to =
    let u = take (j - i) (drop i s) in
    let size = length-take-le (j - i) (drop i s) (omega (arith, length-drop i s)) in
    let at : i + (k - i) ≡ k = omega arith in
    let there = ascii_there u (eqb-true _ _ e) (k - i) (omega arith) in
    let byte = get_or-take (j - i) (drop i s) (k - i) 0 (omega arith) ∙ get_or-drop i s (k - i) 0 ∙ ap (λ (x : ℕ). get_or s x 0) at in
    omega (arith, there, byte)

-- two parts that meet or overlap
pub ascii_joined : (s : List ℕ) (a b z : ℕ) → a ≤ b → AsciiIn s 0 b → AsciiIn s a z → AsciiIn s 0 z
ascii_joined s a b z h front back k l m = elim (dec_lt k b) [ yes x ↦ front k l x | no x ↦ back k (omega arith) m ]

-- up to three bytes are the first, the middle one and the last
pub ascii_few : (s : List ℕ) (n : ℕ) → n < 4 → get_or s 0 0 < 0x80 → get_or s (n / 2) 0 < 0x80 → get_or s (n - 1) 0 < 0x80 → AsciiIn s 0 n
ascii_few s n small first middle last k l m =
    elim (dec_lt 0 k) [
      | no h ↦ let same : k ≡ 0 = omega arith in omega (arith, ap (λ (x : ℕ). get_or s x 0) same)
      | yes h ↦ elim (dec_lt k (n - 1)) [
        | no g ↦ let same : k ≡ n - 1 = omega arith in omega (arith, ap (λ (x : ℕ). get_or s x 0) same)
        | yes g ↦ let same : k ≡ n / 2 = omega arith in omega (arith, ap (λ (x : ℕ). get_or s x 0) same)
      ]
    ]
