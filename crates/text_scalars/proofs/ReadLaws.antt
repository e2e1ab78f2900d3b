-- The laws of reading UTF-8: `scalars` undoes `encodes`, and `valid_prefix` is the length of the longest valid prefix.
-- Assumes nothing.
use Prim.Native.Nat.{ℕ, zero, suc, ◌+◌, ◌≤◌, ◌<◌}
use mathlib.Core.Path.{◌≡◌, refl, sym, ap, ◌∙◌, subst}
use mathlib.Core.Logic.{inl, ◌↔◌}
use mathlib.Core.List.{List, [], ◌∷◌, ◌++◌, append_assoc, append-nil}
use mathlib.Core.Bool.{Bool, true, false, cond, ◌&&◌}
use native.Mathlib.Omega.{arith}
use lib.ListN.{length, get_or, take, drop, length-append, length-drop, take-append-drop}
use lib.Seq.{take-append_seam, drop_at, drop-nil, take-length, drop-drop, length-take-le}
use lib.Dec.{eqb}
use borrow.Author.Tests.{eqb-true, eq-eqb, ltb-true}
use Rattle.text_scalars.specs.Utf8.{Scalar, encode_scalar, encodes, All, Utf8}
use Rattle.text_scalars.specs.Utf8Read.{is_scalar, ascii, guess, starts, char_len, character, scalars_from, scalars, valid_prefix, Along}
use Rattle.text_classes.specs.Runs.{run}
use Rattle.text_classes.proofs.Conds.{not_both}
use Rattle.text_classes.proofs.RunLaws.{run_le, run_step}
use Rattle.text_scalars.proofs.EncodeLaws.{encode_1, encode_length, guess_encode, scalar_true, true_scalar}

-- ---- one character

starts_self : (x t : List ℕ) → starts x (x ++ t) ≡ true
starts_self [] t = refl
starts_self (a ∷ x) t = simp (eq-eqb a a refl, starts_self x t)

starts_sound : (x s : List ℕ) → starts x s ≡ true → x ++ drop (length x) s ≡ s
starts_sound [] s h = refl
starts_sound (a ∷ x) [] h = not_both h refl
starts_sound (a ∷ x) (b ∷ s) h = go (eqb a b) refl (starts_sound x s) h
  where
    go : (e : Bool) → eqb a b ≡ e → (starts x s ≡ true → x ++ drop (length x) s ≡ s)
        → (e && starts x s) ≡ true → (a ∷ x) ++ drop (length (a ∷ x)) (b ∷ s) ≡ b ∷ s
    go true e ih h = rw (eqb-true a b e) (ap (λ (l : List ℕ). b ∷ l) (ih h))
    go false e ih h = not_both h refl

pub char_length : (c : ℕ) → Scalar c → (t : List ℕ) → char_len (encode_scalar c ++ t) ≡ length (encode_scalar c)
unfolding char_len
char_length c h t = simp (guess_encode c t h, scalar_true c h, starts_self)

-- what a length that is not 0 says: the bytes begin with the encoding of their value
pub record Char (s : List ℕ) (n : ℕ) : Type 0 where
  pub scalar : Scalar (guess s)
  pub size : length (encode_scalar (guess s)) ≡ n
  pub split : encode_scalar (guess s) ++ drop n s ≡ s

pub char_sound : (s : List ℕ) (n : ℕ) → char_len s ≡ suc n → Char s (suc n)
unfolding char_len
char_sound s n = go (is_scalar (guess s)) (starts (encode_scalar (guess s)) s) refl refl
  where
    go : (x y : Bool) → is_scalar (guess s) ≡ x → starts (encode_scalar (guess s)) s ≡ y
        → cond (x && y) (length (encode_scalar (guess s))) 0 ≡ suc n → Char s (suc n)
    go true true ex ey h =
        record { scalar = true_scalar _ ex; size = h; split = rw h at (starts_sound (encode_scalar (guess s)) s ey) }
    go true false ex ey h = absurd (omega arith)
    go false y ex ey h = absurd (omega arith)

pub char_le : (s : List ℕ) → char_len s ≤ length s
char_le s = go (char_len s) refl
  where
    go : (m : ℕ) → char_len s ≡ m → char_len s ≤ length s
    go zero e = omega arith
    go (suc n) e =
        let h = char_sound s n e in
        omega (arith, ap length h.split, length-append (encode_scalar (guess s)) (drop (suc n) s), h.size)

-- ---- the scalar values of the characters

from_drop : (k : ℕ) (s : List ℕ) → scalars_from k s ≡ scalars (drop k s)
unfolding scalars_from
from_drop zero s = refl
from_drop (suc k) [] = refl
from_drop (suc k) (a ∷ s) = from_drop k s

pub scalars_none : (s : List ℕ) → char_len s ≡ 0 → scalars s ≡ []
unfolding scalars_from
scalars_none [] h = refl
scalars_none (a ∷ s) h = rw h

pub scalars_more : (s : List ℕ) (n : ℕ) → char_len s ≡ suc n → scalars s ≡ guess s ∷ scalars (drop (suc n) s)
unfolding scalars_from char_len guess encode_scalar
scalars_more [] n h = absurd (omega arith)
scalars_more (a ∷ s) n h = rw h (ap (λ (l : List ℕ). guess (a ∷ s) ∷ l) (from_drop n s))

-- the first character is that of c
pub scalars_char : (c : ℕ) → Scalar c → (t : List ℕ) → scalars (encode_scalar c ++ t) ≡ c ∷ scalars t
scalars_char c h t = go (length (encode_scalar c)) refl
  where
    go : (m : ℕ) → length (encode_scalar c) ≡ m → scalars (encode_scalar c ++ t) ≡ c ∷ scalars t
    go zero e = absurd (omega (arith, (encode_length c).0))
    go (suc n) e =
        let more = scalars_more (encode_scalar c ++ t) n (char_length c h t ∙ e) in
        rw (more, guess_encode c t h, drop_at (encode_scalar c) t (suc n) e)

pub scalars_encodes : (cs : List ℕ) → All Scalar cs → (t : List ℕ) → scalars (encodes cs ++ t) ≡ cs ++ scalars t
scalars_encodes [] h t = refl
scalars_encodes (c ∷ cs) h t =
    rw (append_assoc (encode_scalar c) (encodes cs) t, scalars_char c h.0 (encodes cs ++ t), scalars_encodes cs h.1 t)

-- cs are scalar values, and s begins with their encodings
pub record Front (s cs : List ℕ) : Type 0 where
  pub each : All Scalar cs
  pub rest : List ℕ
  pub split : encodes cs ++ rest ≡ s

front_from : (k : ℕ) (s : List ℕ) → Front (drop k s) (scalars_from k s)
unfolding scalars_from
front_from k [] = record { each = tt; rest = []; split = sym (drop-nil k) }
front_from zero (a ∷ s) = go (char_len (a ∷ s)) refl (λ n. front_from n s)
  where
    go : (m : ℕ) → char_len (a ∷ s) ≡ m → ((n : ℕ) → Front (drop n s) (scalars_from n s))
        → Front (a ∷ s) (character m (guess (a ∷ s)) (λ n. scalars_from n s))
    go zero e ih = record { each = tt; rest = a ∷ s; split = refl }
    go (suc n) e ih =
        let f = ih n in
        let h = char_sound (a ∷ s) n e in
        record {
          each = (h.scalar, f.each);
          rest = f.rest;
          split = append_assoc (encode_scalar (guess (a ∷ s))) (encodes (scalars_from n s)) f.rest ∙ rw f.split h.split;
        }
front_from (suc k) (a ∷ s) = front_from k s

pub front : (s : List ℕ) → Front s (scalars s)
front s = front_from zero s

-- ---- reading and encoding are inverse

pub scalars_of : (cs : List ℕ) → All Scalar cs → scalars (encodes cs) ≡ cs
unfolding scalars_from
scalars_of cs h =
    let e : encodes cs ++ [] ≡ encodes cs = append-nil (encodes cs) in
    ap scalars (sym e) ∙ scalars_encodes cs h [] ∙ append-nil cs

pub encodes_of : (s : List ℕ) → Utf8 s → encodes (scalars s) ≡ s
encodes_of s (cs, h, e) = ap (λ (l : List ℕ). encodes (scalars l)) (sym e) ∙ ap encodes (scalars_of cs h) ∙ e

-- there is one way only to be UTF-8
pub same_scalars : (cs ds : List ℕ) → All Scalar cs → All Scalar ds → encodes cs ≡ encodes ds → cs ≡ ds
same_scalars cs ds h k e = sym (scalars_of cs h) ∙ ap scalars e ∙ scalars_of ds k

pub encodes_append : (cs ds : List ℕ) → encodes (cs ++ ds) ≡ encodes cs ++ encodes ds
encodes_append [] ds = refl
encodes_append (c ∷ cs) ds = rw (encodes_append cs ds) (sym (append_assoc (encode_scalar c) (encodes cs) (encodes ds)))

-- ---- the longest valid prefix

take_valid : (s : List ℕ) → take (valid_prefix s) s ≡ encodes (scalars s)
unfolding valid_prefix
take_valid s =
    ap (take (length (encodes (scalars s)))) (sym (front s).split) ∙ take-append_seam (encodes (scalars s)) (front s).rest

pub valid_le : (s : List ℕ) → valid_prefix s ≤ length s
unfolding valid_prefix
valid_le s = omega (arith, ap length (front s).split, length-append (encodes (scalars s)) (front s).rest)

-- it is valid
pub valid_is : (s : List ℕ) → Utf8 (take (valid_prefix s) s)
valid_is s = (scalars s, (front s).each, sym (take_valid s))

-- a valid prefix is passed over
pub valid_append : (p : List ℕ) → Utf8 p → (t : List ℕ) → valid_prefix (p ++ t) ≡ length p + valid_prefix t
unfolding valid_prefix
valid_append p (cs, h, e) t =
    rw (← e, scalars_encodes cs h t, encodes_append cs (scalars t), length-append (encodes cs) (encodes (scalars t)))

-- and no longer prefix is
pub valid_longest : (s : List ℕ) (k : ℕ) → k ≤ length s → Utf8 (take k s) → k ≤ valid_prefix s
valid_longest s k h u =
    let e : valid_prefix s ≡ length (take k s) + valid_prefix (drop k s) =
    ap valid_prefix (sym (take-append-drop k s)) ∙ valid_append (take k s) u (drop k s) in
    omega (arith, e, length-take-le k s h)

-- all of it is valid exactly where its longest valid prefix is all of it
pub utf8_iff : (s : List ℕ) → (valid_prefix s ≡ length s) ↔ Utf8 s
utf8_iff s = (
  λ e. subst (λ (l : List ℕ). Utf8 l) (ap (λ (n : ℕ). take n s) e ∙ take-length s) (valid_is s),
  λ u.
      let whole : Utf8 (take (length s) s) = rw (take-length s) u in
      omega (arith, valid_longest s (length s) (omega arith) whole, valid_le s),
)

-- ---- the same, character by character, for the loop of the check

pub valid_none : (s : List ℕ) → char_len s ≡ 0 → valid_prefix s ≡ 0
unfolding valid_prefix
valid_none s h = rw (scalars_none s h)

pub valid_more : (s : List ℕ) (n : ℕ) → char_len s ≡ suc n → valid_prefix s ≡ suc n + valid_prefix (drop (suc n) s)
unfolding valid_prefix
valid_more s n h =
    rw (scalars_more s n h, length-append (encode_scalar (guess s)) (encodes (scalars (drop (suc n) s))), (char_sound s n h).size)

-- a character of n bytes at a place
pub valid_step : (s : List ℕ) (at n : ℕ) → 0 < n → n ≡ char_len (drop at s)
    → valid_prefix (drop at s) ≡ n + valid_prefix (drop (at + n) s)
valid_step s at zero p h = absurd (omega arith)
valid_step s at (suc n) p h = rw (← drop-drop (suc n) at s) (valid_more (drop at s) n (sym h))

pub valid_end : (s : List ℕ) (at : ℕ) → length s ≤ at → valid_prefix (drop at s) ≡ 0
valid_end s at h = omega (arith, valid_le (drop at s), length-drop at s)

-- a run of ASCII is a run of characters
pub valid_ascii : (s : List ℕ) → valid_prefix s ≡ run ascii s + valid_prefix (drop (run ascii s) s)
unfolding run
valid_ascii [] = omega arith
valid_ascii (a ∷ s) = go (ascii a) refl (valid_ascii s)
  where
    go : (t : Bool) → ascii a ≡ t → valid_prefix s ≡ run ascii s + valid_prefix (drop (run ascii s) s)
        → valid_prefix (a ∷ s) ≡ cond t (suc (run ascii s)) 0 + valid_prefix (drop (cond t (suc (run ascii s)) 0) (a ∷ s))
    go true e ih =
        let h : a < 0x80 = ltb-true a 0x80 e in
        let one : encode_scalar a ++ s ≡ a ∷ s = rw (encode_1 a h) in
        let n : char_len (a ∷ s) ≡ 1 = ap char_len (sym one) ∙ char_length a (inl (omega arith)) s ∙ ap length (encode_1 a h) in
        omega (arith, valid_more (a ∷ s) 0 n, ih)
    go false e ih = omega arith

-- ---- the two ways forward of the check

module _ (s : List ℕ) (at : ℕ) where
  pub passed_ascii : at < length s → ascii (get_or s at 0) ≡ true → (r : ℕ) → r ≡ at + run ascii (drop at s) → (at < r) × Along s at r
  passed_ascii h t r e =
      let n = run ascii (drop at s) in
      let more = run_step ascii s at h t in
      let whole : valid_prefix (drop at s) ≡ n + valid_prefix (drop (at + n) s) =
      rw (← drop-drop n at s) (valid_ascii (drop at s)) in
      let within = run_le ascii (drop at s) in
      rw e (omega (arith, more), (omega arith, omega (arith, within, length-drop at s), omega (arith, whole)))

  pub passed_char : at < length s → (n : ℕ) → 0 < n → n ≡ char_len (drop at s) → (at < at + n) × Along s at (at + n)
  passed_char h n some e =
      (omega arith, (omega arith, omega (arith, char_le (drop at s), length-drop at s), omega (arith, valid_step s at n some e)))
