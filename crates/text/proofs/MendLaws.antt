-- What the length of a refusal tells. No character stands after the longest valid prefix, so further bytes mend what is
-- left exactly where all of it begins a character.
-- Assumes nothing.
use Prim.Native.Nat.{ℕ, ◌+◌, ◌≤◌}
use mathlib.Core.Path.{◌≡◌, refl, sym, ap, ◌∙◌, subst}
use mathlib.Core.Logic.{◌↔◌}
use mathlib.Core.List.{List, [], ◌∷◌, ◌++◌, append_assoc, append-nil}
use native.Mathlib.Omega.{arith}
use native.Mathlib.Decide.{dec_lt}
use lib.ListN.{length, take, drop, length-append, length-drop, take-append-drop}
use lib.Seq.{take-length, take-append_seam, take-append-le, length-take-le}
use borrow.Author.Tests.{eq-eqb}
use Rattle.text_scalars.specs.Utf8.{Scalar, encode_scalar, encodes, All, Utf8}
use Rattle.text_scalars.specs.Utf8Read.{valid_prefix}
use Rattle.text.specs.CheckMeans.{Begins, faulty}
use Rattle.text.specs.CheckMeans.{check_of}
use Rattle.text.specs.CheckMeans.{Longest}
use Rattle.text.specs.LengthTells.{Mendable, LengthTells, LengthElse}
use Rattle.text_refusals.specs.declared.Refusal.TheVariants.{NotUtf8, TooLong, FewTokens, ShortOutput, FewErrors, OutOfPlace, NoKind, AfterEnd, NoEdition, TooDeep, NoReviewer, FewMarks, TotalFull}
use Rattle.std.specs.Prelude.{Err}
use Rattle.text_classes.proofs.Conds.{by_eq}
use Rattle.text_scalars.proofs.EncodeLaws.{encode_length}
use Rattle.text_scalars.proofs.ReadLaws.{utf8_iff, valid_append, valid_longest}
use Rattle.text_scalars.proofs.CutLaws.{scalar_utf8, utf8_append}
use Rattle.text.proofs.AnswerLaws.{longest_one, check_means}

faulty_none : (n left : ℕ) → faulty n left ≡ 0 → n ≡ left
faulty_none n left =
    by_eq (λ (r : ℕ). r ≡ 0 → n ≡ left) n left (λ e z. e)
    λ d. by_eq (λ (r : ℕ). r ≡ 0 → n ≡ left) n 0 (λ e z. absurd (omega arith)) (λ e z. absurd (e z))

faulty_few : (n left : ℕ) → n ≤ 3 → faulty n left ≤ 3
faulty_few n left h =
    by_eq (λ (r : ℕ). r ≤ 3) n left (λ e. omega arith)
    λ d. by_eq (λ (r : ℕ). r ≤ 3) n 0 (λ e. omega arith) (λ e. h)

-- where x and y joined are u and v joined, the shorter of x and u begins the longer
shorter_begins : (x y u v : List ℕ) → x ++ y ≡ u ++ v → length x ≤ length u → take (length x) u ≡ x
shorter_begins x y u v e h =
    sym (take-append-le (length x) u v h) ∙ ap (take (length x)) (sym e) ∙ take-append_seam x y

-- ---- what is left after the longest valid prefix

module _ (s : List ℕ) (n : ℕ) (l : Longest s n) where
  abbrev rest : List ℕ
  rest = drop n s

  parts : (more : List ℕ) → take n s ++ (rest ++ more) ≡ s ++ more
  parts more = sym (append_assoc (take n s) rest more) ∙ ap (λ (p : List ℕ). p ++ more) (take-append-drop n s)

  -- no character stands there
  stuck : (k : ℕ) → k ≤ length rest → Utf8 (take k rest) → k ≡ 0
  stuck k h u =
      let e : valid_prefix s ≡ length (take n s) + valid_prefix rest =
      ap valid_prefix (sym (take-append-drop n s)) ∙ valid_append (take n s) l.valid rest in
      omega (arith, e, valid_longest rest k h u, longest_one s n l, length-take-le n s l.within)

  -- where all that is left begins a character, further bytes mend the text
  mended : Begins rest → Mendable s
  mended (c, more, h, e) =
      let whole = utf8_append (take n s) (encode_scalar c) l.valid (scalar_utf8 c h) in
      (more, subst (λ (x : List ℕ). Utf8 x) (ap (λ (x : List ℕ). take n s ++ x) e ∙ parts more) whole)

  -- and where further bytes mend the text, all that is left begins a character
  rest_mended : (more : List ℕ) → Utf8 (s ++ more) → Utf8 (rest ++ more)
  rest_mended more u =
      let whole = (utf8_iff (s ++ more)).1 u in
      let e : valid_prefix (s ++ more) ≡ length (take n s) + valid_prefix (rest ++ more) =
      ap valid_prefix (sym (parts more)) ∙ valid_append (take n s) l.valid (rest ++ more) in
      let k : length (s ++ more) ≡ length (take n s) + length (rest ++ more) =
      ap length (sym (parts more)) ∙ length-append (take n s) (rest ++ more) in
      (utf8_iff (rest ++ more)).0 (omega (arith, e, k, whole))

  begun_by_mended : 1 ≤ length rest → (more cs : List ℕ) → All Scalar cs → encodes cs ≡ rest ++ more → Begins rest
  begun_by_mended p more [] h e = absurd (omega (arith, ap length e, length-append rest more))
  begun_by_mended p more (c ∷ cs) h e =
      let x = encode_scalar c in
      elim (dec_lt (length x) (length rest)) [
        | yes q ↦
            let front = shorter_begins x (encodes cs) rest more e (omega arith) in
            absurd (omega (arith, (encode_length c).0, stuck (length x) (omega arith) (rw front (scalar_utf8 c h.0))))
        | no q ↦
            let front = shorter_begins rest more x (encodes cs) (sym e) (omega arith) in (
              c,
              drop (length rest) x,
              h.0,
              sym (take-append-drop (length rest) x) ∙ ap (λ (y : List ℕ). y ++ drop (length rest) x) front,
            )
      ]

  -- at most three bytes of what is left begin a character, since no whole one stands there
  few_begin : (k : ℕ) → k ≤ length rest → Begins (take k rest) → k ≤ 3
  few_begin k h (c, more, sc, e) =
      elim (dec_lt k 4) [
        | yes q ↦ omega arith
        | no q ↦
            let size : length (encode_scalar c) ≡ k + length more =
            ap length e ∙ length-append (take k rest) more ∙ ap (λ (i : ℕ). i + length more) (length-take-le k rest h) in
            whole more (omega (arith, size, (encode_length c).1)) e
      ]
    where
      whole : (more : List ℕ) → length more ≡ 0 → encode_scalar c ≡ take k rest ++ more → k ≤ 3
      whole [] z e = omega (arith, stuck k h (rw (← append-nil (take k rest), ← e) (scalar_utf8 c sc)))
      whole (x ∷ more) z e = absurd (omega arith)

pub length_tells : LengthTells
length_tells s n r (h, broken, l, f) =
    let b = f.is in
    let all : f.begun ≡ length (drop n s) → Begins (drop n s) = λ e. rw (e, take-length (drop n s)) at b.begins in
    let short : n ≡ length s → ⊥ = λ e. broken ((utf8_iff s).0 (longest_one s n l ∙ e)) in
    let some : 1 ≤ length (drop n s) = omega (arith, length-drop n s, l.within) in (
      rw f.told (faulty_few f.begun (length (drop n s)) (few_begin s n l f.begun b.within b.begins)),
      (
        λ z. mended s n l (all (faulty_none f.begun (length (drop n s)) (sym f.told ∙ z))),
        λ (more, u).
            let v = rest_mended s n l more u in
            let begins = begun_by_mended s n l some more v.0 v.1 v.2 in
            let whole : Begins (take (length (drop n s)) (drop n s)) = rw (take-length (drop n s)) begins in
            let e : f.begun ≡ length (drop n s) = omega (arith, b.longest (length (drop n s)) (omega arith) whole, b.within) in
            f.told ∙ simp (eq-eqb _ _ e),
      ),
    )

-- the same of what the check promises
pub answer_tells : (s : List ℕ) (n r : ℕ) → Err (NotUtf8 n r) ≡ check_of s → (r ≤ 3) × ((r ≡ 0) ↔ Mendable s)
answer_tells s n r e = length_tells s n r ((check_means s (Err (NotUtf8 n r))).0 e)

pub length_else : LengthElse
length_else (NotUtf8 n r) h = absurd (h refl)
length_else TooLong h = refl
length_else (FewTokens n) h = refl
length_else (ShortOutput n) h = refl
length_else (FewErrors n) h = refl
length_else (OutOfPlace n) h = refl
length_else (NoKind n) h = refl
length_else AfterEnd h = refl
length_else (NoEdition n) h = refl
length_else TooDeep h = refl
length_else (NoReviewer n) h = refl
length_else (FewMarks n) h = refl
length_else TotalFull h = refl
