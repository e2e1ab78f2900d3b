-- Arrays nested n deep: a value, whose brackets pass the depth exactly where n does.
use Prim.Native.Nat.{ℕ, zero, suc, ◌+◌, ◌≤◌, ◌<◌}
use mathlib.Core.Path.{◌≡◌, refl, sym, ap, subst, ◌∙◌}
use mathlib.Core.Bool.{Bool, cond}
use mathlib.Core.List.{List, [], ◌∷◌, ◌++◌, append-nil}
use native.Mathlib.Omega.{arith}
use lib.ListN.{length, take, drop}
use Rattle.text_refusals.specs.Refusals.{depth}
use Rattle.decoder_rules.specs.declared.Edition.{Edition}
use Rattle.decoder_rules.specs.Encodings.{edition_number}
use Rattle.built_values.specs.Values.{WsCommentNewline, Val, Array, ArrayValues}
use Rattle.built_values.specs.Depth.{is_opening, is_closing, count_if, Deep}
use Rattle.built_values.specs.Answers.{run_of}
use Rattle.theorems_values.specs.ValuesTell.{opened, closed, nested, NestedTell, Served}
use Rattle.theorems_values.proofs.TellLaws.{tells}

-- ---- n arrays are a value, for n of one or more

-- the brackets of one more array
closed_more : (n : ℕ) → closed (suc n) ≡ closed n ++ (93 ∷ [])
closed_more zero = refl
closed_more (suc n) = ap (λ (x : List ℕ). 93 ∷ x) (closed_more n)

opened_before : (n : ℕ) (s t : List ℕ) → opened n (s ++ t) ≡ opened n s ++ t
opened_before zero s t = refl
opened_before (suc n) s t = ap (λ (x : List ℕ). 91 ∷ x) (opened_before n s t)

around : (n : ℕ) → nested (suc n) ≡ 91 ∷ (nested n ++ (93 ∷ []))
around n = ap (λ (x : List ℕ). 91 ∷ x) (ap (opened n) (closed_more n) ∙ opened_before n (closed n) (93 ∷ []))

nested_value : (v : Edition) (n : ℕ) → Val v (nested (suc n))
nested_value v zero = Val.array (Array.empty refl WsCommentNewline.stop)
nested_value v (suc n) =
    let item : ArrayValues v (nested (suc n)) =
    ArrayValues.last (sym (append-nil (nested (suc n)))) WsCommentNewline.stop (nested_value v n) WsCommentNewline.stop in
    Val.array (Array.full (around (suc n)) item WsCommentNewline.stop)

-- ---- and their depth is n

opens_closed : (n : ℕ) → count_if is_opening (closed n) ≡ 0
unfolding count_if
opens_closed zero = refl
opens_closed (suc n) = omega (arith, opens_closed n)

opens : (n : ℕ) (s : List ℕ) → count_if is_opening (opened n s) ≡ n + count_if is_opening s
unfolding count_if
opens zero s = omega arith
opens (suc n) s = omega (arith, opens n s)

-- a first part has no more
fewer : (p : ℕ → Bool) (n : ℕ) (s : List ℕ) → count_if p (take n s) ≤ count_if p s
unfolding count_if
fewer p zero s = omega arith
fewer p (suc n) [] = omega arith
fewer p (suc n) (k ∷ s) = omega (arith, fewer p n s)

-- the first n are the opening ones
front_opens : (n : ℕ) (s : List ℕ) → count_if is_opening (take n (opened n s)) ≡ n
unfolding count_if
front_opens zero s = refl
front_opens (suc n) s = omega (arith, front_opens n s)

front_closes : (n : ℕ) (s : List ℕ) → count_if is_closing (take n (opened n s)) ≡ 0
unfolding count_if
front_closes zero s = refl
front_closes (suc n) s = omega (arith, front_closes n s)

shallow : (n : ℕ) → n ≤ depth → Deep (nested n) → ⊥
shallow n h (m, d) =
    omega (arith, d, fewer is_opening m (nested n), opens n (closed n), opens_closed n)

deep : (n : ℕ) → depth < n → Deep (nested n)
deep n h = (n, omega (arith, front_opens n (closed n), front_closes n (closed n)))

pub nested_answers : NestedTell
nested_answers records start end n v answer w e a = record {
  answered = λ h k.
      let t = tells records (edition_number v) start end answer a in
      let served : Served records (edition_number v) start end v = record {
        within = w;
        named = refl;
        shallow = λ d. shallow n k (subst (λ (run : List ℕ). Deep run) e d);
      } in
      t.yes_value.1 (v, served, subst (λ (run : List ℕ). Val v run) (sym e) (some n h));
  refused = λ h.
      let t = tells records (edition_number v) start end answer a in
      t.too_deep.1 (w, (v, refl), subst (λ (run : List ℕ). Deep run) (sym e) (deep n h));
}
  where
    some : (n : ℕ) → 1 ≤ n → Val v (nested n)
    some zero h = absurd (omega arith)
    some (suc n) h = nested_value v n
