-- What each way out of the checker of a value shows, by the kind at its place.
-- Assumes nothing.
use Prim.Native.Nat.{ℕ, ◌+◌, ◌≤◌, ◌<◌}
use mathlib.Core.Path.{◌≡◌, refl, sym, ap, subst, ◌∙◌}
use mathlib.Core.Bool.{Bool, true, false}
use mathlib.Core.List.{List, [], ◌∷◌, ◌++◌, append-nil}
use native.Mathlib.Omega.{arith}
use lib.ListN.{length, drop, get_or, drop_of_length-le, length-drop}
use Rattle.decoder_rules.specs.declared.Edition.{Edition}
use Rattle.built_values.specs.Values.{Val, Array, InlineTable}
use Rattle.built_values.specs.Checkers.{is_string, is_scalar_part, past, NoPart, Takes, Found, Finds}
use Rattle.std.specs.Prelude.{Option, Some, None, Ok}
use lib.Dec.{eqb}
use borrow.Author.Tests.{eqb-true, eqb-false}
use Rattle.built_values.specs.Depth.{Deep}
use Rattle.built_values.specs.Answers.{Judged}
use Rattle.built_values.specs.declared.kinds.Run.TheVariants.{Parts}
use Rattle.built_values.proofs.KindLaws.{at_cons, not_nil, is_string_lem, is_part}
use Rattle.built_values.proofs.RunLaws.{parts_run, run_parts}
use Rattle.built_values.proofs.ValLaws.{Way, val_begun, Onward, onward, way_string, way_scalar, way_array, way_table, way_not}

module _ (v : Edition) (ks : List ℕ) (at : ℕ) (h : at < length ks) where
  here : drop at ks ≡ get_or ks at 0 ∷ drop (at + 1) ks
  here = at_cons ks at h

  goes : {r : List ℕ} → Takes (Val v) (drop at ks) r → Onward (Way v) (get_or ks at 0) (drop (at + 1) ks) r
  goes d = onward (λ t e. val_begun e) d here

  -- the text of a rule that the kind tells
  whole : {G : List ℕ → Type 0} {r : List ℕ} (o : Onward (Way v) (get_or ks at 0) (drop (at + 1) ks) r)
      → G (get_or ks at 0 ∷ o.rest) → Takes G (drop at ks) r
  whole {r = r} o g = record {
    text = get_or ks at 0 ∷ o.rest;
    whole = here ∙ ap (λ (x : List ℕ). get_or ks at 0 ∷ x) o.whole;
    derives = g;
  }

  pub value_string : is_string (get_or ks at 0) ≡ true → Found (Val v) NoPart ks at (at + 1)
  value_string e = record {
    takes = record { text = get_or ks at 0 ∷ []; whole = here; derives = Val.string (is_string_lem _ e) };
    only = λ r n d.
        let o = goes d in
        sym (o.whole ∙ ap (λ (x : List ℕ). x ++ r) (way_string o.is e));
    after = omega arith;
    within = omega arith;
  }

  pub value_scalar : is_scalar_part (get_or ks at 0) ≡ true → (end : ℕ) → drop end ks ≡ past Parts (drop (at + 1) ks)
      → at + 1 ≤ end → end ≤ length ks → Found (Val v) NoPart ks at end
  unfolding past
  value_scalar e end f a w = record {
    takes =
        let s = parts_run (get_or ks at 0) (drop (at + 1) ks) (is_part _ e) in
        let all = here ∙ s.whole ∙ ap (λ (x : List ℕ). s.text ++ x) (sym f) in
        record { text = s.text; whole = all; derives = Val.scalar s.derives };
    only = λ r n d.
        let o = goes d in
        let left : past Parts (get_or ks at 0 ∷ (o.rest ++ r)) ≡ r = run_parts (way_scalar o.is e) r n in
        sym left ∙ rw (e, ← o.whole) (sym f);
    after = omega arith;
    within = w;
  }

  -- a bracket leaves the answer to its own checker
  by_bracket : {G : List ℕ → Type 0} → ((t : List ℕ) → G t → Val v t)
      → ((r : List ℕ) → Takes (Val v) (drop at ks) r → Takes G (drop at ks) r)
      → (t : Option ℕ) → Finds G NoPart ks at t → Finds (Val v) NoPart ks at t
  by_bracket is back (Some end) f = record {
    takes = record { text = f.takes.text; whole = f.takes.whole; derives = is f.takes.text f.takes.derives };
    only = λ r n d. f.only r n (back r d);
    after = f.after;
    within = f.within;
  }
  by_bracket is back None f = λ r n d. f r n (back r d)

  pub value_array : get_or ks at 0 ≡ 91 → (t : Option ℕ) → Finds (Array v) NoPart ks at t → Finds (Val v) NoPart ks at t
  value_array e = by_bracket (λ t. Val.array) (λ r d. let o = goes d in whole o (way_array o.is e))

  pub value_table : get_or ks at 0 ≡ 123 → (t : Option ℕ) → Finds (InlineTable v) NoPart ks at t → Finds (Val v) NoPart ks at t
  value_table e = by_bracket (λ t. Val.inline_table) (λ r d. let o = goes d in whole o (way_table o.is e))

  pub value_none : is_string (get_or ks at 0) ≡ false → is_scalar_part (get_or ks at 0) ≡ false
      → (get_or ks at 0 ≡ 91 → ⊥) → (get_or ks at 0 ≡ 123 → ⊥)
      → (r : List ℕ) → NoPart r → Takes (Val v) (drop at ks) r → ⊥
  value_none a b c e r n d = way_not (goes d).is a b c e

pub value_end : (v : Edition) (ks : List ℕ) (at : ℕ) → length ks ≤ at → (r : List ℕ) → NoPart r → Takes (Val v) (drop at ks) r → ⊥
value_end v ks at h r n d =
    let b = val_begun d.derives in
    not_nil (sym (drop_of_length-le ks h) ∙ d.whole ∙ ap (λ (x : List ℕ). x ++ r) b.whole)

-- ---- the whole run

-- a value that ends where the run does is the run
whole_value : (v : Edition) (ks : List ℕ) (end : ℕ) → Found (Val v) NoPart ks 0 end → end ≡ length ks → Val v ks
whole_value v ks end f e =
    let left : drop end ks ≡ [] = drop_of_length-le ks {i = end} (omega arith) in
    let all : ks ≡ f.takes.text = f.takes.whole ∙ ap (λ (x : List ℕ). f.takes.text ++ x) left ∙ append-nil f.takes.text in
    subst (λ (t : List ℕ). Val v t) (sym all) f.takes.derives

all_of : (v : Edition) (ks : List ℕ) → Val v ks → Takes (Val v) ks []
all_of v ks d = record { text = ks; whole = sym (append-nil ks); derives = d }

-- and one that ends before is not
part_value : (v : Edition) (ks : List ℕ) (end : ℕ) → Found (Val v) NoPart ks 0 end → (end ≡ length ks → ⊥) → Val v ks → ⊥
part_value v ks end f n d =
    let left : 0 ≡ length (drop end ks) = ap length (f.only [] refl (all_of v ks d)) in
    n (omega (arith, left, length-drop end ks, f.within))

-- so the answer is whether they are the same
pub judged_whole : (v : Edition) (ks : List ℕ) (end n : ℕ) → (Deep ks → ⊥) → Found (Val v) NoPart ks 0 end → n ≡ length ks
    → Judged v ks (Ok (eqb end n))
judged_whole v ks end n calm f e = go (eqb end n) refl
  where
    go : (t : Bool) → eqb end n ≡ t → Judged v ks (Ok t)
    go true h = Judged.value calm (whole_value v ks end f (eqb-true _ _ h ∙ e))
    go false h = Judged.no_value calm (part_value v ks end f (λ k. eqb-false _ _ h (k ∙ sym e)))

pub no_value_found : (v : Edition) (ks : List ℕ) → ((r : List ℕ) → NoPart r → Takes (Val v) ks r → ⊥) → Val v ks → ⊥
no_value_found v ks n d = n [] refl (all_of v ks d)
