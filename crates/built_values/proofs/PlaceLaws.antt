-- What the checkers of marks, keys and keyvals show, at the places of a run.
-- Assumes nothing.
use Prim.Native.Nat.{ℕ, ◌+◌, ◌≤◌, ◌<◌}
use mathlib.Core.Path.{◌≡◌, refl, sym, subst, ◌∙◌}
use mathlib.Core.Bool.{true, false}
use mathlib.Core.List.{List, ◌∷◌}
use native.Mathlib.Omega.{arith}
use lib.Dec.{eqb}
use lib.ListN.{length, get_or, drop, drop_of_length-le}
use Rattle.text_classes.specs.Runs.{stands}
use Rattle.text_classes.proofs.FirstLaws.{stands_there}
use Rattle.decoder_rules.specs.declared.Edition.{Edition}
use Rattle.built_values.specs.Values.{Spaced, Key, Val, Keyval}
use Rattle.built_values.specs.Checkers.{is_simple_key, past, NoPart, NoDot, NoBlank, Takes, Found, Finds, Marked}
use Rattle.std.specs.Prelude.{Option, Some, None}
use Rattle.built_values.specs.declared.kinds.Run.{Run}
use Rattle.built_values.specs.declared.kinds.Run.TheVariants.{Blanks}
use Rattle.built_values.proofs.KindLaws.{at_cons, stands_cons}
use Rattle.built_values.proofs.KeyLaws.{spaced_is, spaced_only, spaced_not, before_mark, reading, KeyTail, key_tail, tail_key, key_nil, key_not, key_ends_lem, ends_key, key_more, more_key, three, of_three, val_no_blank}

-- ---- marks

module _ (run : Run) (q : ℕ) (ks : List ℕ) (at a : ℕ) (skipped : drop a ks ≡ past run (drop at ks)) where
  pub marked : stands q (drop a ks) ≡ true → at ≤ a → Marked run q ks at (a + 1)
  marked e h = record {
    left = sym skipped ∙ stands_cons q ks a e;
    after = omega arith;
    within = omega (arith, (stands_there q ks a e).0);
  }

  pub not_marked : stands q (drop a ks) ≡ false → stands q (past run (drop at ks)) ≡ false
  not_marked e = rw skipped at e

module _ (q : ℕ) (mark : eqb q 32 ≡ false) (ks : List ℕ) (at a : ℕ) (skipped : drop a ks ≡ past Blanks (drop at ks)) where
  pub spaced_found : stands q (drop a ks) ≡ true → (end : ℕ) → drop end ks ≡ past Blanks (drop (a + 1) ks)
      → at ≤ a → a + 1 ≤ end → end ≤ length ks → Found (Spaced q) NoBlank ks at end
  spaced_found e end f h k w =
      let left : past Blanks (drop at ks) ≡ q ∷ drop (a + 1) ks = sym skipped ∙ stands_cons q ks a e in
      record {
        takes = subst (λ (r : List ℕ). Takes (Spaced q) (drop at ks) r) (sym f) (spaced_is q (drop at ks) (drop (a + 1) ks) left);
        only = λ r n d. spaced_only (λ s. mark) (drop at ks) (drop (a + 1) ks) left r n d ∙ sym f;
        after = omega arith;
        within = w;
      }

  pub spaced_none : stands q (drop a ks) ≡ false → (r : List ℕ) → NoBlank r → Takes (Spaced q) (drop at ks) r → ⊥
  spaced_none e r n d = spaced_not (λ s. mark) (drop at ks) (rw skipped at e) r d

-- ---- keys

-- the loop over a key has come to the place p: the key is read from there as it is from its own place
pub record KeyGoing (ks : List ℕ) (at p : ℕ) : Type 0 where
  pub far : at ≤ p
  pub within : p ≤ length ks
  pub on : (t : List ℕ) → KeyTail (drop p ks) t → KeyTail (drop at ks) t
  pub back : (t : List ℕ) → NoDot t → KeyTail (drop at ks) t → KeyTail (drop p ks) t

pub key_starts : (ks : List ℕ) (at : ℕ) → at ≤ length ks → KeyGoing ks at at
key_starts ks at h = record { far = omega arith; within = h; on = λ t d. d; back = λ t n d. d }

module _ (ks : List ℕ) (at p : ℕ) (g : KeyGoing ks at p) where
  pub key_at_end : length ks ≤ p → (r : List ℕ) → NoDot r → Takes Key (drop at ks) r → ⊥
  key_at_end h r n d =
      key_nil r (subst (λ (s : List ℕ). KeyTail s r) (drop_of_length-le ks h) (g.back r n (key_tail d)))

  module _ (h : p < length ks) where
    here : drop p ks ≡ get_or ks p 0 ∷ drop (p + 1) ks
    here = at_cons ks p h

    pub key_at_none : is_simple_key (get_or ks p 0) ≡ false → (r : List ℕ) → NoDot r → Takes Key (drop at ks) r → ⊥
    key_at_none e r n d = key_not (drop p ks) _ _ here e r (g.back r n (key_tail d))

    module _ (e : is_simple_key (get_or ks p 0) ≡ true) where
      pub key_found : Finds (Spaced 46) NoBlank ks (p + 1) None → Found Key NoDot ks at (p + 1)
      key_found m = record {
        takes = tail_key (g.on _ (ends_key (drop p ks) _ _ here e));
        only = λ r n d. key_ends_lem (drop p ks) _ _ here m r (g.back r n (key_tail d));
        after = omega (arith, g.far);
        within = omega arith;
      }

      pub key_goes : (next : ℕ) → Found (Spaced 46) NoBlank ks (p + 1) next → KeyGoing ks at next
      key_goes next f =
          let (b, w, left) = reading (λ s. refl) f.takes in
          record {
            far = omega (arith, g.far, f.after);
            within = f.within;
            on = λ t d. g.on t (more_key (drop p ks) _ _ here e _ f.takes t d);
            back = λ t n d. key_more (drop p ks) _ _ here _ _ left f.only t n (g.back t n d);
          }

-- ---- keyvals

module _ (v : Edition) (ks : List ℕ) (at : ℕ) where
  pub keyval_no_key : Finds Key NoDot ks at None → (r : List ℕ) → NoPart r → Takes (Keyval v) (drop at ks) r → ⊥
  keyval_no_key m r n d = let t = three d in m t.first (before_mark (λ s. refl) 46 refl t.sep) t.key

  module _ (k : ℕ) (f : Found Key NoDot ks at k) where
    -- the key of a keyval ends at k
    sep_at : {r : List ℕ} (d : Takes (Keyval v) (drop at ks) r) → Takes (Spaced 61) (drop k ks) (three d).second
    sep_at d =
        let t = three d in
        let ends = f.only t.first (before_mark (λ s. refl) 46 refl t.sep) t.key in
        subst (λ (s : List ℕ). Takes (Spaced 61) s t.second) ends t.sep

    pub keyval_no_sep : Finds (Spaced 61) NoBlank ks k None → (r : List ℕ) → NoPart r → Takes (Keyval v) (drop at ks) r → ⊥
    keyval_no_sep m r n d = m (three d).second (val_no_blank (three d).val) (sep_at d)

    module _ (b : ℕ) (g : Found (Spaced 61) NoBlank ks k b) where
      val_at : {r : List ℕ} → Takes (Keyval v) (drop at ks) r → Takes (Val v) (drop b ks) r
      val_at {r} d =
          let t = three d in
          subst (λ (s : List ℕ). Takes (Val v) s r) (g.only t.second (val_no_blank t.val) (sep_at d)) t.val

      pub keyval_found : (t : Option ℕ) → Finds (Val v) NoPart ks b t → Finds (Keyval v) NoPart ks at t
      keyval_found (Some end) h = record {
        takes = of_three f.takes g.takes h.takes;
        only = λ r n d. h.only r n (val_at d);
        after = omega (arith, f.after, g.after, h.after);
        within = h.within;
      }
      keyval_found None h = λ r n d. h r n (val_at d)
