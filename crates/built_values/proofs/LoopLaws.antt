-- The loop over the items of an array or an inline table, for both at once: what holds at each turn, and what each way out shows.
-- Assumes nothing.
use Prim.Native.Nat.{ℕ, ◌+◌, ◌≤◌, ◌<◌}
use mathlib.Core.Path.{◌≡◌, sym, ap, subst, ◌∙◌}
use mathlib.Core.Bool.{Bool, true, false}
use mathlib.Core.List.{List, ◌∷◌}
use native.Mathlib.Omega.{arith}
use lib.ListN.{length, drop, drop_of_length-le}
use Rattle.text_classes.specs.Runs.{stands}
use Rattle.text_classes.proofs.FirstLaws.{stands_there}
use Rattle.built_values.specs.Depth.{is_opening, is_closing, count_if}
use Rattle.built_values.specs.Checkers.{in_run, past, NoPart, Takes, Found, Marked, Inside}
use Rattle.built_values.specs.declared.kinds.Run.{Run}
use Rattle.built_values.proofs.KindLaws.{stands_cons}
use Rattle.built_values.proofs.RunLaws.{past_count}
use Rattle.built_values.proofs.CountLaws.{Even, inside_moved, inside_after, inside_deeper}
use Rattle.built_values.proofs.TailLaws.{Tail, Fit, tail_nil, shut_only, no_item, last_only, no_more, more_only, shut_is, last_is, more_is}

-- what the loop asks of its rules: G derives the whole, I its items
pub record Bracketed (G I : List ℕ → Type 0) (opening close : ℕ) (run : Run) (again : Bool) : Type 0 where
  pub fit : Fit (Takes I) run close again
  pub enters : (u r : List ℕ) → Takes G (opening ∷ u) r → Tail (Takes I) run close again true u r
  pub leaves : (u r : List ℕ) → Tail (Takes I) run close again true u r → Takes G (opening ∷ u) r
  pub even : (t : List ℕ) → I t → Even t
  pub opens : (is_opening opening ≡ true) × (is_closing opening ≡ false)
  pub no_opening : (k : ℕ) (s : List ℕ) → in_run run k s ≡ true → is_opening k ≡ false
  pub no_closing : (k : ℕ) (s : List ℕ) → in_run run k s ≡ true → is_closing k ≡ false

module _ {G I : List ℕ → Type 0} {opening close : ℕ} {run : Run} {again : Bool} (rules : Bracketed G I opening close run again)
    (ks : List ℕ) (at level : ℕ) where
  -- the loop has come to the place p: the bracket that it began with is read there to the end as it is from its own place
  pub record Going (p : ℕ) (shuts : Bool) : Type 0 where
    pub opened : drop at ks ≡ opening ∷ drop (at + 1) ks
    pub far : at < p
    pub inside : Inside ks p (level + 1)
    pub on : (t : List ℕ) → Tail (Takes I) run close again shuts (drop p ks) t
        → Tail (Takes I) run close again true (drop (at + 1) ks) t
    pub back : (t : List ℕ) → Tail (Takes I) run close again true (drop (at + 1) ks) t
        → Tail (Takes I) run close again shuts (drop p ks) t

  pub starts : Inside ks at level → stands opening (drop at ks) ≡ true → Going (at + 1) true
  starts i e =
      let there = stands_there opening ks at e in
      let opened = stands_cons opening ks at e in
      record {
        opened = opened;
        far = omega arith;
        inside = inside_deeper opening rules.opens.0 rules.opens.1 ks at level i (omega (arith, there.0)) opened;
        on = λ t d. d;
        back = λ t d. d;
      }

  module _ (p : ℕ) (shuts : Bool) (g : Going p shuts) where
    -- what is found of the whole, from what is found of its tail
    found : (end : ℕ) → Tail (Takes I) run close again shuts (drop p ks) (drop end ks)
        → ((t : List ℕ) → Tail (Takes I) run close again shuts (drop p ks) t → t ≡ drop end ks)
        → p ≤ end → end ≤ length ks → Found G NoPart ks at end
    found end d only h w = record {
      takes = subst (λ (s : List ℕ). Takes G s (drop end ks)) (sym g.opened) (rules.leaves _ _ (g.on _ d));
      only = λ r n t. only r (g.back r (rules.enters _ _ (subst (λ (s : List ℕ). Takes G s r) g.opened t)));
      after = omega (arith, g.far);
      within = w;
    }

    none : ((t : List ℕ) → Tail (Takes I) run close again shuts (drop p ks) t → ⊥)
        → (r : List ℕ) → NoPart r → Takes G (drop at ks) r → ⊥
    none n r e t = n r (g.back r (rules.enters _ _ (subst (λ (s : List ℕ). Takes G s r) g.opened t)))

    -- nothing is left
    pub exit_end : length ks ≤ p → (r : List ℕ) → NoPart r → Takes G (drop at ks) r → ⊥
    exit_end h =
        none (λ t d. tail_nil rules.fit shuts t
        (subst (λ (s : List ℕ). Tail (Takes I) run close again shuts s t) (drop_of_length-le ks h) d))

    -- the run is passed over, up to a
    module _ (a : ℕ) (skipped : drop a ks ≡ past run (drop p ks)) (further : p ≤ a) (within : a ≤ length ks) where
      pub item_inside : Inside ks a (level + 1)
      item_inside =
          let opens = ap (count_if is_opening) skipped ∙ past_count run is_opening rules.no_opening (drop p ks) in
          let closes = ap (count_if is_closing) skipped ∙ past_count run is_closing rules.no_closing (drop p ks) in
          inside_moved ks p a (level + 1) g.inside (omega (arith, opens, closes)) within

      pub exit_shut : shuts ≡ true → stands close (drop a ks) ≡ true → Found G NoPart ks at (a + 1)
      exit_shut e f =
          let there = stands_there close ks a f in
          let left = stands_cons close ks a f in
          found (a + 1) (shut_is rules.fit shuts (drop p ks) (drop a ks) skipped _ e left)
          (λ t d. shut_only rules.fit shuts (drop p ks) (drop a ks) skipped _ left t d)
          (omega arith) (omega (arith, there.0))

      module _ (n : shuts ≡ true → stands close (drop a ks) ≡ false) where
        pub exit_none : ((r : List ℕ) → NoPart r → Takes I (drop a ks) r → ⊥)
            → (r : List ℕ) → NoPart r → Takes G (drop at ks) r → ⊥
        exit_none m = none (λ t d. no_item rules.fit shuts (drop p ks) (drop a ks) skipped n m t d)

        -- an item is found, up to e
        module _ (e : ℕ) (f : Found I NoPart ks a e) where
          pub exit_closed : (end : ℕ) → Marked run close ks e end → Found G NoPart ks at end
          exit_closed end m =
              found end (last_is rules.fit shuts (drop p ks) (drop a ks) skipped _ _ f.takes m.left)
              (λ t d. last_only rules.fit shuts (drop p ks) (drop a ks) skipped n (drop e ks) f.only _ m.left t d)
              (omega (arith, f.after, m.after)) m.within

          pub exit_neither : (stands close (past run (drop e ks)) ≡ false) × (stands 44 (past run (drop e ks)) ≡ false)
              → (r : List ℕ) → NoPart r → Takes G (drop at ks) r → ⊥
          exit_neither m =
              none (λ t d. no_more rules.fit shuts (drop p ks) (drop a ks) skipped n (drop e ks) f.only m.0 m.1 t d)

          pub goes_on_lem : (next : ℕ) → Marked run 44 ks e next → Going next again
          unfolding count_if
          goes_on_lem next m =
              let opens : count_if is_opening (drop next ks) ≡ count_if is_opening (drop e ks) =
              omega (arith, sym (ap (count_if is_opening) m.left) ∙ past_count run is_opening rules.no_opening (drop e ks)) in
              let closes : count_if is_closing (drop next ks) ≡ count_if is_closing (drop e ks) =
              omega (arith, sym (ap (count_if is_closing) m.left) ∙ past_count run is_closing rules.no_closing (drop e ks)) in
              let behind = inside_after rules.even ks a e (level + 1) item_inside f.takes f.within in
              record {
                opened = g.opened;
                far = omega (arith, g.far, f.after, m.after);
                inside = inside_moved ks e next (level + 1) behind (omega (arith, opens, closes)) m.within;
                on = λ t d. g.on t (more_is rules.fit shuts (drop p ks) (drop a ks) skipped _ _ f.takes m.left t d);
                back = λ t d.
                    more_only rules.fit shuts (drop p ks) (drop a ks) skipped n (drop e ks) f.only _ m.left t
                    (g.back t d);
              }
