-- What stands after an opening bracket or a comma, in the form in which the loops of `array` and `inline_table` read it:
-- runs between the tokens are passed over whole. One form for both: an array's items are values, an inline table's are
-- keyvals. What each way out of the loops shows.
-- Assumes nothing.
use Prim.Native.Nat.{ℕ}
use mathlib.Core.Path.{◌≡◌, refl, sym, ap, subst, ◌∙◌}
use mathlib.Core.Bool.{Bool, true, false}
use mathlib.Core.List.{List, [], ◌∷◌}
use Rattle.text_classes.specs.Runs.{stands}
use Rattle.built_values.specs.Checkers.{is_scalar_part, in_run, past, NoPart}
use Rattle.built_values.specs.declared.kinds.Run.{Run}
use Rattle.built_values.proofs.KindLaws.{tails, tops, not_nil, stands_not}
use Rattle.built_values.proofs.RunLaws.{past_nil, past_no_part}

-- the rest r follows the closing bracket. `shuts` says whether the bracket may stand here at once, `again` whether it may
-- after a comma
pub data Tail (Item : List ℕ → List ℕ → Type 0) (run : Run) (close : ℕ) (again : Bool) : Bool → List ℕ → List ℕ → Type 0 where
  shut : {shuts : Bool} {s r : List ℕ} → shuts ≡ true → past run s ≡ close ∷ r → Tail Item run close again shuts s r
  last : {shuts : Bool} {s b r : List ℕ} → Item (past run s) b → past run b ≡ close ∷ r → Tail Item run close again shuts s r
  more : {shuts : Bool} {s b c r : List ℕ} → Item (past run s) b → past run b ≡ 44 ∷ c → Tail Item run close again again c r
      → Tail Item run close again shuts s r

module _ (Item : List ℕ → List ℕ → Type 0) (run : Run) (close : ℕ) (again : Bool) where
  -- what the laws ask of the items, the run and the bracket
  pub record Fit : Type 0 where
    pub not_closed : (u b : List ℕ) → Item (close ∷ u) b → ⊥
    pub not_empty : (b : List ℕ) → Item [] b → ⊥
    pub no_part : (k : ℕ) (s : List ℕ) → in_run run k s ≡ true → is_scalar_part k ≡ false
    pub close_no_part : is_scalar_part close ≡ false
    pub close_no_comma : close ≡ 44 → ⊥

module _ {Item : List ℕ → List ℕ → Type 0} {run : Run} {close : ℕ} {again : Bool} (fit : Fit Item run close again) where
  -- what stands before a mark is no part of a scalar
  before_close : (b : List ℕ) {u : List ℕ} → past run b ≡ close ∷ u → NoPart b
  before_close b e = past_no_part run fit.no_part close fit.close_no_part b e

  before_comma : (b : List ℕ) {u : List ℕ} → past run b ≡ 44 ∷ u → NoPart b
  before_comma b e = past_no_part run fit.no_part 44 refl b e

  pub tail_nil : (shuts : Bool) (t : List ℕ) → Tail Item run close again shuts [] t → ⊥
  tail_nil shuts t (Tail.shut e f) = not_nil (sym (past_nil run) ∙ f)
  tail_nil shuts t (Tail.last {b = b} i f) = fit.not_empty b (subst (λ (s : List ℕ). Item s b) (past_nil run) i)
  tail_nil shuts t (Tail.more {b = b} i f d) = fit.not_empty b (subst (λ (s : List ℕ). Item s b) (past_nil run) i)

  -- x is what stands after the run at s
  module _ (shuts : Bool) (s x : List ℕ) (e : x ≡ past run s) where
    here : {b : List ℕ} → Item (past run s) b → Item x b
    here {b} i = subst (λ (y : List ℕ). Item y b) (sym e) i

    -- the bracket stands there
    pub shut_only : (u : List ℕ) → x ≡ close ∷ u → (t : List ℕ) → Tail Item run close again shuts s t → t ≡ u
    shut_only u f t (Tail.shut g h) = tails (sym h ∙ (sym e ∙ f))
    shut_only u f t (Tail.last {b = b} i h) = absurd (fit.not_closed u b (subst (λ (y : List ℕ). Item y b) f (here i)))
    shut_only u f t (Tail.more {b = b} i h d) = absurd (fit.not_closed u b (subst (λ (y : List ℕ). Item y b) f (here i)))

    -- neither the bracket nor an item does
    pub no_item : (shuts ≡ true → stands close x ≡ false) → ((b : List ℕ) → NoPart b → Item x b → ⊥)
        → (t : List ℕ) → Tail Item run close again shuts s t → ⊥
    no_item n m t (Tail.shut g h) = stands_not close (n g) (e ∙ h)
    no_item n m t (Tail.last {b = b} i h) = m b (before_close b h) (here i)
    no_item n m t (Tail.more {b = b} i h d) = m b (before_comma b h) (here i)

    -- an item does, and y is what stands after it
    module _ (n : shuts ≡ true → stands close x ≡ false) (y : List ℕ) (only : (b : List ℕ) → NoPart b → Item x b → b ≡ y) where
      closed : {b u : List ℕ} → Item (past run s) b → past run b ≡ close ∷ u → past run y ≡ close ∷ u
      closed {b} i h = ap (past run) (sym (only b (before_close b h) (here i))) ∙ h

      separated : {b u : List ℕ} → Item (past run s) b → past run b ≡ 44 ∷ u → past run y ≡ 44 ∷ u
      separated {b} i h = ap (past run) (sym (only b (before_comma b h) (here i))) ∙ h

      pub last_only : (u : List ℕ) → past run y ≡ close ∷ u → (t : List ℕ) → Tail Item run close again shuts s t → t ≡ u
      last_only u f t (Tail.shut g h) = absurd (stands_not close (n g) (e ∙ h))
      last_only u f t (Tail.last i h) = tails (sym (closed i h) ∙ f)
      last_only u f t (Tail.more i h d) = absurd (fit.close_no_comma (tops (sym f ∙ separated i h)))

      pub no_more : stands close (past run y) ≡ false → stands 44 (past run y) ≡ false
          → (t : List ℕ) → Tail Item run close again shuts s t → ⊥
      no_more k m t (Tail.shut g h) = stands_not close (n g) (e ∙ h)
      no_more k m t (Tail.last i h) = stands_not close k (closed i h)
      no_more k m t (Tail.more i h d) = stands_not 44 m (separated i h)

      pub more_only : (u : List ℕ) → past run y ≡ 44 ∷ u → (t : List ℕ) → Tail Item run close again shuts s t
          → Tail Item run close again again u t
      more_only u f t (Tail.shut g h) = absurd (stands_not close (n g) (e ∙ h))
      more_only u f t (Tail.last i h) = absurd (fit.close_no_comma (tops (sym (closed i h) ∙ f)))
      more_only u f t (Tail.more i h d) =
          subst (λ (c : List ℕ). Tail Item run close again again c t) (tails (sym (separated i h) ∙ f)) d

    -- and the ways to it
    there : {b : List ℕ} → Item x b → Item (past run s) b
    there {b} i = subst (λ (y : List ℕ). Item y b) e i

    pub shut_is : (u : List ℕ) → shuts ≡ true → x ≡ close ∷ u → Tail Item run close again shuts s u
    shut_is u t f = Tail.shut t (sym e ∙ f)

    pub last_is : (y u : List ℕ) → Item x y → past run y ≡ close ∷ u → Tail Item run close again shuts s u
    last_is y u i f = Tail.last (there i) f

    pub more_is : (y u : List ℕ) → Item x y → past run y ≡ 44 ∷ u → (t : List ℕ) → Tail Item run close again again u t
        → Tail Item run close again shuts s t
    more_is y u i f t d = Tail.more (there i) f d
