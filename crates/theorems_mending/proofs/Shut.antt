-- A string that is closed ends there whatever follows. Each law speaks of the bytes x after the opening marks, of an extent that
-- ends with x where b follows, and of another byte c in the place of b.
use Prim.Native.Nat.{ℕ, suc, ◌+◌, ◌≤◌, ◌<◌}
use mathlib.Core.Path.{◌≡◌, refl, sym, ◌∙◌, ap}
use mathlib.Core.Logic.{◌⊎◌, inl, inr, ⊎_elim}
use mathlib.Core.Bool.{Bool, true, false, not, cond, ◌&&◌}
use mathlib.Core.List.{List, [], ◌∷◌, ◌++◌}
use native.Mathlib.Omega.{arith}
use borrow.Author.Tests.{eqb-true, eq-eqb, ne_eqb}
use lib.Dec.{eqb}
use lib.ListN.{length, drop}
use Rattle.text_classes.specs.Classes.{wschar}
use Rattle.text_classes.specs.Runs.{run, stands, triple}
use Rattle.text_classes.proofs.Conds.{cond_case, not_both, both_left, both_right, or_inv}
use Rattle.lexer_scans.specs.Extents.{closes, hides, line_tail, up_to_two, ml_tail}
use Rattle.built_mending.specs.Mending.{ends_quoted}

-- ---- runs

module _ (p : ℕ → Bool) where
  -- a run that ends before b: b does not pass the test
  pub run_next : (x : List ℕ) (b : ℕ) (r : List ℕ) → run p (x ++ (b ∷ r)) ≡ length x → p b ≡ false
  unfolding run
  run_next [] b r = cond_case (λ (n : ℕ). n ≡ 0 → p b ≡ false) (p b) (λ e h. absurd (omega arith)) (λ e h. e)
  run_next (a ∷ x) b r =
      cond_case (λ (n : ℕ). n ≡ suc (length x) → p b ≡ false) (p a)
      (λ e h. run_next x b r (omega arith)) (λ e h. absurd (omega arith))

  -- it ends before any other byte that does not
  pub run_shut : (x : List ℕ) (b c : ℕ) (r t : List ℕ) → p c ≡ false → run p (x ++ (b ∷ r)) ≡ length x
      → run p (x ++ (c ∷ t)) ≡ length x
  unfolding run
  run_shut [] b c r t f = λ h. rw f
  run_shut (a ∷ x) b c r t f =
      cond_case (λ (n : ℕ). n ≡ suc (length x) → cond (p a) (suc (run p (x ++ (c ∷ t)))) 0 ≡ suc (length x)) (p a)
      (λ e h. rw e (ap suc (run_shut x b c r t f (omega arith)))) (λ e h. absurd (omega arith))

-- a run of blanks ends in no quotation mark
pub blanks_end : (x : List ℕ) (b : ℕ) (r : List ℕ) (z : Bool) → run wschar (x ++ (b ∷ r)) ≡ length x → ends_quoted z x ≡ true → z ≡ true
unfolding run ends_quoted wschar
blanks_end [] b r z = λ h e. e
blanks_end (a ∷ x) b r z =
    cond_case (λ (n : ℕ). n ≡ suc (length x) → ends_quoted (eqb a 0x22) x ≡ true → z ≡ true) (wschar a)
    (λ w h e. absurd (not_blank a w (eqb-true a 0x22 (blanks_end x b r (eqb a 0x22) (omega arith) e))))
    (λ w h e. absurd (omega arith))
  where
    not_blank : (a : ℕ) → wschar a ≡ true → a ≡ 0x22 → ⊥
    not_blank a w e = not_both w (rw e refl)

-- ---- strings on one line

module _ (q : ℕ) where
  pub line_shut : (h : Bool) (x : List ℕ) (b : ℕ) (r t : List ℕ) → (b ≡ 0x0A → ⊥) → line_tail q h (x ++ (b ∷ r)) ≡ length x
      → line_tail q h (x ++ t) ≡ length x
  unfolding line_tail
  line_shut h [] b r t n =
      let P : ℕ → Type 0 = λ m. m ≡ 0 → line_tail q h t ≡ 0 in
      cond_case P (closes q h b) (λ e l. absurd (omega arith))
      (λ e. cond_case P (eqb b 0x0A) (λ f l. absurd (n (eqb-true b 0x0A f))) (λ f l. absurd (omega arith)))
  line_shut h (a ∷ x) b r t n =
      both_ways (closes q h a) (eqb a 0x0A) (line_tail q (hides q h a) (x ++ (b ∷ r))) (line_tail q (hides q h a) (x ++ t)) (length x)
      (line_shut (hides q h a) x b r t n)
    where
      both_ways : (c d : Bool) (m k n : ℕ) → (m ≡ n → k ≡ n) → cond c 1 (cond d 0 (suc m)) ≡ suc n
          → cond c 1 (cond d 0 (suc k)) ≡ suc n
      both_ways true d m k n f e = e
      both_ways false true m k n f e = absurd (omega arith)
      both_ways false false m k n f e = ap suc (f (omega arith))

  -- it ends in its mark
  pub line_last : (h : Bool) (x : List ℕ) (b : ℕ) (r : List ℕ) → (b ≡ 0x0A → ⊥) → line_tail q h (x ++ (b ∷ r)) ≡ length x
      → (y : List ℕ) × (x ≡ y ++ (q ∷ []))
  unfolding line_tail
  line_last h [] b r n =
      let P : ℕ → Type 0 = λ m. m ≡ 0 → (y : List ℕ) × ([] ≡ y ++ (q ∷ [])) in
      cond_case P (closes q h b) (λ e l. absurd (omega arith))
      (λ e. cond_case P (eqb b 0x0A) (λ f l. absurd (n (eqb-true b 0x0A f))) (λ f l. absurd (omega arith)))
  line_last h (a ∷ x) b r n =
      let P : ℕ → Type 0 = λ m. m ≡ suc (length x) → (y : List ℕ) × (a ∷ x ≡ y ++ (q ∷ [])) in
      cond_case P (closes q h a) (λ e l. ([], closing x (eqb-true a q (both_right (not h) _ e)) (omega arith)))
      (λ e. cond_case P (eqb a 0x0A) (λ f l. absurd (omega arith))
      (λ f l. later (line_last (hides q h a) x b r n (omega arith))))
    where
      closing : (x : List ℕ) → a ≡ q → 0 ≡ length x → a ∷ x ≡ q ∷ []
      closing [] e l = ap (λ (c : ℕ). c ∷ []) e
      closing (c ∷ x) e l = absurd (omega arith)

      later : (y : List ℕ) × (x ≡ y ++ (q ∷ [])) → (y : List ℕ) × (a ∷ x ≡ y ++ (q ∷ []))
      later (y, e) = (a ∷ y, ap (λ (l : List ℕ). a ∷ l) e)

-- ---- strings of several lines

module _ (q : ℕ) where
  -- the marks that may follow the closing three: x has them all
  two_shut : (x : List ℕ) (b c : ℕ) (r t : List ℕ) → (c ≡ q → ⊥) → up_to_two q (x ++ (b ∷ r)) ≡ length x → up_to_two q (x ++ (c ∷ t)) ≡ length x
  unfolding up_to_two
  two_shut [] b c r t n h = rw (ne_eqb c q n)
  two_shut (a ∷ []) b c r t n h = one (eqb a q) (eqb b q) h
    where
      one : (u w : Bool) → ◌≡◌ {A = ℕ} (cond u (cond w 2 1) 0) 1 → ◌≡◌ {A = ℕ} (cond u (cond (eqb c q) 2 1) 0) 1
      one true w e = rw (ne_eqb c q n)
      one false w e = absurd (omega arith)
  two_shut (a ∷ d ∷ x) b c r t n h = h

  -- three marks at the front of bytes that another byte than the mark follows stand in them
  pub triple_shut : (a : ℕ) (x : List ℕ) (b c : ℕ) (r t : List ℕ) → (c ≡ q → ⊥) → triple q (a ∷ (x ++ (b ∷ r))) ≡ false
      → triple q (a ∷ (x ++ (c ∷ t))) ≡ false
  unfolding triple
  triple_shut a [] b c r t n h = rw (ne_eqb c q n) (none (eqb a q))
    where
      none : (u : Bool) → (u && false) ≡ false
      none true = refl
      none false = refl
  triple_shut a (d ∷ []) b c r t n h = rw (ne_eqb c q n) (none (eqb a q) (eqb d q))
    where
      none : (u w : Bool) → (u && (w && false)) ≡ false
      none true true = refl
      none true false = refl
      none false w = refl
  triple_shut a (d ∷ e ∷ x) b c r t n h = h

  unhidden : (h : Bool) (a : ℕ) (x : List ℕ) (b c : ℕ) (r t : List ℕ) → (c ≡ q → ⊥) → (not h && triple q (a ∷ (x ++ (b ∷ r)))) ≡ false
      → (not h && triple q (a ∷ (x ++ (c ∷ t)))) ≡ false
  unhidden true a x b c r t n e = refl
  unhidden false a x b c r t n e = triple_shut a x b c r t n e

  -- three marks that close: x has them, and up to two more
  closed_shut : (h : Bool) (x : List ℕ) (b c : ℕ) (r t : List ℕ) → (c ≡ q → ⊥) → (not h && triple q (x ++ (b ∷ r))) ≡ true
      → 3 + up_to_two q (drop 3 (x ++ (b ∷ r))) ≡ length x
      → ((not h && triple q (x ++ (c ∷ t))) ≡ true) × (3 + up_to_two q (drop 3 (x ++ (c ∷ t))) ≡ length x)
  unfolding triple
  closed_shut h [] b c r t n e l = absurd (omega arith)
  closed_shut h (a ∷ []) b c r t n e l = absurd (omega arith)
  closed_shut h (a ∷ d ∷ []) b c r t n e l = absurd (omega arith)
  closed_shut h (a ∷ d ∷ g ∷ x) b c r t n e l =
      let two : up_to_two q (x ++ (c ∷ t)) ≡ length x = two_shut x b c r t n (omega arith) in
      (e, omega arith)

  pub ml_shut : (h : Bool) (x : List ℕ) (b c : ℕ) (r t : List ℕ) → (c ≡ q → ⊥) → ml_tail q h (x ++ (b ∷ r)) ≡ length x
      → ml_tail q h (x ++ (c ∷ t)) ≡ length x
  unfolding ml_tail
  ml_shut h [] b c r t n =
      let P : ℕ → Type 0 = λ m. m ≡ 0 → ml_tail q h (c ∷ t) ≡ 0 in
      cond_case P (not h && triple q (b ∷ r)) (λ e l. absurd (omega arith)) (λ e l. absurd (omega arith))
  ml_shut h (a ∷ x) b c r t n =
      let P : ℕ → Type 0 = λ m. m ≡ suc (length x) → ml_tail q h (a ∷ (x ++ (c ∷ t))) ≡ suc (length x) in
      cond_case P (not h && triple q (a ∷ (x ++ (b ∷ r))))
      (λ e l. let s = closed_shut h (a ∷ x) b c r t n e l in rw s.0 s.1)
      (λ e l. rw (unhidden h a x b c r t n e) (ap suc (ml_shut (hides q h a) x b c r t n (omega arith))))

  -- ---- the marks at the end

  -- up to two of them are none, one or two
  two_marks : (x : List ℕ) (b : ℕ) (r : List ℕ) → up_to_two q (x ++ (b ∷ r)) ≡ length x
      → (x ≡ []) ⊎ ((x ≡ q ∷ []) ⊎ (x ≡ q ∷ (q ∷ [])))
  unfolding up_to_two
  two_marks [] b r h = inl refl
  two_marks (a ∷ []) b r h = inr (inl (one (eqb a q) (eqb b q) refl h))
    where
      one : (u w : Bool) → eqb a q ≡ u → ◌≡◌ {A = ℕ} (cond u (cond w 2 1) 0) 1 → a ∷ [] ≡ q ∷ []
      one true w f e = ap (λ (c : ℕ). c ∷ []) (eqb-true a q f)
      one false w f e = absurd (omega arith)
  two_marks (a ∷ d ∷ []) b r h = inr (inr (both (eqb a q) (eqb d q) refl refl h))
    where
      both : (u w : Bool) → eqb a q ≡ u → eqb d q ≡ w → ◌≡◌ {A = ℕ} (cond u (cond w 2 1) 0) 2 → a ∷ (d ∷ []) ≡ q ∷ (q ∷ [])
      both true true f g e = rw (eqb-true a q f, eqb-true d q g)
      both true false f g e = absurd (omega arith)
      both false w f g e = absurd (omega arith)
  two_marks (a ∷ d ∷ g ∷ x) b r h = absurd (omega (arith, at_most (eqb a q) (eqb d q), h))
    where
      at_most : (u w : Bool) → cond u (cond w 2 1) 0 ≤ 2
      at_most true true = omega arith
      at_most true false = omega arith
      at_most false w = omega arith

  -- the three that close, and then those
  closed_marks : (x : List ℕ) (b : ℕ) (r : List ℕ) → triple q (x ++ (b ∷ r)) ≡ true → 3 + up_to_two q (drop 3 (x ++ (b ∷ r))) ≡ length x
      → (m : List ℕ) × (x ≡ q ∷ (q ∷ (q ∷ m))) × (up_to_two q (m ++ (b ∷ r)) ≡ length m)
  unfolding triple
  closed_marks [] b r e l = absurd (omega arith)
  closed_marks (a ∷ []) b r e l = absurd (omega arith)
  closed_marks (a ∷ d ∷ []) b r e l = absurd (omega arith)
  closed_marks (a ∷ d ∷ g ∷ x) b r e l =
      let first = eqb-true a q (both_left (eqb a q) _ e) in
      let others = both_right (eqb a q) _ e in
      let second = eqb-true d q (both_left (eqb d q) _ others) in
      let third = eqb-true g q (both_right (eqb d q) _ others) in
      (x, rw (first, second, third), omega arith)

  abbrev pub three : List ℕ
  three = q ∷ (q ∷ (q ∷ []))

  pub ml_last : (h : Bool) (x : List ℕ) (b : ℕ) (r : List ℕ) → ml_tail q h (x ++ (b ∷ r)) ≡ length x → (y : List ℕ) × (x ≡ y ++ three)
  unfolding ml_tail
  ml_last h [] b r =
      cond_case (λ (m : ℕ). m ≡ 0 → (y : List ℕ) × ([] ≡ y ++ three)) (not h && triple q (b ∷ r))
      (λ e l. absurd (omega arith)) (λ e l. absurd (omega arith))
  ml_last h (a ∷ x) b r =
      cond_case (λ (m : ℕ). m ≡ suc (length x) → (y : List ℕ) × (a ∷ x ≡ y ++ three)) (not h && triple q (a ∷ (x ++ (b ∷ r))))
      (λ e l. closing (closed_marks (a ∷ x) b r (both_right (not h) _ e) l))
      (λ e l. later (ml_last (hides q h a) x b r (omega arith)))
    where
      closing : (m : List ℕ) × (a ∷ x ≡ q ∷ (q ∷ (q ∷ m))) × (up_to_two q (m ++ (b ∷ r)) ≡ length m) → (y : List ℕ) × (a ∷ x ≡ y ++ three)
      closing (m, is, two) =
          ⊎_elim (λ e. ([], is ∙ ap (λ (l : List ℕ). q ∷ (q ∷ (q ∷ l))) e))
          (⊎_elim (λ e. (q ∷ [], is ∙ ap (λ (l : List ℕ). q ∷ (q ∷ (q ∷ l))) e))
          (λ e. (q ∷ (q ∷ []), is ∙ ap (λ (l : List ℕ). q ∷ (q ∷ (q ∷ l))) e)))
          (two_marks m b r two)

      later : (y : List ℕ) × (x ≡ y ++ three) → (y : List ℕ) × (a ∷ x ≡ y ++ three)
      later (y, e) = (a ∷ y, ap (λ (l : List ℕ). a ∷ l) e)

  -- where a mark still follows, there are five
  abbrev pub five : List ℕ
  five = q ∷ (q ∷ three)

  pub ml_five : (h : Bool) (x r : List ℕ) → ml_tail q h (x ++ (q ∷ r)) ≡ length x → (y : List ℕ) × (x ≡ y ++ five)
  unfolding ml_tail up_to_two
  ml_five h [] r =
      cond_case (λ (m : ℕ). m ≡ 0 → (y : List ℕ) × ([] ≡ y ++ five)) (not h && triple q (q ∷ r))
      (λ e l. absurd (omega arith)) (λ e l. absurd (omega arith))
  ml_five h (a ∷ x) r =
      cond_case (λ (m : ℕ). m ≡ suc (length x) → (y : List ℕ) × (a ∷ x ≡ y ++ five)) (not h && triple q (a ∷ (x ++ (q ∷ r))))
      (λ e l. closing (closed_marks (a ∷ x) q r (both_right (not h) _ e) l))
      (λ e l. later (ml_five (hides q h a) x r (omega arith)))
    where
      -- with none or one of them, the mark that follows would be one more
      more : (m : List ℕ) → m ≡ [] → up_to_two q (m ++ (q ∷ r)) ≡ length m → ⊥
      more m e two =
          let none : up_to_two q (q ∷ r) ≡ 0 = rw e at two in
          let some : 1 ≤ up_to_two q (q ∷ r) =
          rw (eq-eqb q q refl) (cond_case (λ (n : ℕ). 1 ≤ n) (stands q r) (λ _. omega arith) (λ _. omega arith)) in
          omega arith

      one_more : (m : List ℕ) → m ≡ q ∷ [] → up_to_two q (m ++ (q ∷ r)) ≡ length m → ⊥
      one_more m e two =
          let one : up_to_two q (q ∷ (q ∷ r)) ≡ 1 = rw e at two in
          let both : up_to_two q (q ∷ (q ∷ r)) ≡ 2 = rw (eq-eqb q q refl) in
          omega arith

      closing : (m : List ℕ) × (a ∷ x ≡ q ∷ (q ∷ (q ∷ m))) × (up_to_two q (m ++ (q ∷ r)) ≡ length m) → (y : List ℕ) × (a ∷ x ≡ y ++ five)
      closing (m, is, two) =
          ⊎_elim (λ e. absurd (more m e two))
          (⊎_elim (λ e. absurd (one_more m e two)) (λ e. ([], is ∙ ap (λ (l : List ℕ). q ∷ (q ∷ (q ∷ l))) e)))
          (two_marks m q r two)

      later : (y : List ℕ) × (x ≡ y ++ five) → (y : List ℕ) × (a ∷ x ≡ y ++ five)
      later (y, e) = (a ∷ y, ap (λ (l : List ℕ). a ∷ l) e)
