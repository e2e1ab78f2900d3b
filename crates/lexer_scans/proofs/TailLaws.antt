-- The laws of a string's tail at a place of the document, for the loop that walks it: by a byte, by a run of plain bytes,
-- and at its end.
-- Assumes nothing.
use Prim.Native.Nat.{ℕ, suc, ◌+◌, ◌≤◌, ◌<◌}
use mathlib.Core.Path.{◌≡◌, refl, sym, ap, ◌∙◌}
use mathlib.Core.Bool.{Bool, true, false, not, ◌&&◌, ◌||◌}
use mathlib.Core.List.{List, [], ◌∷◌}
use native.Mathlib.Numerals.{add-one}
use native.Mathlib.Omega.{arith}
use native.Mathlib.Decide.{dec_lt}
use borrow.Author.Tests.{not-true, eq-eqb, ne_eqb}
use lib.Dec.{eqb}
use lib.ListN.{length, get_or, drop, drop_of_length-le, length-drop}
use lib.Seq.{drop-cons, drop-drop, get_or-drop}
use Rattle.text_classes.specs.Runs.{run, stands, triple}
use Rattle.text_classes.proofs.Conds.{cond_case, not_both}
use Rattle.text_classes.proofs.FirstLaws.{first_there, stands_there}
use Rattle.text_classes.proofs.RunLaws.{run_le, SameEnd}
use Rattle.lexer_scans.specs.Extents.{hides, closes, line_tail, up_to_two, ml_tail}
use Rattle.lexer_scans.specs.Scans.{but_one, but_two, but_three}

-- ---- by a byte

module _ (q : ℕ) (h : Bool) (s : List ℕ) (i : ℕ) (l : i < length s) where
  pub line_step : closes q h (get_or s i 0) ≡ false → eqb (get_or s i 0) 10 ≡ false
      → line_tail q h (drop i s) ≡ suc (line_tail q (hides q h (get_or s i 0)) (drop (i + 1) s))
  unfolding line_tail
  line_step t u = rw (add-one, drop-cons s i 0, t, u)

  pub line_close : closes q h (get_or s i 0) ≡ true → line_tail q h (drop i s) ≡ 1
  unfolding line_tail
  line_close t = rw (drop-cons s i 0, t)

  pub line_lf : closes q h (get_or s i 0) ≡ false → eqb (get_or s i 0) 10 ≡ true → line_tail q h (drop i s) ≡ 0
  unfolding line_tail
  line_lf t u = rw (drop-cons s i 0, t, u)

  pub ml_step : (not h && triple q (drop i s)) ≡ false
      → ml_tail q h (drop i s) ≡ suc (ml_tail q (hides q h (get_or s i 0)) (drop (i + 1) s))
  unfolding ml_tail
  ml_step t = rw (add-one, drop-cons s i 0, rw (drop-cons s i 0) at t)

  pub ml_close : (not h && triple q (drop i s)) ≡ true → ml_tail q h (drop i s) ≡ 3 + up_to_two q (drop (i + 3) s)
  unfolding ml_tail
  ml_close t = rw (← drop-drop 3 i s, drop-cons s i 0, rw (drop-cons s i 0) at t)

module _ (q : ℕ) (h : Bool) (s : List ℕ) (i : ℕ) (l : length s ≤ i) where
  pub line_end : line_tail q h (drop i s) ≡ 0
  unfolding line_tail
  line_end = rw (drop_of_length-le s l)

  pub ml_end : ml_tail q h (drop i s) ≡ 0
  unfolding ml_tail
  ml_end = rw (drop_of_length-le s l)

-- ---- none of some bytes

none_of_two : (x y : Bool) → not (x || y) ≡ true → (x ≡ false) × (y ≡ false)
none_of_two true y h = not_both h refl
none_of_two false true h = not_both h refl
none_of_two false false h = (refl, refl)

none_of_three : (x y z : Bool) → not (x || (y || z)) ≡ true → (x ≡ false) × (y ≡ false) × (z ≡ false)
none_of_three true y z h = not_both h refl
none_of_three false y z h = let n = none_of_two y z h in (refl, n.0, n.1)

-- ---- by a run of plain bytes

-- a tail goes on over each byte of a class
abbrev Over : (List ℕ → ℕ) → (ℕ → Bool) → Type 0
Over F p = (b : ℕ) (s : List ℕ) → p b ≡ true → F (b ∷ s) ≡ suc (F s)

-- then it goes on over a run of them
over_run : (F : List ℕ → ℕ) (p : ℕ → Bool) → Over F p → (s : List ℕ) → F s ≡ run p s + F (drop (run p s) s)
unfolding run
over_run F p f [] = omega arith
over_run F p f (b ∷ s) =
    cond_case (λ (n : ℕ). F (b ∷ s) ≡ n + F (drop n (b ∷ s))) (p b)
    (λ t. omega (arith, f b s t, over_run F p f s))
    (λ t. omega arith)

-- so the end of the tail is where it was
over_run_at : (F : List ℕ → ℕ) (p : ℕ → Bool) → Over F p
    → (s : List ℕ) (i r : ℕ) → r ≡ i + run p (drop i s) → r + F (drop r s) ≡ i + F (drop i s)
over_run_at F p f s i r e =
    let n = run p (drop i s) in
    let rest : drop n (drop i s) ≡ drop r s = drop-drop n i s ∙ ap (λ (k : ℕ). drop k s) (sym e) in
    omega (arith, over_run F p f (drop i s), ap F rest)

-- the bytes that a string of each kind goes on over

literal_over : Over (line_tail 39 false) (but_two 39 10)
unfolding line_tail
literal_over b s t = let n = none_of_two (eqb b 39) (eqb b 10) t in rw (n.0, n.1)

basic_over : Over (line_tail 34 false) (but_three 34 92 10)
unfolding line_tail
basic_over b s t = let n = none_of_three (eqb b 34) (eqb b 92) (eqb b 10) t in rw (n.0, n.1, n.2)

other_mark : (q b : ℕ) (s : List ℕ) → eqb b q ≡ false → triple q (b ∷ s) ≡ false
unfolding triple
other_mark q b s t = rw t

ml_literal_over : Over (ml_tail 39 false) (but_one 39)
unfolding ml_tail
ml_literal_over b s t = rw (other_mark 39 b s (not-true _ t))

ml_basic_over : Over (ml_tail 34 false) (but_two 34 92)
unfolding ml_tail
ml_basic_over b s t =
    let n = none_of_two (eqb b 34) (eqb b 92) t in
    rw (other_mark 34 b s n.0, n.1)

-- ---- a run ends within the list, and at a byte that fails the test

module _ (p : ℕ → Bool) where
  fails_behind : (s : List ℕ) → run p s < length s → p (get_or s (run p s) 0) ≡ false
  unfolding run
  fails_behind [] = λ h. absurd (omega arith)
  fails_behind (b ∷ s) =
      cond_case (λ (n : ℕ). n < suc (length s) → p (get_or (b ∷ s) n 0) ≡ false) (p b)
      (λ t h. fails_behind s (omega arith))
      (λ t h. t)

  module _ (s : List ℕ) (i r : ℕ) (e : r ≡ i + run p (drop i s)) where
    pub run_within : i ≤ length s → r ≤ length s
    run_within l = omega (arith, run_le p (drop i s), length-drop i s)

    pub run_fails : r < length s → p (get_or s r 0) ≡ false
    run_fails h =
        ap (λ (n : ℕ). p (get_or s n 0)) e ∙ ap p (sym (get_or-drop i s (run p (drop i s)) 0))
        ∙ fails_behind (drop i s) (omega (arith, length-drop i s))

-- ---- after a search for the bytes that matter

-- from place i to place r, over bytes of the class p, none of which moves the end
pub record Found (reach : List ℕ → ℕ) (p : ℕ → Bool) (s : List ℕ) (i r : ℕ) : Type 0 where
  pub forward : i ≤ r
  pub within : i ≤ length s → r ≤ length s
  pub same : r + reach (drop r s) ≡ i + reach (drop i s)
  pub stopped : r < length s → p (get_or s r 0) ≡ false

found : (F : List ℕ → ℕ) (p : ℕ → Bool) → Over F p
    → (s : List ℕ) (i r : ℕ) → r ≡ i + run p (drop i s) → Found F p s i r
found F p f s i r e =
    record {
      forward = omega arith;
      within = run_within p s i r e;
      same = over_run_at F p f s i r e;
      stopped = run_fails p s i r e;
    }

-- for each kind of string
abbrev pub LiteralFound : List ℕ → ℕ → ℕ → Type 0
LiteralFound = Found (line_tail 39 false) (but_two 39 10)

abbrev pub BasicFound : List ℕ → ℕ → ℕ → Type 0
BasicFound = Found (line_tail 34 false) (but_three 34 92 10)

abbrev pub MlLiteralFound : List ℕ → ℕ → ℕ → Type 0
MlLiteralFound = Found (ml_tail 39 false) (but_one 39)

abbrev pub MlBasicFound : List ℕ → ℕ → ℕ → Type 0
MlBasicFound = Found (ml_tail 34 false) (but_two 34 92)

module _ (s : List ℕ) (i r : ℕ) where
  pub literal_found : r ≡ i + run (but_two 39 10) (drop i s) → LiteralFound s i r
  literal_found = found (line_tail 39 false) (but_two 39 10) literal_over s i r

  pub basic_found : r ≡ i + run (but_three 34 92 10) (drop i s) → BasicFound s i r
  basic_found = found (line_tail 34 false) (but_three 34 92 10) basic_over s i r

  pub ml_literal_found : r ≡ i + run (but_one 39) (drop i s) → MlLiteralFound s i r
  ml_literal_found = found (ml_tail 39 false) (but_one 39) ml_literal_over s i r

  pub ml_basic_found : r ≡ i + run (but_two 34 92) (drop i s) → MlBasicFound s i r
  ml_basic_found = found (ml_tail 34 false) (but_two 34 92) ml_basic_over s i r

-- over some of the bytes that do not matter, the end of the string stays where it is too
pub basic_passed : (s : List ℕ) (i r : ℕ) → SameEnd (run (but_three 34 92 10)) s i r → SameEnd (line_tail 34 false) s i r
basic_passed s i r e =
    let end = i + run (but_three 34 92 10) (drop i s) in
    let one = (basic_found s i end refl).same in
    let two = (basic_found s r end (sym e.1)).same in
    (e.0, omega arith)

-- ---- at the mark or the LF that ends a string on a line

-- the mark closes it
pub line_closed : (q : ℕ) (s : List ℕ) (i : ℕ) → stands q (drop i s) ≡ true → line_tail q false (drop i s) ≡ 1
line_closed q s i t =
    let there = stands_there q s i t in
    line_close q false s i there.0 (eq-eqb _ _ there.1)

-- an LF, or the end of the document, stops it
line_halts : (q : ℕ) (s : List ℕ) (i : ℕ) → (i < length s → (eqb (get_or s i 0) q ≡ false) × (eqb (get_or s i 0) 10 ≡ true))
    → line_tail q false (drop i s) ≡ 0
line_halts q s i f =
    elim (dec_lt i (length s)) [
      | yes l ↦ line_lf q false s i l (f l).0 (f l).1
      | no l ↦ line_end q false s i (omega arith)
    ]

some_of_two : (x y : Bool) → not (x || y) ≡ false → x ≡ false → y ≡ true
some_of_two true y h e = not_both refl e
some_of_two false true h e = refl
some_of_two false false h e = not_both refl h

module _ (s : List ℕ) (i r : ℕ) where
  abbrev there : (q : ℕ) → r < length s → stands q (drop r s) ≡ false → eqb (get_or s r 0) q ≡ false
  there q l e = sym (first_there (λ b. eqb b q) s r l) ∙ e

  pub literal_halts : LiteralFound s i r → stands 39 (drop r s) ≡ false → line_tail 39 false (drop r s) ≡ 0
  literal_halts f m =
      line_halts 39 s r
      (λ l. (there 39 l m, some_of_two (eqb (get_or s r 0) 39) (eqb (get_or s r 0) 10) (f.stopped l) (there 39 l m)))

  pub basic_halts : BasicFound s i r → stands 34 (drop r s) ≡ false → stands 92 (drop r s) ≡ false
      → line_tail 34 false (drop r s) ≡ 0
  basic_halts f m e =
      let b = get_or s r 0 in
      let lf : (l : r < length s) → eqb b 10 ≡ true =
      λ l. some_of_two (eqb b 92) (eqb b 10) (rw (there 34 l m) at (f.stopped l)) (there 92 l e) in
      line_halts 34 s r (λ l. (there 34 l m, lf l))

-- ---- at an escape, and at the byte that it hides

pub line_escape : (s : List ℕ) (i : ℕ) → i < length s → get_or s i 0 ≡ 92
    → line_tail 34 false (drop i s) ≡ suc (line_tail 34 true (drop (i + 1) s))
line_escape s i l e =
    let other : (x : ℕ) → x < 92 → eqb (get_or s i 0) x ≡ false = λ x h. ne_eqb (get_or s i 0) x (λ n. omega arith) in
    line_step 34 false s i l (other 34 (omega arith)) (other 10 (omega arith))
    ∙ ap (λ (h : Bool). suc (line_tail 34 h (drop (i + 1) s))) (eq-eqb _ _ e)

-- over both of them, where the one that is hidden is no LF
pub line_escaped : (s : List ℕ) (i : ℕ) → i + 1 < length s → get_or s i 0 ≡ 92 → (get_or s (i + 1) 0 ≡ 10 → ⊥)
    → line_tail 34 false (drop i s) ≡ 2 + line_tail 34 false (drop (i + 2) s)
line_escaped s i l e n =
    let same : i + 1 + 1 ≡ i + 2 = omega arith in
    let hidden = line_step 34 true s (i + 1) l refl (ne_eqb _ _ n) in
    omega (arith, line_escape s i (omega arith) e, ap (λ (k : ℕ). line_tail 34 false (drop k s)) same)

-- ---- in a string on several lines, where no three marks stand

module _ (s : List ℕ) (i : ℕ) where
  -- over one byte of a literal one
  pub ml_literal_on : i < length s → triple 39 (drop i s) ≡ false → ml_tail 39 false (drop i s) ≡ suc (ml_tail 39 false (drop (i + 1) s))
  ml_literal_on l t = ml_step 39 false s i l t

  -- over one byte of a basic one that is no escape
  pub ml_basic_on : i < length s → triple 34 (drop i s) ≡ false → (get_or s i 0 ≡ 92 → ⊥)
      → ml_tail 34 false (drop i s) ≡ suc (ml_tail 34 false (drop (i + 1) s))
  ml_basic_on l t n = ml_step 34 false s i l t ∙ ap (λ (h : Bool). suc (ml_tail 34 h (drop (i + 1) s))) (ne_eqb _ _ n)

  -- over an escape and the byte that it hides
  pub ml_escaped : i + 1 < length s → triple 34 (drop i s) ≡ false → get_or s i 0 ≡ 92
      → ml_tail 34 false (drop i s) ≡ 2 + ml_tail 34 false (drop (i + 2) s)
  ml_escaped l t e =
      let escape = ml_step 34 false s i (omega arith) t ∙ ap (λ (h : Bool). suc (ml_tail 34 h (drop (i + 1) s))) (eq-eqb _ _ e) in
      let same : i + 1 + 1 ≡ i + 2 = omega arith in
      let hidden = ml_step 34 true s (i + 1) l refl in
      omega (arith, ap (λ (k : ℕ). ml_tail 34 false (drop k s)) same)

  -- one byte that is left, or none, is the rest of the string
  pub ml_last : (q : ℕ) → i ≤ length s → length s ≤ i + 1 → triple q (drop i s) ≡ false → i + ml_tail q false (drop i s) ≡ length s
  ml_last q h l t =
      elim (dec_lt i (length s)) [
        | yes k ↦ omega (arith, ml_step q false s i k t, ml_end q (hides q false (get_or s i 0)) s (i + 1) l)
        | no k ↦ omega (arith, ml_end q false s i (omega arith))
      ]

-- ---- what a backslash hides matters only if it is a backslash or the mark

module _ (q b : ℕ) (s : List ℕ) (m : eqb b q ≡ false) (e : eqb b 92 ≡ false) where
  hides_none : (eqb q 34 && eqb b 92) ≡ false
  hides_none = ap (λ (x : Bool). eqb q 34 && x) e ∙ go (eqb q 34)
    where
      go : (x : Bool) → (x && false) ≡ false
      go true = refl
      go false = refl

  pub line_hidden_other : line_tail q true (b ∷ s) ≡ line_tail q false (b ∷ s)
  unfolding line_tail
  line_hidden_other = rw (m, hides_none)

  pub ml_hidden_other : ml_tail q true (b ∷ s) ≡ ml_tail q false (b ∷ s)
  unfolding ml_tail
  ml_hidden_other = rw (other_mark q b s m, hides_none)
