-- What the bytes of a part come to is what the check of whole documents says of them: whole characters pass, and a faulty
-- sequence is found with its two numbers, whatever bytes follow it.
-- Assumes nothing.
use Prim.Native.Nat.{ℕ, suc, ◌+◌, ◌-◌, ◌≤◌, ◌<◌}
use mathlib.Core.Path.{◌≡◌, refl, sym, ap, ◌∙◌, subst}
use mathlib.Core.Bool.{Bool, true, false, cond}
use mathlib.Core.List.{List, [], ◌∷◌, ◌++◌, append_assoc, append-nil}
use native.Mathlib.Omega.{arith}
use Rattle.std.specs.Prelude.{Option, Some, None, Result, Ok, Err}
use native.Mathlib.Nat.{add-zero}
use native.Mathlib.Numerals.{add-one}
use lib.ListN.{length, get_or, take, drop, length-append, length-drop, take-append-drop, drop_of_length-le}
use lib.Seq.{take_all, drop-length, drop-cons, drop-drop, drop_at, length-take-le}
use lib.Dec.{ltb, eqb}
use borrow.Author.Tests.{lt-ltb, le-ltb, eqb-true, eqb-false}
use Rattle.text_classes.proofs.Conds.{by_eq, not_both}
use Rattle.text_refusals.specs.declared.Refusal.{Refusal}
use Rattle.text_refusals.specs.declared.Refusal.TheVariants.{NotUtf8, TooLong}
use Rattle.text_refusals.specs.Refusals.{limit, refusal_value, refusal_length}
use Rattle.text_scalars.specs.Utf8.{encode_scalar, Utf8}
use Rattle.text_scalars.specs.Utf8Read.{guess, char_len, valid_prefix}
use Rattle.text_scalars.proofs.ReadLaws.{char_sound, valid_append, valid_none, valid_le, valid_is, utf8_iff}
use Rattle.text_scalars.proofs.CutLaws.{utf8_append}
use Rattle.text_characters.specs.Lead.{fault_len}
use Rattle.text.specs.CheckMeans.{check_of}
use Rattle.built_characters.specs.declared.Character.{Character}
use Rattle.built_characters.specs.declared.Character.TheVariants.{Whole, Begun}
use Rattle.built_characters.specs.Characters.{character_turn}
use Rattle.built_parts.specs.declared.checks.Checked.{Checked}
use Rattle.built_parts.specs.declared.checks.Faulty.{Faulty as Fault}
use Rattle.built_parts.specs.Checking.{faulty_len, valid_at, good, bad, checked_by, on_good, checked}
use Rattle.built_parts.specs.Passing.{stopped_at, PassedMeans}
use Rattle.built_parts.proofs.CharacterLaws.{Read, none, fault_of, Makes, breaks, goes, whole, makes, read_none, read_fault, read_some}

-- ---- the state of a walk, and a fault

-- after the bytes s, which stand from `base` on: whole characters u, then the bytes r of the one in progress
pub record Walking (base : ℕ) (s : List ℕ) (c : Character) (valid : ℕ) : Type 0 where
  pub u : List ℕ
  pub r : List ℕ
  pub split : u ++ r ≡ s
  pub chars : Utf8 u
  pub reads : Read r c
  pub place : valid_at c valid (base + length s) ≡ base + length u

-- whatever follows, the longest valid prefix has k bytes, and the faulty sequence after it n
pub record Faulty (base : ℕ) (s : List ℕ) (valid n : ℕ) : Type 0 where
  pub k : ℕ
  pub is : valid ≡ base + k
  pub within : k < length s
  pub longest : (e : List ℕ) → valid_prefix (s ++ e) ≡ k
  pub fault : (e : List ℕ) → fault_len (drop k (s ++ e)) ≡ n

abbrev pub CheckTold : ℕ → List ℕ → Result Checked Fault → Type 0
CheckTold base s (Ok g) = Walking base s g.character g.valid
CheckTold base s (Err f) = Faulty base s f.valid f.length

one_char : (x : List ℕ) (n : ℕ) → char_len x ≡ suc n → length x ≡ suc n → Utf8 x
one_char x n e l =
    let h = char_sound x n e in
    let d : drop (suc n) x ≡ [] = rw (← l) (drop-length x) in
    (guess x ∷ [], (h.scalar, tt), ap (λ (y : List ℕ). encode_scalar (guess x) ++ y) (sym d) ∙ h.split)

fault_len_lem : (base : ℕ) (u r : List ℕ) → faulty_len (base + length u) (base + (length u + length r)) ≡ fault_of r
fault_len_lem base u [] = simp (le-ltb (base + length u) (base + (length u + 0)) (omega arith))
fault_len_lem base u (a ∷ r) =
    let h : base + length u < base + (length u + suc (length r)) = omega arith in
    simp (lt-ltb _ _ h) (omega arith)

module _ (base : ℕ) (s : List ℕ) (b : ℕ) (u r : List ℕ) (sp : u ++ r ≡ s) (uv : Utf8 u) where
  long : length s ≡ length u + length r
  long = ap length (sym sp) ∙ length-append u r

  all_of : (e : List ℕ) → (s ++ (b ∷ [])) ++ e ≡ u ++ (r ++ (b ∷ e))
  all_of e = rw (← sp) (append_assoc (u ++ r) (b ∷ []) e ∙ append_assoc u r (b ∷ e))

  one_more : u ++ (r ++ (b ∷ [])) ≡ s ++ (b ∷ [])
  one_more = sym (append_assoc u r (b ∷ [])) ∙ ap (λ (z : List ℕ). z ++ (b ∷ [])) sp

  step_told : (w : ℕ) → w ≡ base + length u → (t : Option Character) → Makes r b t
      → CheckTold base (s ++ (b ∷ [])) (checked_by t w (base + length s))
  step_told w p t (breaks f g) = record {
    k = length u;
    is = p;
    within = omega (arith, long, length-append s (b ∷ []));
    longest = λ e. rw (all_of e, valid_append u uv (r ++ (b ∷ e)), valid_none (r ++ (b ∷ e)) (f e)) (add-zero (length u));
    fault = λ e.
        ap (λ (z : List ℕ). fault_len (drop (length u) z)) (all_of e)
        ∙ ap fault_len (drop_at u (r ++ (b ∷ e)) (length u) refl)
        ∙ g e
        ∙ sym (rw (p, long) (fault_len_lem base u r));
  }
  step_told w p t (goes x) = record {
    u = u;
    r = r ++ (b ∷ []);
    split = one_more;
    chars = uv;
    reads = x;
    place = p;
  }
  step_told w p t (whole x) = record {
    u = s ++ (b ∷ []);
    r = [];
    split = append-nil (s ++ (b ∷ []));
    chars = subst (λ (z : List ℕ). Utf8 z) one_more
        (utf8_append u (r ++ (b ∷ [])) uv (one_char (r ++ (b ∷ [])) (length r) x (length-append r (b ∷ []) ∙ omega arith)));
    reads = none;
    place = refl;
  }

walk_step : (base : ℕ) (s : List ℕ) (c : Character) (valid b : ℕ) → Walking base s c valid
    → CheckTold base (s ++ (b ∷ [])) (checked_by (character_turn c b) (valid_at c valid (base + length s)) (base + length s))
walk_step base s c valid b i =
    step_told base s b i.u i.r i.split i.chars (valid_at c valid (base + length s)) i.place
    (character_turn c b) (makes i.r c b i.reads)

faulty_more : (base : ℕ) (s t : List ℕ) (valid n : ℕ) → Faulty base s valid n → Faulty base (s ++ t) valid n
faulty_more base s t valid n h = record {
  k = h.k;
  is = h.is;
  within = omega (arith, h.within, length-append s t);
  longest = λ e. ap valid_prefix (append_assoc s t e) ∙ h.longest (t ++ e);
  fault = λ e. ap (λ (z : List ℕ). fault_len (drop h.k z)) (append_assoc s t e) ∙ h.fault (t ++ e);
}

on_told : (base : ℕ) (s t : List ℕ) (x : Result Checked Fault) (f : Character → ℕ → Result Checked Fault) → CheckTold base s x
    → ((d : Character) (v : ℕ) → Walking base s d v → CheckTold base (s ++ t) (f d v)) → CheckTold base (s ++ t) (on_good x f)
on_told base s t (Ok x) f h g = g x.character x.valid h
on_told base s t (Err x) f h g = faulty_more base s t x.valid x.length h

-- told once more: the place is said where no character is in progress
told_again : (c : Character) (valid at : ℕ) → valid_at c (valid_at c valid at) at ≡ valid_at c valid at
told_again Whole valid at = refl
told_again (Begun left low high) valid at = refl

pub walk_told : (t : List ℕ) (base : ℕ) (s : List ℕ) (c : Character) (valid : ℕ) → Walking base s c valid
    → CheckTold base (s ++ t) (checked c valid (base + length s) t)
unfolding checked
walk_told [] base s c valid i = rw (append-nil s) (record {
  u = i.u;
  r = i.r;
  split = i.split;
  chars = i.chars;
  reads = i.reads;
  place = told_again c valid (base + length s) ∙ i.place;
})
walk_told (b ∷ t) base s c valid i =
    let at : base + length s + 1 ≡ base + length (s ++ (b ∷ [])) = omega (arith, length-append s (b ∷ [])) in
    rw (← append_assoc s (b ∷ []) t)
    (on_told base (s ++ (b ∷ [])) t (checked_by (character_turn c b) (valid_at c valid (base + length s)) (base + length s))
    (λ d v. checked d v (base + length s + 1) t) (walk_step base s c valid b i)
    (λ d v j. rw at (walk_told t base (s ++ (b ∷ [])) d v j)))

-- the walk over some bytes where no character is in progress
pub told : (base valid : ℕ) (s : List ℕ) → CheckTold base s (checked Whole valid base s)
told base valid s =
    let at : base + 0 ≡ base = omega arith in
    rw at at (walk_told s base [] Whole valid (record {
      u = [];
      r = [];
      split = refl;
      chars = ([], tt, refl);
      reads = none;
      place = omega arith;
    }))

-- ---- what the walk knows

pub walking_prefix : (base : ℕ) (s : List ℕ) (c : Character) (valid : ℕ) (i : Walking base s c valid) → valid_prefix s ≡ length i.u
walking_prefix base s c valid i =
    ap valid_prefix (sym i.split) ∙ valid_append i.u i.chars i.r
    ∙ rw (read_none i.r c i.reads) (add-zero (length i.u))

-- ---- part by part

abbrev Whole-valid : (at valid : ℕ) (s : List ℕ) → Type 0
Whole-valid at valid s = checked Whole valid at s ≡ checked Whole at at s

whole_valid : (at valid : ℕ) (s : List ℕ) → Whole-valid at valid s
unfolding checked
whole_valid at valid [] = refl
whole_valid at valid (b ∷ s) = refl

told_on : (c : Character) (valid at : ℕ) (s : List ℕ) → checked c (valid_at c valid at) at s ≡ checked c valid at s
unfolding checked
told_on c valid at [] = ap (good c) (told_again c valid at)
told_on c valid at (b ∷ s) =
    ap (λ (v : ℕ). on_good (checked_by (character_turn c b) v at) (λ d w. checked d w (at + 1) s)) (told_again c valid at)

join_by : (x : Result Checked Fault) (f g : Character → ℕ → Result Checked Fault) (h : Character → ℕ → Result Checked Fault)
    → ((d : Character) (v : ℕ) → f d v ≡ on_good (g d v) h) → on_good x f ≡ on_good (on_good x g) h
join_by (Ok x) f g h e = e x.character x.valid
join_by (Err x) f g h e = refl

-- the bytes of two parts, one after the other
pub checked_join : (c : Character) (valid at : ℕ) (p e : List ℕ)
    → checked c valid at (p ++ e) ≡ on_good (checked c valid at p) (λ d v. checked d v (at + length p) e)
unfolding checked
checked_join c valid at [] e = rw add-zero (sym (told_on c valid at e))
checked_join c valid at (b ∷ p) e =
    let n : at + suc (length p) ≡ at + 1 + length p = omega arith in
    rw n (join_by (checked_by (character_turn c b) (valid_at c valid at) at) (λ d v. checked d v (at + 1) (p ++ e))
    (λ d v. checked d v (at + 1) p) (λ d v. checked d v (at + 1 + length p) e) (λ d v. checked_join d v (at + 1) p e))

-- ---- whole characters pass

abbrev place : Result Checked Fault → ℕ
place (Ok g) = g.valid
place (Err f) = f.valid

abbrev state : Result Checked Fault → Character
state (Ok g) = g.character
state (Err f) = Whole

good_place : (s : List ℕ) (c : Character) (valid at v : ℕ) → checked c valid at s ≡ good Whole v → v ≡ at + length s
unfolding checked
good_place [] Whole valid at v e = sym (ap place e) ∙ sym (add-zero at)
good_place [] (Begun left low high) valid at v e = let w : Begun left low high ≡ Whole = ap state e in cc
good_place (b ∷ s) c valid at v e =
    go (checked_by (character_turn c b) (valid_at c valid at) at) (λ d w. good_place s d w (at + 1) v) e
  where
    go : (x : Result Checked Fault) → ((d : Character) (w : ℕ) → checked d w (at + 1) s ≡ good Whole v → v ≡ at + 1 + length s)
        → on_good x (λ d w. checked d w (at + 1) s) ≡ good Whole v → v ≡ at + suc (length s)
    go (Ok x) f e = f x.character x.valid e ∙ omega arith
    go (Err x) f e = let z : ◌≡◌ {A = ℕ} 0 1 = cc in absurd (omega arith)

walking_whole : (base : ℕ) (s : List ℕ) (c : Character) (valid : ℕ) → Walking base s c valid → Utf8 s → c ≡ Whole
walking_whole base s Whole valid i w = refl
walking_whole base s (Begun left low high) valid i w =
    absurd (omega (
      arith,
      read_some i.r left low high i.reads,
      walking_prefix base s (Begun left low high) valid i,
      (utf8_iff s).1 w,
      ap length (sym i.split) ∙ length-append i.u i.r,
    ))

faulty_not : {P : Type 0} (base : ℕ) (s : List ℕ) (valid n : ℕ) → Faulty base s valid n → Utf8 s → P
faulty_not base s valid n h w =
    absurd (omega (arith, h.within, ap valid_prefix (sym (append-nil s)) ∙ h.longest [], (utf8_iff s).1 w))

pub chars_pass : (valid at : ℕ) (s : List ℕ) → Utf8 s → checked Whole valid at s ≡ good Whole (at + length s)
chars_pass valid at s w = go (checked Whole valid at s) refl (told at valid s)
  where
    go : (x : Result Checked Fault) → checked Whole valid at s ≡ x → CheckTold at s x → checked Whole valid at s ≡ good Whole (at + length s)
    go (Ok g) e i =
        let v = g.valid in
        let is : g.character ≡ Whole = walking_whole at s g.character v i w in
        let f : checked Whole valid at s ≡ good Whole v = e ∙ ap (λ (d : Character). good d v) is in
        f ∙ ap (good Whole) (good_place s Whole valid at v f)
    go (Err f) e h = faulty_not at s f.valid f.length h w

pub pass_on : (valid at : ℕ) (p e : List ℕ) → Utf8 p → checked Whole valid at (p ++ e) ≡ checked Whole valid (at + length p) e
pass_on valid at p e w =
    checked_join Whole valid at p e
    ∙ ap (λ (x : Result Checked Fault). on_good x (λ d v. checked d v (at + length p) e)) (chars_pass valid at p w)
    ∙ sym (whole_valid (at + length p) valid e)

-- ---- a fault

pub fault_found : (valid at : ℕ) (s : List ℕ) → (valid_prefix s ≡ length s → ⊥) → (fault_len (drop (valid_prefix s) s) ≡ 0 → ⊥)
    → checked Whole valid at s ≡ bad (at + valid_prefix s) (fault_len (drop (valid_prefix s) s))
fault_found valid at s short some = go (checked Whole valid at s) refl (told at valid s)
  where
    go : (x : Result Checked Fault) → checked Whole valid at s ≡ x → CheckTold at s x
        → checked Whole valid at s ≡ bad (at + valid_prefix s) (fault_len (drop (valid_prefix s) s))
    go (Ok g) e i =
        let c = g.character in
        let n = walking_prefix at s c g.valid i in
        let left : drop (valid_prefix s) s ≡ i.r = rw n (ap (drop (length i.u)) (sym i.split) ∙ drop_at i.u i.r (length i.u) refl) in
        let more : 0 < length i.r = omega (arith, short, n, ap length (sym i.split) ∙ length-append i.u i.r, valid_le s) in
        absurd (some (ap fault_len left ∙ read_fault i.r c i.reads more))
    go (Err f) e h =
        let n = f.length in
        let k : valid_prefix s ≡ h.k = ap valid_prefix (sym (append-nil s)) ∙ h.longest [] in
        let m : fault_len (drop h.k s) ≡ n = ap (λ (z : List ℕ). fault_len (drop h.k z)) (sym (append-nil s)) ∙ h.fault [] in
        e ∙ ap (λ (x : ℕ). bad x n) h.is ∙ rw (k, m)

-- ---- the check of the bytes from a place on

module _ (s : List ℕ) (i : ℕ) (inside : i ≤ length s) where
  pub pass_none : (c : Character) → PassedMeans c s i (Ok i)
  pass_none c = (
    omega arith,
    inside,
    λ valid at.
        let n : at ≡ at + (i - i) = omega arith in
        ap (λ (k : ℕ). checked c valid k (drop i s)) n,
  )

  pass_to : (n : ℕ) → n ≤ length (drop i s) → Utf8 (take n (drop i s)) → PassedMeans Whole s i (Ok (i + n))
  pass_to n h w = (
    omega arith,
    omega (arith, length-drop i s),
    λ valid at.
        let rest = drop i s in
        let split : rest ≡ take n rest ++ drop (i + n) s = sym (take-append-drop n rest) ∙ ap (λ (x : List ℕ). take n rest ++ x) (drop-drop n i s) in
        let len : length (take n rest) ≡ i + n - i = length-take-le n rest h ∙ omega arith in
        ap (checked Whole valid at) split ∙ pass_on valid at (take n rest) (drop (i + n) s) w
        ∙ ap (λ (k : ℕ). checked Whole valid (at + k) (drop (i + n) s)) len,
  )

  -- the part that is checked
  part : take (length s - i) (drop i s) ≡ drop i s
  part = take_all (length s - i) (drop i s) (omega (arith, length-drop i s))

  pub pass_valid : check_of (take (length s - i) (drop i s)) ≡ Ok (tt {0}) → PassedMeans Whole s i (Ok (length s))
  unfolding check_of
  pass_valid h = go (ltb limit (length (drop i s))) (eqb (valid_prefix (drop i s)) (length (drop i s))) refl refl (rw part at h)
    where
      go : (x y : Bool) → ltb limit (length (drop i s)) ≡ x → eqb (valid_prefix (drop i s)) (length (drop i s)) ≡ y
          → cond x (Err TooLong) (cond y (Ok (tt {0})) (Err (NotUtf8 (valid_prefix (drop i s)) (fault_len (drop (valid_prefix (drop i s)) (drop i s)))))) ≡ Ok (tt {0})
          → PassedMeans Whole s i (Ok (length s))
      go true y p q e = let z : ◌≡◌ {A = ℕ} 0 1 = cc in absurd (omega arith)
      go false false p q e = let z : ◌≡◌ {A = ℕ} 0 1 = cc in absurd (omega arith)
      go false true p q e =
          let n : length (drop i s) ≡ valid_prefix (drop i s) = sym (eqb-true _ _ q) in
          let all : i + length (drop i s) ≡ length s = omega (arith, length-drop i s) in
          subst (λ (k : ℕ). PassedMeans Whole s i (Ok k)) all
          (pass_to (length (drop i s)) (omega arith) (rw n (valid_is (drop i s))))

  stopped_by : (v : ℕ) → v ≡ valid_prefix (drop i s) → (valid_prefix (drop i s) ≡ length (drop i s) → ⊥) → (n : ℕ)
      → n ≡ fault_len (drop (valid_prefix (drop i s)) (drop i s)) → PassedMeans Whole s i (stopped_at (i + v) n)
  stopped_by v e short n f =
      let rest = drop i s in
      by_eq (PassedMeans Whole s i) n 0
      (λ z. rw e (pass_to (valid_prefix rest) (valid_le rest) (valid_is rest)))
      (λ z. (
        omega arith,
        omega (arith, valid_le rest, length-drop i s),
        λ valid at.
            let k : i + v - i ≡ valid_prefix rest = omega arith in
            rw (k, f) (fault_found valid at rest short (λ y. z (f ∙ y))),
      ))

  pub pass_stopped : (r : Refusal) → length s ≤ limit → check_of (take (length s - i) (drop i s)) ≡ Err r
      → (i + refusal_value r ≤ length s) × PassedMeans Whole s i (stopped_at (i + refusal_value r) (refusal_length r))
  unfolding check_of
  pass_stopped r fits h =
      go (ltb limit (length (drop i s))) (eqb (valid_prefix (drop i s)) (length (drop i s))) refl refl (rw part at h)
    where
      fine : ltb limit (length (drop i s)) ≡ false
      fine = le-ltb limit (length (drop i s)) (omega (arith, length-drop i s))

      go : (x y : Bool) → ltb limit (length (drop i s)) ≡ x → eqb (valid_prefix (drop i s)) (length (drop i s)) ≡ y
          → cond x (Err TooLong) (cond y (Ok (tt {0})) (Err (NotUtf8 (valid_prefix (drop i s)) (fault_len (drop (valid_prefix (drop i s)) (drop i s)))))) ≡ Err r
          → (i + refusal_value r ≤ length s) × PassedMeans Whole s i (stopped_at (i + refusal_value r) (refusal_length r))
      go true y p q e = not_both p fine
      go false true p q e = let z : ◌≡◌ {A = ℕ} 0 1 = cc in absurd (omega arith)
      go false false p q e =
          let is : NotUtf8 (valid_prefix (drop i s)) (fault_len (drop (valid_prefix (drop i s)) (drop i s))) ≡ r = cc in
          let v : refusal_value r ≡ valid_prefix (drop i s) = ap refusal_value (sym is) in
          let n : refusal_length r ≡ fault_len (drop (valid_prefix (drop i s)) (drop i s)) = ap refusal_length (sym is) in
          (omega (arith, v, valid_le (drop i s), length-drop i s), stopped_by (refusal_value r) v (eqb-false _ _ q) (refusal_length r) n)

-- ---- the turns of the loop, of which `end` is what all the bytes s come to

module _ (s : List ℕ) (c : Character) (v at : ℕ) (end : Result Checked Fault) where
  -- the bytes from the place i on
  abbrev From : ℕ → Type 0
  From i = checked c v (at + i) (drop i s) ≡ end

  passed_is : (i : ℕ) (x y : Result ℕ Fault) → x ≡ y → PassedMeans c s i x → PassedMeans c s i y
  passed_is i x y e = subst (PassedMeans c s i) e

  pub check_fault : (i : ℕ) (w : Fault) (x : Result ℕ Fault) → x ≡ Err w → PassedMeans c s i x → From i
      → (w.valid ≤ length s) × (bad (at + w.valid) w.length ≡ end)
  check_fault i w x e m f =
      let h = passed_is i x (Err w) e m in
      let k : at + w.valid ≡ at + i + (w.valid - i) = omega (arith, h.0) in
      (h.1, ap (λ (j : ℕ). bad j w.length) k ∙ sym (h.2 v (at + i)) ∙ f)

  pub check_passed : (i e : ℕ) (x : Result ℕ Fault) → x ≡ Ok e → PassedMeans c s i x → From i → (i ≤ e) × (e ≤ length s) × From e
  check_passed i e x y m f =
      let h = passed_is i x (Ok e) y m in
      let k : at + i + (e - i) ≡ at + e = omega (arith, h.0) in
      (h.0, h.1, ap (λ (j : ℕ). checked c v j (drop e s)) (sym k) ∙ sym (h.2 v (at + i)) ∙ f)

  pub check_done : (e w : ℕ) → length s ≤ e → w ≡ valid_at c v (at + e) → From e → good c w ≡ end
  unfolding checked
  check_done e w h is f = ap (good c) is ∙ sym (rw (drop_of_length-le s h)) ∙ f

  turn_is : (e w : ℕ) → e < length s → w ≡ valid_at c v (at + e) → (t : Option Character) → t ≡ character_turn c (get_or s e 0) → From e
      → on_good (checked_by t w (at + e)) (λ d u. checked d u (at + (e + 1)) (drop (e + 1) s)) ≡ end
  unfolding checked
  turn_is e w h is t y f =
      let k : at + (e + 1) ≡ at + e + 1 = omega arith in
      rw (y, is, k) (sym (rw (add-one e, drop-cons s e 0)) ∙ f)

  pub check_broken : (e w n : ℕ) → e < length s → w ≡ valid_at c v (at + e) → (t : Option Character) → t ≡ character_turn c (get_or s e 0) → t ≡ None
      → n ≡ faulty_len w (at + e) → From e → bad w n ≡ end
  check_broken e w n h is t y b m f =
      ap (bad w) m
      ∙ ap (λ (x : Option Character). on_good (checked_by x w (at + e)) (λ d u. checked d u (at + (e + 1)) (drop (e + 1) s))) (sym b)
      ∙ turn_is e w h is t y f

  pub check_sound : (e w : ℕ) → e < length s → w ≡ valid_at c v (at + e) → (t : Option Character) → t ≡ character_turn c (get_or s e 0)
      → (d : Character) → t ≡ Some d → From e → checked d w (at + (e + 1)) (drop (e + 1) s) ≡ end
  check_sound e w h is t y d b f =
      ap (λ (x : Option Character). on_good (checked_by x w (at + e)) (λ d u. checked d u (at + (e + 1)) (drop (e + 1) s))) (sym b)
      ∙ turn_is e w h is t y f
