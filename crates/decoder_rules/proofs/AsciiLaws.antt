-- Which classes hold every byte beyond ASCII, which hold none, and where a run of either cuts UTF-8.
-- Assumes nothing.
use Prim.Native.Nat.{ℕ, zero, suc, ◌+◌, ◌-◌, ◌≤◌, ◌<◌}
use mathlib.Core.Path.{◌≡◌, refl, ap, ◌∙◌, subst}
use mathlib.Core.Logic.{◌⊎◌, inl, inr, ⊎_elim}
use mathlib.Core.Bool.{Bool, true, false, cond, ◌||◌}
use mathlib.Core.List.{List, [], ◌∷◌, ◌++◌}
use native.Mathlib.Decide.{dec_lt}
use native.Mathlib.Omega.{arith}
use lib.Dec.{eqb, leb}
use lib.ListN.{length, take, drop, get_or, take-append-drop, length-append}
use lib.Seq.{take-add}
use borrow.Author.Tests.{eqb-true, leb-true, le-leb}
use Rattle.text_classes.specs.Classes.{among, wschar, literal_char, basic_unescaped, mlb_unescaped, hexdig, unquoted_char}
use Rattle.text_classes.specs.Runs.{run}
use Rattle.text_classes.proofs.Conds.{not_both, both_right, or_left, or_right, or_inv}
use Rattle.text_scalars.specs.Utf8.{Scalar, encode_scalar, Utf8}
use Rattle.text_scalars.proofs.ReadLaws.{valid_append, utf8_iff}
use Rattle.text_scalars.proofs.CutLaws.{one_utf8, utf8_append, cut_at}
use Rattle.decoder_rules.specs.Encodings.{mlb_plain, basic_invalid, mlb_invalid}
use Rattle.decoder_rules.specs.Bodies.{skips}

-- ---- classes

abbrev pub High : (ℕ → Bool) → Type 0
High p = (b : ℕ) → 0x80 ≤ b → p b ≡ true

abbrev pub Low : (ℕ → Bool) → Type 0
Low p = (b : ℕ) → p b ≡ true → b < 0x80

-- the last of the alternatives of basic-unescaped and of mlb-unescaped
last_high : (b : ℕ) → 0x80 ≤ b
    → ((eqb b 0x20 || eqb b 0x09) || (eqb b 0x21 || (among 0x23 0x5B b || (among 0x5D 0x7E b || leb 0x80 b)))) ≡ true
last_high b h =
    or_right (eqb b 0x20 || eqb b 0x09) _
    (or_right (eqb b 0x21) _ (or_right (among 0x23 0x5B b) _ (or_right (among 0x5D 0x7E b) _ (le-leb 0x80 b h))))

pub basic_high : High basic_unescaped
unfolding basic_unescaped
basic_high b h = last_high b h

pub literal_high : High literal_char
unfolding literal_char
literal_high b h =
    or_right (eqb b 0x09) _ (or_right (among 0x20 0x26 b) _ (or_right (among 0x28 0x7E b) _ (le-leb 0x80 b h)))

pub mlb_high : High mlb_plain
unfolding mlb_plain mlb_unescaped
mlb_high b h = or_left (mlb_unescaped b) _ (last_high b h)

-- what holds of no byte beyond ASCII
low_by : (p : ℕ → Bool) → ((b : ℕ) → 0x80 ≤ b → p b ≡ false) → Low p
low_by p f b e = elim (dec_lt b 0x80) [ yes l ↦ l | no l ↦ not_both e (f b (omega arith)) ]

pub basic_invalid_low : Low basic_invalid
unfolding basic_invalid
basic_invalid_low = low_by basic_invalid (λ b h. rw (basic_high b h))

pub mlb_invalid_low : Low mlb_invalid
unfolding mlb_invalid
mlb_invalid_low = low_by mlb_invalid (λ b h. rw (mlb_high b h))

one_low : (b k : ℕ) → k < 0x80 → eqb b k ≡ true → b < 0x80
one_low b k l e = omega (arith, eqb-true b k e)

among_low : (a e b : ℕ) → e < 0x80 → among a e b ≡ true → b < 0x80
among_low a e b l h = omega (arith, leb-true b e (both_right (leb a b) (leb b e) h))

pub wschar_low : Low wschar
unfolding wschar
wschar_low b e = or_inv (eqb b 0x20) _ e (one_low b 0x20 (omega arith)) (one_low b 0x09 (omega arith))

pub hexdig_low : Low hexdig
unfolding hexdig
hexdig_low b e =
    or_inv (among 0x30 0x39 b) _ e (among_low 0x30 0x39 b (omega arith))
    (λ f. or_inv (among 0x41 0x46 b) _ f (among_low 0x41 0x46 b (omega arith)) (among_low 0x61 0x66 b (omega arith)))

pub unquoted_low : Low unquoted_char
unfolding unquoted_char
unquoted_low b e =
    or_inv (among 0x41 0x5A b || among 0x61 0x7A b) _ e
    (λ f. or_inv (among 0x41 0x5A b) _ f (among_low 0x41 0x5A b (omega arith)) (among_low 0x61 0x7A b (omega arith)))
    (λ f.
    or_inv (among 0x30 0x39 b) _ f (among_low 0x30 0x39 b (omega arith))
    (λ g. or_inv (eqb b 0x2D) _ g (one_low b 0x2D (omega arith)) (one_low b 0x5F (omega arith))))

pub skips_low : Low skips
unfolding skips
skips_low b e =
    or_inv (wschar b) _ e (wschar_low b)
    (λ f. or_inv (eqb b 0x0A) _ f (one_low b 0x0A (omega arith)) (one_low b 0x0D (omega arith)))

-- ---- fronts that are UTF-8

pub nil_utf8 : Utf8 []
nil_utf8 = ([], tt, refl)

-- one ASCII byte
pub front_one : (s : List ℕ) → 0 < length s → get_or s 0 0 < 0x80 → Utf8 (take 1 s)
front_one [] l h = absurd (omega arith)
front_one (b ∷ s) l h = one_utf8 b h

-- n bytes, and m after them
pub front_add : (n m : ℕ) (s : List ℕ) → Utf8 (take n s) → Utf8 (take m (drop n s)) → Utf8 (take (n + m) s)
front_add n m s u v = rw take-add (utf8_append (take n s) (take m (drop n s)) u v)

-- bytes of a class within ASCII
pub front_low : (p : ℕ → Bool) → Low p → (n : ℕ) (s : List ℕ) → n ≤ run p s → Utf8 (take n s)
unfolding run
front_low p low zero s h = nil_utf8
front_low p low (suc n) [] h = nil_utf8
front_low p low (suc n) (b ∷ s) h = go (p b) refl h (front_low p low n s)
  where
    go : (t : Bool) → p b ≡ t → suc n ≤ cond t (suc (run p s)) 0 → (n ≤ run p s → Utf8 (take n s)) → Utf8 (b ∷ take n s)
    go true e l ih = utf8_append (b ∷ []) (take n s) (one_utf8 b (low b e)) (ih (omega arith))
    go false e l ih = absurd (omega arith)

-- place n is the end, or a byte that is P stands there
abbrev pub EndsAt : (ℕ → Type 0) → List ℕ → ℕ → Type 0
EndsAt P s n = (n ≡ length s) ⊎ ((n < length s) × P (get_or s n 0))

-- a run goes to the end, or to a byte that is not of the class
pub run_ends : (p : ℕ → Bool) (s : List ℕ) → EndsAt (λ b. p b ≡ false) s (run p s)
unfolding run
run_ends p [] = inl refl
run_ends p (b ∷ s) = go (p b) refl (run_ends p s)
  where
    go : (t : Bool) → p b ≡ t → EndsAt (λ b. p b ≡ false) s (run p s) → EndsAt (λ b. p b ≡ false) (b ∷ s) (cond t (suc (run p s)) 0)
    go true e (inl i) = inl (ap suc i)
    go true e (inr i) = inr (omega arith, i.1)
    go false e i = inr (omega arith, e)

-- bytes of a class that holds all beyond ASCII
pub front_high : (p : ℕ → Bool) → High p → (s : List ℕ) → Utf8 s → Utf8 (take (run p s) s)
front_high p high s u = (cut_at s (run p s) u (⊎_elim inl stop (run_ends p s))).0
  where
    stop : (run p s < length s) × (p (get_or s (run p s) 0) ≡ false) → EndsAt (λ b. (b < 0x80) ⊎ (0xC0 ≤ b)) s (run p s)
    stop (l, e) =
        let b = get_or s (run p s) 0 in
        elim (dec_lt b 0x80) [ yes h ↦ inr (l, inl h) | no h ↦ not_both (high b (omega arith)) e ]

-- what stands after UTF-8 in UTF-8 is UTF-8
pub utf8_behind : (p q : List ℕ) → Utf8 p → Utf8 (p ++ q) → Utf8 q
utf8_behind p q u w =
    let a = valid_append p u q in
    let b = (utf8_iff (p ++ q)).1 w in
    (utf8_iff q).0 (omega (arith, length-append p q))

-- and so it is at a place
pub behind_at : (n : ℕ) (s : List ℕ) → Utf8 s → Utf8 (take n s) → Utf8 (drop n s)
behind_at n s u w = utf8_behind (take n s) (drop n s) w (rw (take-append-drop n s) u)

-- between two places
pub between : (a z : ℕ) (t : List ℕ) → a ≤ z → Utf8 (take a t) → Utf8 (take z t) → Utf8 (take (z - a) (drop a t))
between a z t h u w =
    let e : z ≡ a + (z - a) = omega arith in
    let parts : take z t ≡ take a t ++ take (z - a) (drop a t) = ap (λ (n : ℕ). take n t) e ∙ take-add a (z - a) t in
    utf8_behind (take a t) (take (z - a) (drop a t)) u (subst Utf8 parts w)
