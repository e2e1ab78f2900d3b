-- How the lexer's extents pass over the code points of a string. For the multi-line kinds the look-ahead for three marks
-- becomes a count of the marks that stand right before the place.
use Prim.Native.Nat.{ℕ, suc, ◌+◌, ◌≤◌, ◌<◌}
use mathlib.Core.Path.{◌≡◌, refl, sym, ◌∙◌, ap}
use mathlib.Core.Logic.{◌↔◌}
use mathlib.Core.Bool.{Bool, true, false, cond, ◌&&◌}
use mathlib.Core.List.{List, [], ◌∷◌, ◌++◌, append_assoc}
use native.Mathlib.Omega.{arith}
use lib.ListN.{length, drop, length-append}
use lib.Dec.{eqb}
use borrow.Author.Tests.{ne_eqb, eq-eqb}
use Rattle.text_scalars.specs.Utf8.{encodes, All}
use Rattle.text_scalars.proofs.EncodeLaws.{parts, encode_1}
use Rattle.text_scalars.proofs.ReadLaws.{encodes_append}
use Rattle.text_classes.specs.Runs.{stands, triple}
use Rattle.lexer_scans.specs.Extents.{hides}
use Rattle.lexer_scans.specs.Extents.{line_tail, up_to_two, ml_tail}
use Rattle.theorems_grammar.specs.Grammar.{x20, x09, Newline, x0A, x0D-0A, BasicUnescaped, LiteralChar}
use Rattle.theorems_grammar.specs.Strings.{Apart}
use Rattle.theorems_grammar.proofs.Encoded.{chars_bytes}
use Rattle.theorems_grammar.proofs.ClassLaws.{non_ascii_high}
use Rattle.theorems_grammar.proofs.Escapes.{Harmless}

-- an extent f that is one more for each byte of a class is as much more as a run of them is long
pub pass_all : (f : List ℕ → ℕ) (Ok : ℕ → Type 0) → ((b : ℕ) → Ok b → (s : List ℕ) → f (b ∷ s) ≡ suc (f s))
    → (t : List ℕ) → All Ok t → (s : List ℕ) → f (t ++ s) ≡ length t + f s
pass_all f Ok pass [] h s = omega arith
pass_all f Ok pass (b ∷ t) each s = omega (arith, pass b each.0 (t ++ s), pass_all f Ok pass t each.1 s)

-- ---- three marks

pub triple_no : (q b : ℕ) (s : List ℕ) → (b ≡ q → ⊥) → triple q (q ∷ (b ∷ s)) ≡ false
unfolding triple
triple_no q b s h = rw (eq-eqb q q refl, ne_eqb b q h)

pub triple_two : (q : ℕ) (s : List ℕ) → Apart q s → triple q (q ∷ (q ∷ s)) ≡ false
unfolding triple
triple_two q s h = rw (eq-eqb q q refl, h)

pub triple_yes : (q : ℕ) (s : List ℕ) → triple q (q ∷ (q ∷ (q ∷ s))) ≡ true
unfolding triple
triple_yes q s = rw (eq-eqb q q refl)

-- ---- quote marks

-- a visible ASCII byte that does not hide the byte after it
pub record Mark (q : ℕ) : Type 0 where
  pub low : q < 0x80
  pub visible : 0x20 < q
  pub hides_none : hides q false q ≡ false

pub quotation : Mark 0x22
quotation = record { low = omega arith; visible = omega arith; hides_none = refl }

pub apostrophes : Mark 0x27
apostrophes = record { low = omega arith; visible = omega arith; hides_none = refl }

-- ---- bytes that neither close nor hide

-- in a string of several lines with the mark q
abbrev pub InMl : ℕ → ℕ → Type 0
InMl q b = (b ≡ q → ⊥) × (hides q false b ≡ false)

-- in a string on one line
abbrev pub InLine : ℕ → ℕ → Type 0
InLine q b = InMl q b × (b ≡ 10 → ⊥)

never_hides : (x y : Bool) → y ≡ false → (x && y) ≡ false
never_hides true y e = e
never_hides false y e = refl

-- only a backslash hides the byte after it
pub in_ml : (q b : ℕ) → (b ≡ q → ⊥) → (b ≡ 92 → ⊥) → InMl q b
in_ml q b not-mark not-slash = (not-mark, never_hides (eqb q 34) (eqb b 92) (ne_eqb b 92 not-slash))

pub in_high : {q : ℕ} → Mark q → (b : ℕ) → 0x80 ≤ b → InMl q b
in_high {q} m b h = in_ml q b (λ e. omega arith) (λ e. omega arith)

pub line_high : {q : ℕ} → Mark q → (b : ℕ) → 0x80 ≤ b → InLine q b
line_high m b h = (in_high m b h, λ e. omega arith)

pub newline_in : {q : ℕ} → Mark q → {n : List ℕ} → Newline n → All (InMl q) n
newline_in {q} m x0A = (in_ml q 0x0A (λ e. omega arith) (λ e. omega arith), tt)
newline_in {q} m x0D-0A =
    (in_ml q 0x0D (λ e. omega arith) (λ e. omega arith), (in_ml q 0x0A (λ e. omega arith) (λ e. omega arith), tt))

-- the grammar's classes; in a string between apostrophes no byte hides another
pub literal_in : {c : ℕ} → LiteralChar c → InLine 39 c
literal_in LiteralChar.x09 = (((λ e. omega arith), refl), λ e. omega arith)
literal_in {c} (LiteralChar.x20-26 h k) = (((λ e. omega arith), refl), λ e. omega arith)
literal_in {c} (LiteralChar.x28-7E h k) = (((λ e. omega arith), refl), λ e. omega arith)
literal_in {c} (LiteralChar.non_ascii n) = line_high apostrophes c (non_ascii_high n)

in_basic : (c : ℕ) → (c ≡ 34 → ⊥) → (c ≡ 92 → ⊥) → (c ≡ 10 → ⊥) → InLine 34 c
in_basic c not-mark not-slash not-lf = (in_ml 34 c not-mark not-slash, not-lf)

pub basic_in : {c : ℕ} → BasicUnescaped c → InLine 34 c
basic_in (BasicUnescaped.wschar x20) = in_basic 0x20 (λ e. omega arith) (λ e. omega arith) (λ e. omega arith)
basic_in (BasicUnescaped.wschar x09) = in_basic 0x09 (λ e. omega arith) (λ e. omega arith) (λ e. omega arith)
basic_in BasicUnescaped.x21 = in_basic 0x21 (λ e. omega arith) (λ e. omega arith) (λ e. omega arith)
basic_in {c} (BasicUnescaped.x23-5B h k) = in_basic c (λ e. omega arith) (λ e. omega arith) (λ e. omega arith)
basic_in {c} (BasicUnescaped.x5D-7E h k) = in_basic c (λ e. omega arith) (λ e. omega arith) (λ e. omega arith)
basic_in {c} (BasicUnescaped.non_ascii n) = line_high quotation c (non_ascii_high n)

-- and the digits of an escape
pub digit_in : (c : ℕ) → Harmless c → InLine 34 c
digit_in c h = in_basic c (λ e. omega (arith, h.0)) h.2 (λ e. omega (arith, h.0))

-- ---- on one line

pub line_pass : (q b : ℕ) → InLine q b → (s : List ℕ) → line_tail q false (b ∷ s) ≡ suc (line_tail q false s)
unfolding line_tail
line_pass q b h s = rw (ne_eqb b q h.0.0, ne_eqb b 10 h.1, h.0.1)

pub line_hidden : (b : ℕ) (s : List ℕ) → (b ≡ 10 → ⊥) → line_tail 34 false (92 ∷ (b ∷ s)) ≡ suc (suc (line_tail 34 false s))
unfolding line_tail
line_hidden b s h = rw (ne_eqb b 10 h)

pub line_close : (q : ℕ) (s : List ℕ) → line_tail q false (q ∷ s) ≡ 1
unfolding line_tail
line_close q s = rw (eq-eqb q q refl)

-- ---- on several lines: how many marks stand right before the place, at most two

pub data Seen : Type 0 where
  seen0 seen1 seen2 : Seen

abbrev pub num : Seen → ℕ
num seen0 = 0
num seen1 = 1
num seen2 = 2

abbrev pub marks : ℕ → Seen → List ℕ → List ℕ
marks q seen0 s = s
marks q seen1 s = q ∷ s
marks q seen2 s = q ∷ (q ∷ s)

two_le : (x y : Bool) → cond x (cond y 2 1) 0 ≤ 2
two_le true true = omega arith
two_le true false = omega arith
two_le false y = omega arith

up_le : (q : ℕ) (s : List ℕ) → up_to_two q s ≤ 2
unfolding up_to_two
up_le q s = two_le (stands q s) (stands q (drop 1 s))

up_none : (q : ℕ) (s : List ℕ) → Apart q s → up_to_two q s ≡ 0
unfolding up_to_two
up_none q s h = rw h

up_one : (q : ℕ) (s : List ℕ) → Apart q s → up_to_two q (q ∷ s) ≡ 1
unfolding up_to_two
up_one q s h = rw (eq-eqb q q refl, h)

up_two : (q : ℕ) (s : List ℕ) → up_to_two q (q ∷ (q ∷ s)) ≡ 2
unfolding up_to_two
up_two q s = rw (eq-eqb q q refl)

pub ml_hidden : (b : ℕ) (s : List ℕ) → ml_tail 34 false (92 ∷ (b ∷ s)) ≡ suc (suc (ml_tail 34 false s))
unfolding ml_tail triple
ml_hidden b s = refl

-- the code points t, after k marks, are passed
abbrev pub Passed : ℕ → Seen → List ℕ → Type 0
Passed q k t = (s : List ℕ) → ml_tail q false (marks q k (encodes t ++ s)) ≡ num k + (length (encodes t) + ml_tail q false s)

-- after k marks the token goes on through t and ends with the three marks that follow; `rest` follows them
abbrev pub Through : ℕ → List ℕ → Seen → List ℕ → Type 0
Through q rest k t = ml_tail q false (marks q k (encodes t ++ (q ∷ (q ∷ (q ∷ rest))))) ≡ num k + (length (encodes t) + 3)

module _ {q : ℕ} (m : Mark q) where
  ml_step : (b : ℕ) (s : List ℕ) → triple q (b ∷ s) ≡ false → hides q false b ≡ false
      → ml_tail q false (b ∷ s) ≡ suc (ml_tail q false s)
  unfolding ml_tail
  ml_step b s not_three hides-not = rw (not_three, hides-not)

  pub ml_pass : (b : ℕ) → InMl q b → (s : List ℕ) → ml_tail q false (b ∷ s) ≡ suc (ml_tail q false s)
  unfolding triple
  ml_pass b h s = ml_step b s (rw (ne_eqb b q h.0)) h.1

  -- fewer than three marks are passed
  pub marks_pass : (k : Seen) (b : ℕ) (s : List ℕ) → (b ≡ q → ⊥)
      → ml_tail q false (marks q k (b ∷ s)) ≡ num k + ml_tail q false (b ∷ s)
  marks_pass seen0 b s h = omega arith
  marks_pass seen1 b s h = omega (arith, ml_step q (b ∷ s) (triple_no q b s h) m.hides_none)
  marks_pass seen2 b s h =
      let first = ml_step q (q ∷ (b ∷ s)) (triple_two q (b ∷ s) (ne_eqb b q h)) m.hides_none in
      omega (arith, ml_step q (b ∷ s) (triple_no q b s h) m.hides_none)

  ml_third : (s : List ℕ) → ml_tail q false (q ∷ (q ∷ (q ∷ s))) ≡ 3 + up_to_two q s
  unfolding ml_tail triple
  ml_third s = rw (eq-eqb q q refl)

  bytes_pass : (k : Seen) (x : List ℕ) → 0 < length x → All (InMl q) x → (s : List ℕ)
      → ml_tail q false (marks q k (x ++ s)) ≡ num k + (length x + ml_tail q false s)
  bytes_pass k [] l h s = absurd (omega arith)
  bytes_pass k (b ∷ bytes) some inside s =
      let rest = pass_all (ml_tail q false) (InMl q) ml_pass bytes inside.1 s in
      omega (arith, marks_pass k b (bytes ++ s) inside.0.0, ml_pass b inside.0 (bytes ++ s))

  -- one or more code points that neither close nor hide
  pub all_passed : (k : Seen) (t : List ℕ) → 0 < length t → All (InMl q) t → Passed q k t
  all_passed k [] l h s = absurd (omega arith)
  all_passed k (c ∷ t) some inside s =
      let char = parts c in
      let bytes : encodes (c ∷ t) ≡ char.first ∷ (char.tails ++ encodes t) =
      ap (λ (x : List ℕ). x ++ encodes t) char.whole in
      bytes_pass k (encodes (c ∷ t)) (omega (arith, ap length bytes)) (chars_bytes (in_high m) (c ∷ t) inside) s

  -- ---- the mark itself, and the three at the end
  module _ (rest : List ℕ) where
    mark_bytes : (cs : List ℕ) → encodes (q ∷ cs) ≡ q ∷ encodes cs
    mark_bytes cs = rw (encode_1 q m.low)

    pub through_one : (cs : List ℕ) → Through q rest seen0 (q ∷ cs) ↔ Through q rest seen1 cs
    through_one cs =
        ((λ through. let bytes = rw (mark_bytes cs) at through in omega arith), λ through. rw (mark_bytes cs) (omega arith))

    pub through_two : (cs : List ℕ) → Through q rest seen1 (q ∷ cs) ↔ Through q rest seen2 cs
    through_two cs =
        ((λ through. let bytes = rw (mark_bytes cs) at through in omega arith), λ through. rw (mark_bytes cs) (omega arith))

    -- no third mark stands within the token
    pub through_three : (cs : List ℕ) → Through q rest seen2 (q ∷ cs) → ⊥
    through_three cs through =
        let after : List ℕ = encodes cs ++ (q ∷ (q ∷ (q ∷ rest))) in
        let bytes = rw (mark_bytes cs) at through in
        omega (arith, ml_third after, up_le q after)

    pub through_end : Apart q rest → (k : Seen) → Through q rest k []
    through_end h seen0 = omega (arith, ml_third rest, up_none q rest h)
    through_end h seen1 = omega (arith, ml_third (q ∷ rest), up_one q rest h)
    through_end h seen2 = omega (arith, ml_third (q ∷ (q ∷ rest)), up_two q rest)

module _ (q : ℕ) (rest : List ℕ) (k : Seen) (t r : List ℕ) (passed : Passed q k t) where
  abbrev closing : List ℕ
  closing = q ∷ (q ∷ (q ∷ rest))

  parts_joined : encodes (t ++ r) ++ closing ≡ encodes t ++ (encodes r ++ closing)
  parts_joined = ap (λ x. x ++ closing) (encodes_append t r) ∙ append_assoc (encodes t) (encodes r) closing

  parts_long : length (encodes (t ++ r)) ≡ length (encodes t) + length (encodes r)
  parts_long = ap length (encodes_append t r) ∙ length-append (encodes t) (encodes r)

  pub through_after : Through q rest seen0 r → Through q rest k (t ++ r)
  through_after through =
      ap (λ x. ml_tail q false (marks q k x)) parts_joined ∙ omega (arith, passed (encodes r ++ closing), parts_long)

  pub through_rest : Through q rest k (t ++ r) → Through q rest seen0 r
  through_rest through =
      let joined : ml_tail q false (marks q k (encodes t ++ (encodes r ++ closing))) ≡ num k + (length (encodes (t ++ r)) + 3) =
      sym (ap (λ x. ml_tail q false (marks q k x)) parts_joined) ∙ through in
      omega (arith, passed (encodes r ++ closing), parts_long)
