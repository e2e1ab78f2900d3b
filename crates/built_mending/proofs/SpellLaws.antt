-- The spelling of bytes: how long it is, and what the loops that count and write it keep.
-- Assumes nothing.
use Prim.Native.Nat.{ℕ, suc, ◌+◌, ◌-◌, ◌*◌, ◌≤◌, ◌<◌}
use mathlib.Core.Path.{◌≡◌, refl, sym, ◌∙◌, ap}
use mathlib.Core.Bool.{true, false}
use mathlib.Core.List.{List, [], ◌∷◌, ◌++◌, append_assoc}
use native.Mathlib.Numerals.{add-one}
use native.Mathlib.Omega.{arith}
use native.Mathlib.Decide.{dec_lt}
use borrow.Author.Tests.{ne_eqb, le-ltb}
use lib.ListN.{length, drop, get_or, length-append, drop_of_length-le}
use lib.Seq.{sets, drop-cons}
use Rattle.text_classes.proofs.Conds.{cond_case}
use Rattle.text_scalars.specs.Utf8.{All, encode_scalar}
use Rattle.text_scalars.proofs.EncodeLaws.{encode_1, encode_length, Tail, parts}
use Rattle.decoder_rules.proofs.StoreLaws.{Stored, sets_append}
use Rattle.built_writing.specs.Writing.{spelling}
use Rattle.std.specs.Prelude.{Some, None}
use Rattle.built_mending.specs.Mending.{slashed, coded, respell, respelt}

-- ---- one byte

module _ (b : ℕ) where
  pub slashed_is : slashed b ≡ true → respell b ≡ spelling (Some b) b
  unfolding respell
  slashed_is e = rw e

  pub coded_is : slashed b ≡ false → coded b ≡ true → respell b ≡ spelling None b
  unfolding respell
  coded_is e f = rw (e, f)

  pub own_is : slashed b ≡ false → coded b ≡ false → respell b ≡ b ∷ []
  unfolding respell
  own_is e f = rw (e, f)

  -- a byte beyond ASCII is written as it is
  pub high_is : 0x80 ≤ b → respell b ≡ b ∷ []
  unfolding respell
  high_is h =
      rw (ne_eqb b 0x22 (λ e. omega arith), ne_eqb b 0x5C (λ e. omega arith), le-ltb b 0x20 (omega arith), ne_eqb b 0x7F (λ e. omega arith))

  respell_six : length (respell b) ≤ 6
  unfolding respell
  respell_six =
      let P : List ℕ → Type 0 = λ w. length w ≤ 6 in
      cond_case P (slashed b) (λ e. omega arith)
      (λ e. cond_case P (coded b) (λ f. omega arith) (λ f. omega arith))

-- ---- bytes in a row

pub respelt_none : respelt [] ≡ []
unfolding respelt
respelt_none = refl

pub respelt_append : (s t : List ℕ) → respelt (s ++ t) ≡ respelt s ++ respelt t
unfolding respelt
respelt_append [] t = refl
respelt_append (b ∷ s) t =
    ap (λ (l : List ℕ). respell b ++ l) (respelt_append s t) ∙ sym (append_assoc (respell b) (respelt s) (respelt t))

pub respelt_six : (s : List ℕ) → length (respelt s) ≤ 6 * length s
unfolding respelt
respelt_six [] = omega arith
respelt_six (b ∷ s) = omega (arith, length-append (respell b) (respelt s), respell_six b, respelt_six s)

pub respelt_high : (s : List ℕ) → All (λ b. 0x80 ≤ b) s → respelt s ≡ s
unfolding respelt
respelt_high [] h = refl
respelt_high (b ∷ s) h = rw (high_is b h.0) (ap (b ∷◌) (respelt_high s h.1))

tails_high : (s : List ℕ) → All Tail s → All (λ b. 0x80 ≤ b) s
tails_high [] h = tt
tails_high (b ∷ s) h = (omega (arith, h.0), tails_high s h.1)

-- no character is written with more than six bytes
pub char_six : (c : ℕ) → length (respelt (encode_scalar c)) ≤ 6
char_six c = elim (dec_lt c 0x80) [
  | yes h ↦ omega (arith, respelt_six (encode_scalar c), ap length (encode_1 c h))
  | no h ↦
      let p = parts c in
      let first : 0x80 ≤ p.first = omega (arith, p.more (omega arith)) in
      let same : respelt (encode_scalar c) ≡ encode_scalar c =
      rw p.whole (respelt_high (p.first ∷ p.tails) (first, tails_high p.tails p.each)) in
      omega (arith, ap length same, encode_length c)
]

-- ---- what is left of some bytes at place i

pub spelt_step : (s : List ℕ) (i : ℕ) → i < length s
    → respelt (drop i s) ≡ respell (get_or s i 0) ++ respelt (drop (i + 1) s)
unfolding respelt
spelt_step s i h = rw (drop-cons s i 0 h, add-one)

left_none : (s : List ℕ) (i : ℕ) → length s ≤ i → respelt (drop i s) ≡ []
unfolding respelt
left_none s i h = rw (drop_of_length-le s h)

-- ---- the loop that counts: w bytes are counted up to place i

pub record Widening (s : List ℕ) (i w : ℕ) : Type 0 where
  pub sum : w + length (respelt (drop i s)) ≡ length (respelt s)

module _ (s : List ℕ) where
  pub widening_turn : {i w k : ℕ} → i < length s → k ≡ length (respell (get_or s i 0)) → Widening s i w → Widening s (i + 1) (w + k)
  widening_turn {i} {w} {k} h e v =
      let split = ap length (spelt_step s i h) ∙ length-append (respell (get_or s i 0)) (respelt (drop (i + 1) s)) in
      record { sum = omega (arith, v.sum, split) }

  pub widening_end : {i w : ℕ} → length s ≤ i → Widening s i w → w ≡ length (respelt s)
  widening_end {i} h v = omega (arith, v.sum, ap length (left_none s i h))

-- ---- the loop that writes, from place o₀ on of memory that held `old`: up to place i of s it has come to place o

pub record Putting (s old : List ℕ) (o₀ : ℕ) (out : List ℕ) (i o : ℕ) : Type 0 where
  pub long : length out ≡ length old
  pub sum : o + length (respelt (drop i s)) ≡ o₀ + length (respelt s)
  pub holds : sets out o (respelt (drop i s)) ≡ sets old o₀ (respelt s)

module _ (s old : List ℕ) (o₀ : ℕ) where
  pub putting_start : Putting s old o₀ old 0 o₀
  putting_start = record { long = refl; sum = refl; holds = refl }

  module _ {out : List ℕ} {i o : ℕ} (h : i < length s) (p : Putting s old o₀ out i o) where
    split : length (respelt (drop i s)) ≡ length (respell (get_or s i 0)) + length (respelt (drop (i + 1) s))
    split = ap length (spelt_step s i h) ∙ length-append (respell (get_or s i 0)) (respelt (drop (i + 1) s))

    -- there is room for the byte
    pub putting_room : o₀ + length (respelt s) ≤ length old → o + length (respell (get_or s i 0)) ≤ length out
    putting_room room = omega (arith, split, p.sum, p.long)

    pub putting_turn : {out₁ : List ℕ} {o₁ : ℕ} → length out₁ ≡ length out → Stored out o (respell (get_or s i 0)) o₁ out₁
        → Putting s old o₀ out₁ (i + 1) o₁
    putting_turn same stored =
        record {
          long = same ∙ p.long;
          sum = omega (arith, split, p.sum, stored.place);
          holds =
              rw (stored.place, stored.holds) (sym (sets_append out o (respell (get_or s i 0)) (respelt (drop (i + 1) s))))
              ∙ ap (sets out o) (sym (spelt_step s i h)) ∙ p.holds;
        }

  pub putting_end : {out : List ℕ} {i o : ℕ} → length s ≤ i → Putting s old o₀ out i o → Stored old o₀ (respelt s) o out
  putting_end {out} {i} {o} h p =
      let none = left_none s i h in
      record { place = omega (arith, p.sum, ap length none); holds = sym (ap (sets out o) none) ∙ p.holds }
