-- On UTF-8 a column is 1 plus the scalar values, a byte order mark apart, whose encodings begin on the line before the
-- offset: of a character's bytes only the first is not 80 to BF.
-- Assumes nothing.
use Prim.Native.Nat.{ℕ, zero, suc, ◌+◌, ◌-◌, ◌≤◌, ◌<◌}
use mathlib.Core.Path.{◌≡◌, refl, sym, ap, ◌∙◌}
use mathlib.Core.Bool.{Bool, true, false, cond}
use mathlib.Core.Logic.{◌⊎◌, inl, inr}
use mathlib.Core.List.{List, [], ◌∷◌, ◌++◌}
use native.Mathlib.Decide.{dec_lt}
use native.Mathlib.Omega.{arith}
use borrow.Author.Tests.{ne_eqb, eqb-true, eqb-false, le-leb, lt-leb, lt-ltb}
use lib.Dec.{eqb}
use lib.ListN.{length, take, drop}
use lib.Seq.{take-nil}
use Rattle.text_classes.specs.Classes.{continuation}
use Rattle.text_classes.proofs.Conds.{cond_case}
use Rattle.text_scalars.specs.Utf8.{Scalar, encode_scalar, encodes, All, Utf8}
use Rattle.text_scalars.specs.Utf8Read.{guess, scalars}
use Rattle.text_scalars.proofs.EncodeLaws.{Tail, Parts, parts, guess_encode}
use Rattle.text_scalars.proofs.ReadLaws.{scalars_of}
use Rattle.lexer.specs.Tokens.{has_bom, start_of}
use Rattle.lexer.proofs.LineLaws.{mark_bytes}
use Rattle.lexer_place.specs.Positions.{column_behind, column_of}
use Rattle.lexer_place.specs.Positions.{begun, unmarked, on_line}
use Rattle.lexer_place.proofs.PositionLaws.{turned}

-- ---- the bytes of one character

inside_tail : (b : ℕ) → Tail b → continuation b ≡ true
unfolding continuation
inside_tail b h = simp (le-leb 0x80 b h.0, le-leb b 0xBF (omega (arith, h.1)))

inside_not : (b : ℕ) → (b < 0x80) ⊎ (0xC0 ≤ b) → continuation b ≡ false
unfolding continuation
inside_not b (inl h) = simp (lt-leb 0x80 b h)
inside_not b (inr h) = simp (le-leb 0x80 b (omega arith), lt-leb b 0xBF (omega arith))

tail_turn : (b c : ℕ) → Tail b → turned b c ≡ c
tail_turn b c h = simp (ne_eqb b 10 (λ e. omega (arith, h.0)), inside_tail b h)

-- what one scalar value does to the count on its line
abbrev counted : ℕ → ℕ → ℕ
counted c k = cond (eqb c 10) 0 (k + 1)

first_turn : (c k : ℕ) → turned (parts c).first (1 + k) ≡ 1 + counted c k
first_turn c k = go (parts c)
  where
    go : (p : Parts c) → turned p.first (1 + k) ≡ 1 + counted c k
    go p =
        elim (dec_lt c 0x80) [
          | yes l ↦ rw (p.same l, inside_not c (inl l)) (low (eqb c 10))
          | no l ↦
              let m : 0xC0 ≤ p.first = p.more (omega arith) in
              let no_lf = ne_eqb p.first 10 (λ e. omega arith) in
              simp (ne_eqb c 10 (λ e. omega arith), no_lf, inside_not p.first (inr m)) (omega arith)
        ]
      where
        low : (t : Bool) → cond t 1 (1 + k + 1) ≡ 1 + cond t 0 (k + 1)
        low true = refl
        low false = omega arith

-- a character's bytes after the first leave the column as it is
tails_pass : (ts s : List ℕ) (n m c : ℕ) → All Tail ts → m ≡ n - length ts
    → column_behind c (take n (ts ++ s)) ≡ column_behind c (take m s)
unfolding column_behind
tails_pass [] s n m c h e =
    let same : m ≡ n = omega arith in
    rw same
tails_pass (t ∷ ts) s zero m c h e =
    let same : m ≡ 0 = omega arith in
    rw same
tails_pass (t ∷ ts) s (suc n) m c h e =
    rw (tail_turn t c h.0) (tails_pass ts s n m c h.1 (omega arith))

-- a character, of which at least one byte stands before the offset, is counted once
abbrev CharPasses : ℕ → ℕ → ℕ → List ℕ → Type 0
CharPasses c n k s =
    column_behind (1 + k) (take (suc n) (encode_scalar c ++ s))
    ≡ column_behind (1 + counted c k) (take (suc n - length (encode_scalar c)) s)

char_passes : (c n k : ℕ) (s : List ℕ) → CharPasses c n k s
unfolding column_behind
char_passes c n k s = go (parts c) (first_turn c k)
  where
    go : (p : Parts c) → turned p.first (1 + k) ≡ 1 + counted c k → CharPasses c n k s
    go p e =
        let left = suc n - length (p.first ∷ p.tails) in
        rw (p.whole, e) (tails_pass p.tails s n left (1 + counted c k) p.each (omega arith))

-- ---- joined encodings

begun_more : (c n : ℕ) (cs : List ℕ) → begun (suc n) (c ∷ cs) ≡ c ∷ begun (suc n - length (encode_scalar c)) cs
unfolding begun
begun_more c n cs = rw (lt-ltb 0 (suc n) (omega arith))

begun_none : (cs : List ℕ) → begun 0 cs ≡ []
unfolding begun
begun_none [] = refl
begun_none (c ∷ cs) = refl

columns : (cs : List ℕ) (n k : ℕ) → column_behind (1 + k) (take n (encodes cs)) ≡ 1 + on_line k (begun n cs)
unfolding column_behind on_line begun
columns [] n k = rw (take-nil n)
columns (c ∷ cs) zero k = refl
columns (c ∷ cs) (suc n) k =
    rw (begun_more c n cs)
    (char_passes c n k (encodes cs) ∙ columns cs (suc n - length (encode_scalar c)) (counted c k))

-- ---- a byte order mark is the encoding of U+FEFF

abbrev Means : List ℕ → ℕ → Type 0
Means cs n = column_of (encodes cs) n ≡ 1 + on_line 0 (unmarked (begun n cs))

drop_take_mark : (a b c : ℕ) (s : List ℕ) (n : ℕ) → drop 3 (take n (a ∷ b ∷ c ∷ s)) ≡ take (n - 3) s
drop_take_mark a b c s zero = refl
drop_take_mark a b c s (suc zero) = refl
drop_take_mark a b c s (suc (suc zero)) = refl
drop_take_mark a b c s (suc (suc (suc n))) =
    let same : n ≡ suc (suc (suc n)) - 3 = omega arith in
    ap (λ (k : ℕ). take k s) same

after_mark : (cs : List ℕ) (n : ℕ) → column_of (encodes (0xFEFF ∷ cs)) n ≡ 1 + on_line 0 (begun (n - 3) cs)
unfolding start_of encode_scalar
after_mark cs n = ap (column_behind 1) (drop_take_mark 0xEF 0xBB 0xBF (encodes cs) n) ∙ columns cs (n - 3) 0

marked : (cs : List ℕ) (n : ℕ) → Means (0xFEFF ∷ cs) n
unfolding encode_scalar
marked cs zero = after_mark cs zero ∙ rw (begun_none cs, begun_none (0xFEFF ∷ cs)) refl
marked cs (suc n) = after_mark cs (suc n) ∙ rw (begun_more 0xFEFF n cs) (size n)
  where
    size : (n : ℕ) → 1 + on_line 0 (begun (suc n - 3) cs) ≡ 1 + on_line 0 (begun (suc n - length (encode_scalar 0xFEFF)) cs)
    size n = refl

mark_value : (s : List ℕ) → has_bom s ≡ true → guess s ≡ 0xFEFF
unfolding guess
mark_value s t =
    let m = mark_bytes s t in
    rw (m.0, m.1, m.2)

-- the encoding of another scalar value does not begin like a byte order mark
unmarked_start : (c : ℕ) (s : List ℕ) → Scalar c → (c ≡ 0xFEFF → ⊥) → start_of (encode_scalar c ++ s) ≡ 0
unfolding start_of
unmarked_start c s h other =
    cond_case (λ (k : ℕ). k ≡ 0) (has_bom (encode_scalar c ++ s))
    (λ t. absurd (other (sym (guess_encode c s h) ∙ mark_value (encode_scalar c ++ s) t)))
    (λ t. refl)

unmarked_begun : (c n : ℕ) (cs : List ℕ) → (c ≡ 0xFEFF → ⊥) → unmarked (begun n (c ∷ cs)) ≡ begun n (c ∷ cs)
unmarked_begun c zero cs other = rw (begun_none (c ∷ cs)) refl
unmarked_begun c (suc n) cs other = rw (begun_more c n cs, ne_eqb c 0xFEFF other) refl

means : (cs : List ℕ) (n : ℕ) → All Scalar cs → Means cs n
unfolding start_of column_behind on_line begun
means [] n h = rw (take-nil n)
means (c ∷ cs) n h = go (eqb c 0xFEFF) refl
  where
    go : (t : Bool) → eqb c 0xFEFF ≡ t → Means (c ∷ cs) n
    go true t = rw (eqb-true c 0xFEFF t) (marked cs n)
    go false t =
        let other = eqb-false c 0xFEFF t in
        ap (λ (k : ℕ). column_behind 1 (drop k (take n (encodes (c ∷ cs))))) (unmarked_start c (encodes cs) h.0 other)
        ∙ columns (c ∷ cs) n 0 ∙ ap (λ (l : List ℕ). 1 + on_line 0 l) (sym (unmarked_begun c n cs other))

-- the column of an offset in a document that is UTF-8
pub column_means : (doc : List ℕ) → Utf8 doc → (offset : ℕ)
    → column_of doc offset ≡ 1 + on_line 0 (unmarked (begun offset (scalars doc)))
column_means doc (cs, h, e) offset = rw (← e, scalars_of cs h) (means cs offset h)
