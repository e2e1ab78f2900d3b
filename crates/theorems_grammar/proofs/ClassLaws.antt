-- The byte classes of the decoders are the grammar's classes of code points.
use Prim.Native.Nat.{ℕ, ◌-◌, ◌≤◌}
use mathlib.Core.Path.{◌≡◌, refl, sym, subst}
use mathlib.Core.Logic.{◌↔◌, inl, inr}
use mathlib.Core.Bool.{true, false, ◌||◌, false≢true}
use native.Mathlib.Omega.{arith}
use lib.Dec.{leb, eqb}
use borrow.Author.Tests.{eqb-true, leb-true, le-leb, lt-ltb, le-ltb}
use Rattle.text_classes.specs.Classes.{among, wschar, literal_char, mll_char, basic_unescaped, mlb_unescaped, hexdig}
use Rattle.text_scalars.specs.Utf8.{Scalar}
use Rattle.decoder_rules.specs.Escapes.{hex_value}
use Rattle.text_classes.proofs.Conds.{both_left, both_right, or_left, or_right, or_inv}
use Rattle.decoder_rules.proofs.AsciiLaws.{basic_high, literal_high}
use Rattle.theorems_grammar.specs.Grammar.{Wschar, NonAscii, x80-D7FF, xE000-10FFFF, BasicUnescaped, MlbUnescaped, HexDig, LiteralChar, MllChar}

pub no_true : {A : Type 0} → false ≡ true → A
no_true e = absurd (false≢true e)

-- ---- a range of bytes

among_inv : (a z b : ℕ) → among a z b ≡ true → (a ≤ b) × (b ≤ z)
among_inv a z b inside = (leb-true a b (both_left (leb a b) _ inside), leb-true b z (both_right (leb a b) _ inside))

among_at : (a z b : ℕ) → a ≤ b → b ≤ z → among a z b ≡ true
among_at a z b least most = rw (le-leb a b least, le-leb b z most)

-- ---- wschar

pub wschar_is : (b : ℕ) → wschar b ≡ true → Wschar b
unfolding wschar
wschar_is b h =
    or_inv (eqb b 0x20) (eqb b 0x09) h (λ e. subst Wschar (sym (eqb-true b 0x20 e)) Wschar.x20)
    (λ e. subst Wschar (sym (eqb-true b 0x09 e)) Wschar.x09)

-- ---- non-ascii

pub non_ascii_of : (c : ℕ) → Scalar c → 0x80 ≤ c → NonAscii c
non_ascii_of c (inl low) high = x80-D7FF high (omega arith)
non_ascii_of c (inr range) high = xE000-10FFFF range.0 (omega arith)

pub non_ascii_high : {c : ℕ} → NonAscii c → 0x80 ≤ c
non_ascii_high (x80-D7FF h k) = h
non_ascii_high (xE000-10FFFF h k) = omega arith

-- ---- literal-char, and mll-char, which has the same alternatives

pub literal_at : {c : ℕ} → LiteralChar c → literal_char c ≡ true
unfolding literal_char
literal_at LiteralChar.x09 = refl
literal_at {c} (LiteralChar.x20-26 h k) = or_right (eqb c 0x09) _ (or_left (among 0x20 0x26 c) _ (among_at 0x20 0x26 c h k))
literal_at {c} (LiteralChar.x28-7E h k) =
    or_right (eqb c 0x09) _ (or_right (among 0x20 0x26 c) _ (or_left (among 0x28 0x7E c) _ (among_at 0x28 0x7E c h k)))
literal_at {c} (LiteralChar.non_ascii n) = literal_high c (non_ascii_high n)

pub literal_is : (c : ℕ) → Scalar c → literal_char c ≡ true → LiteralChar c
unfolding literal_char
literal_is c scalar in-class =
    or_inv (eqb c 0x09) _ in-class (λ here. subst LiteralChar (sym (eqb-true c 0x09 here)) LiteralChar.x09)
    λ not-tab. or_inv (among 0x20 0x26 c) _ not-tab
    (λ here. let range = among_inv 0x20 0x26 c here in LiteralChar.x20-26 range.0 range.1)
    λ not_low. or_inv (among 0x28 0x7E c) _ not_low
    (λ here. let range = among_inv 0x28 0x7E c here in LiteralChar.x28-7E range.0 range.1)
    λ here. LiteralChar.non_ascii (non_ascii_of c scalar (leb-true 0x80 c here))

pub mll_literal : {c : ℕ} → MllChar c ↔ LiteralChar c
mll_literal = (to, from)
  where
    to : {c : ℕ} → MllChar c → LiteralChar c
    to MllChar.x09 = LiteralChar.x09
    to (MllChar.x20-26 h k) = LiteralChar.x20-26 h k
    to (MllChar.x28-7E h k) = LiteralChar.x28-7E h k
    to (MllChar.non_ascii n) = LiteralChar.non_ascii n

    from : {c : ℕ} → LiteralChar c → MllChar c
    from LiteralChar.x09 = MllChar.x09
    from (LiteralChar.x20-26 h k) = MllChar.x20-26 h k
    from (LiteralChar.x28-7E h k) = MllChar.x28-7E h k
    from (LiteralChar.non_ascii n) = MllChar.non_ascii n

pub mll_same : (b : ℕ) → mll_char b ≡ literal_char b
unfolding mll_char literal_char
mll_same b = refl

-- ---- basic-unescaped, and mlb-unescaped, which has the same alternatives

pub basic_at : {c : ℕ} → BasicUnescaped c → basic_unescaped c ≡ true
unfolding basic_unescaped
basic_at (BasicUnescaped.wschar Wschar.x20) = refl
basic_at (BasicUnescaped.wschar Wschar.x09) = refl
basic_at BasicUnescaped.x21 = refl
basic_at {c} (BasicUnescaped.x23-5B h k) =
    or_right (eqb c 0x20 || eqb c 0x09) _ (or_right (eqb c 0x21) _ (or_left (among 0x23 0x5B c) _ (among_at 0x23 0x5B c h k)))
basic_at {c} (BasicUnescaped.x5D-7E h k) =
    or_right (eqb c 0x20 || eqb c 0x09) _ (or_right (eqb c 0x21) _
    (or_right (among 0x23 0x5B c) _ (or_left (among 0x5D 0x7E c) _ (among_at 0x5D 0x7E c h k))))
basic_at {c} (BasicUnescaped.non_ascii n) = basic_high c (non_ascii_high n)

pub basic_is : (c : ℕ) → Scalar c → basic_unescaped c ≡ true → BasicUnescaped c
unfolding basic_unescaped wschar
basic_is c scalar in-class =
    or_inv (wschar c) _ in-class (λ here. BasicUnescaped.wschar (wschar_is c here))
    λ not_blank. or_inv (eqb c 0x21) _ not_blank (λ here. subst BasicUnescaped (sym (eqb-true c 0x21 here)) BasicUnescaped.x21)
    λ not-x21. or_inv (among 0x23 0x5B c) _ not-x21
    (λ here. let range = among_inv 0x23 0x5B c here in BasicUnescaped.x23-5B range.0 range.1)
    λ not_low. or_inv (among 0x5D 0x7E c) _ not_low
    (λ here. let range = among_inv 0x5D 0x7E c here in BasicUnescaped.x5D-7E range.0 range.1)
    λ here. BasicUnescaped.non_ascii (non_ascii_of c scalar (leb-true 0x80 c here))

pub mlb_basic : {c : ℕ} → MlbUnescaped c ↔ BasicUnescaped c
mlb_basic = (to, from)
  where
    to : {c : ℕ} → MlbUnescaped c → BasicUnescaped c
    to (MlbUnescaped.wschar w) = BasicUnescaped.wschar w
    to MlbUnescaped.x21 = BasicUnescaped.x21
    to (MlbUnescaped.x23-5B h k) = BasicUnescaped.x23-5B h k
    to (MlbUnescaped.x5D-7E h k) = BasicUnescaped.x5D-7E h k
    to (MlbUnescaped.non_ascii n) = BasicUnescaped.non_ascii n

    from : {c : ℕ} → BasicUnescaped c → MlbUnescaped c
    from (BasicUnescaped.wschar w) = MlbUnescaped.wschar w
    from BasicUnescaped.x21 = MlbUnescaped.x21
    from (BasicUnescaped.x23-5B h k) = MlbUnescaped.x23-5B h k
    from (BasicUnescaped.x5D-7E h k) = MlbUnescaped.x5D-7E h k
    from (BasicUnescaped.non_ascii n) = MlbUnescaped.non_ascii n

pub mlb_same : (b : ℕ) → mlb_unescaped b ≡ basic_unescaped b
unfolding mlb_unescaped basic_unescaped
mlb_same b = refl

-- ---- HEXDIG

pub digit_is : (b : ℕ) → hexdig b ≡ true → HexDig b (hex_value b)
unfolding hexdig hex_value
digit_is b in-class =
    or_inv (among 0x30 0x39 b) _ in-class
    (λ here. let range = among_inv 0x30 0x39 b here in
    rw (lt-ltb b 0x41 (omega arith)) (HexDig.digit {c = b} {d = b - 0x30} (omega arith) (omega arith)))
    λ not_digit. or_inv (among 0x41 0x46 b) _ not_digit
    (λ here. let range = among_inv 0x41 0x46 b here in
    rw (le-ltb b 0x41 (omega arith), lt-ltb b 0x61 (omega arith))
    (HexDig.upper {c = b} {d = b - 0x37} (omega arith) (omega arith) (omega arith)))
    (λ here. let range = among_inv 0x61 0x66 b here in
    rw (le-ltb b 0x41 (omega arith), le-ltb b 0x61 (omega arith))
    (HexDig.lower {c = b} {d = b - 0x57} (omega arith) (omega arith) (omega arith)))

pub digit_at : {c d : ℕ} → HexDig c d → (hexdig c ≡ true) × (hex_value c ≡ d)
unfolding hexdig hex_value
digit_at {c} {d} (HexDig.digit e h) = (
  or_left (among 0x30 0x39 c) _ (among_at 0x30 0x39 c (omega arith) (omega arith)),
  rw (lt-ltb c 0x41 (omega arith)) (omega arith),
)
digit_at {c} {d} (HexDig.upper e h k) = (
  or_right (among 0x30 0x39 c) _ (or_left (among 0x41 0x46 c) _ (among_at 0x41 0x46 c (omega arith) (omega arith))),
  rw (le-ltb c 0x41 (omega arith), lt-ltb c 0x61 (omega arith)) (omega arith),
)
digit_at {c} {d} (HexDig.lower e h k) = (
  or_right (among 0x30 0x39 c) _ (or_right (among 0x41 0x46 c) _ (among_at 0x61 0x66 c (omega arith) (omega arith))),
  rw (le-ltb c 0x41 (omega arith), le-ltb c 0x61 (omega arith)) (omega arith),
)
