-- Where UTF-8 may be joined and cut.
-- Assumes nothing.
use Prim.Native.Nat.{ℕ, ◌≤◌, ◌<◌}
use mathlib.Core.Path.{◌≡◌, refl, sym, ap, ◌∙◌, subst}
use mathlib.Core.Logic.{◌⊎◌, inl, inr, ⊎_elim}
use mathlib.Core.List.{List, [], ◌∷◌, ◌++◌, append-nil}
use native.Mathlib.Omega.{arith}
use native.Mathlib.Decide.{dec_lt}
use lib.ListN.{length, get_or, take, drop, take-append-drop}
use lib.Seq.{drop-length, drop-cons}
use Rattle.text_scalars.specs.Utf8.{Scalar, encode_scalar, encodes, All, Utf8}
use Rattle.text_scalars.specs.Utf8Read.{scalars}
use Rattle.text_scalars.proofs.EncodeLaws.{Tail, Parts, parts, encode_1}
use Rattle.text_scalars.proofs.ReadLaws.{encodes_append, scalars_char, scalars_encodes, scalars_of}

-- ---- joining

pub all_append : (P : ℕ → Type 0) (xs ys : List ℕ) → All P xs → All P ys → All P (xs ++ ys)
all_append P [] ys h k = k
all_append P (x ∷ xs) ys h k = (h.0, all_append P xs ys h.1 k)

pub all_parts : (P : ℕ → Type 0) (xs ys : List ℕ) → All P (xs ++ ys) → All P xs × All P ys
all_parts P [] ys h = (tt, h)
all_parts P (x ∷ xs) ys h = let r = all_parts P xs ys h.1 in ((h.0, r.0), r.1)

pub scalar_utf8 : (c : ℕ) → Scalar c → Utf8 (encode_scalar c)
scalar_utf8 c h = (c ∷ [], (h, tt), append-nil (encode_scalar c))

pub one_utf8 : (b : ℕ) → b < 0x80 → Utf8 (b ∷ [])
one_utf8 b h = subst Utf8 (encode_1 b h) (scalar_utf8 b (inl (omega arith)))

pub utf8_append : (p q : List ℕ) → Utf8 p → Utf8 q → Utf8 (p ++ q)
utf8_append p q (cs, h, e) (ds, k, f) = (cs ++ ds, all_append Scalar cs ds h k, rw (encodes_append cs ds, e, f))

pub scalars_append : (p q : List ℕ) → Utf8 p → scalars (p ++ q) ≡ scalars p ++ scalars q
scalars_append p q (cs, h, e) = rw (← e, scalars_encodes cs h q, scalars_of cs h)

-- ---- cutting

-- a list before which UTF-8 may be cut: it is empty, or its first byte is not 80 to BF
abbrev pub Cuttable : List ℕ → Type 0
Cuttable [] = Unit
Cuttable (b ∷ q) = (b < 0x80) ⊎ (0xC0 ≤ b)

record Past (ts r p q : List ℕ) : Type 0 where
  rest : List ℕ
  before : p ≡ ts ++ rest
  after : r ≡ rest ++ q

-- a cut never falls before a continuation byte
past : (ts r p q : List ℕ) → All Tail ts → ts ++ r ≡ p ++ q → Cuttable q → Past ts r p q
past [] r p q h e k = record { rest = p; before = refl; after = e }
past (t ∷ ts) r [] [] h e k = absurd (omega (arith, ap length e))
past (t ∷ ts) r [] (b ∷ q) h e (inl k) = let same : t ≡ b = cc in absurd (omega (arith, h.0))
past (t ∷ ts) r [] (b ∷ q) h e (inr k) = let same : t ≡ b = cc in absurd (omega (arith, h.0))
past (t ∷ ts) r (x ∷ p) q h e k =
    let same : t ≡ x = cc in
    let rest : ts ++ r ≡ p ++ q = cc in
    let i = past ts r p q h.1 rest k in
    record { rest = i.rest; before = rw (same, ← i.before); after = i.after }

glue : (c a f : ℕ) (ds ts r p : List ℕ) → encode_scalar c ≡ f ∷ ts → f ≡ a → p ≡ ts ++ r → encodes ds ≡ r
    → encode_scalar c ++ encodes ds ≡ a ∷ p
glue c a f ds ts r p w e b i = rw (w, e, b, i)

cut_from : (cs p q : List ℕ) → All Scalar cs → encodes cs ≡ p ++ q → Cuttable q → Utf8 p × Utf8 q
cut_from [] [] q h e k = (([], tt, refl), ([], h, e))
cut_from (c ∷ cs) [] q h e k = (([], tt, refl), (c ∷ cs, h, e))
cut_from [] (a ∷ p) q h e k = absurd (omega (arith, ap length e))
cut_from (c ∷ cs) (a ∷ p) q h e k = go (parts c) (λ r f. cut_from cs r q h.1 f k)
  where
    go : Parts c → ((r : List ℕ) → encodes cs ≡ r ++ q → Utf8 r × Utf8 q) → Utf8 (a ∷ p) × Utf8 q
    go t ih =
        let split : t.first ∷ (t.tails ++ encodes cs) ≡ a ∷ (p ++ q) = rw t.whole at e in
        let same : t.first ≡ a = cc in
        let rest : t.tails ++ encodes cs ≡ p ++ q = cc in
        let w = past t.tails (encodes cs) p q t.each rest k in
        let i = ih w.rest w.after in
        let ds = i.0.0 in
        let whole = glue c a t.first ds t.tails w.rest p t.whole same w.before i.0.2 in
        ((c ∷ ds, (h.0, i.0.1), whole), i.1)

pub cut : (p q : List ℕ) → Utf8 (p ++ q) → Cuttable q → Utf8 p × Utf8 q
cut p q (cs, h, e) k = cut_from cs p q h e k

-- the same at a place: at the end, or at a byte that is not 80 to BF
pub cut_at : (s : List ℕ) (k : ℕ) → Utf8 s → (k ≡ length s) ⊎ ((k < length s) × ((get_or s k 0 < 0x80) ⊎ (0xC0 ≤ get_or s k 0)))
    → Utf8 (take k s) × Utf8 (drop k s)
cut_at s k u h =
    cut (take k s) (drop k s) (rw (take-append-drop k s) u) (⊎_elim ends (λ p. rw (drop-cons s k 0 p.0) p.1) h)
  where
    ends : k ≡ length s → Cuttable (drop k s)
    ends e = rw (e, drop-length s) tt

-- an ASCII byte is a scalar value of its own
pub ascii_first : (q : List ℕ) (b : ℕ) → b < 0x80 → Utf8 (b ∷ q) → Utf8 q
ascii_first q b h (cs, k, e) = go cs k e
  where
    go : (cs : List ℕ) → All Scalar cs → encodes cs ≡ b ∷ q → Utf8 q
    go [] k e = absurd (omega (arith, ap length e))
    go (c ∷ cs) k e =
        let t = parts c in
        let split : t.first ∷ (t.tails ++ encodes cs) ≡ b ∷ q = rw t.whole at e in
        let same : t.first ≡ b = cc in
        elim (dec_lt c 0x80) [
          | yes l ↦
              let one : c ∷ encodes cs ≡ b ∷ q = rw (encode_1 c l) at e in
              let rest : encodes cs ≡ q = cc in
              (cs, k.1, rest)
          | no l ↦ absurd (omega (arith, t.more (omega arith)))
        ]

-- so what stands before an ASCII byte and what stands after it are UTF-8 too
pub ascii_cut : (p q : List ℕ) (b : ℕ) → b < 0x80 → Utf8 (p ++ b ∷ q)
    → Utf8 p × Utf8 q × (scalars (p ++ b ∷ q) ≡ scalars p ++ b ∷ scalars q)
ascii_cut p q b h u =
    let w = cut p (b ∷ q) u (inl h) in
    let e : encode_scalar b ++ q ≡ b ∷ q = rw (encode_1 b h) in
    let f : scalars (b ∷ q) ≡ b ∷ scalars q = ap scalars (sym e) ∙ scalars_char b (inl (omega arith)) q in
    (w.0, ascii_first q b h w.1, scalars_append p (b ∷ q) w.0 ∙ ap (λ (l : List ℕ). scalars p ++ l) f)
