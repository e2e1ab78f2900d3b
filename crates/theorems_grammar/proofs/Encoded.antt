-- Bytes and code points: a code point below 0x80 is its only byte, and each byte of another is 0x80 or more.
use Prim.Native.Nat.{ℕ, ◌≤◌, ◌<◌}
use mathlib.Core.Path.{◌≡◌, refl, sym, ◌∙◌, ap, subst}
use mathlib.Core.Logic.{inl}
use mathlib.Core.List.{List, [], ◌∷◌, ◌++◌, append-nil}
use native.Mathlib.Omega.{arith}
use native.Mathlib.Decide.{dec_lt}
use lib.ListN.{length}
use lib.Dec.{eqb}
use borrow.Author.Tests.{ne_eqb}
use Rattle.text_scalars.specs.Utf8.{Scalar, encode_scalar, encodes, All, Utf8}
use Rattle.text_scalars.proofs.EncodeLaws.{parts, encode_1}
use Rattle.text_scalars.proofs.ReadLaws.{encodes_append, same_scalars}
use Rattle.text_scalars.proofs.CutLaws.{all_append, all_parts, Cuttable, cut}
use Rattle.theorems_grammar.proofs.ListLaws.{all_weaken}

pub data Side (c : ℕ) : Type 0 where
  ascii : c < 0x80 → Side c
  beyond : 0x80 ≤ c → Side c

pub side : (c : ℕ) → Side c
side c = elim (dec_lt c 0x80) [ yes h ↦ ascii h | no h ↦ beyond (omega arith) ]

-- ---- beyond ASCII

abbrev Beyond : ℕ → Type 0
Beyond b = 0x80 ≤ b

beyond_bytes : (c : ℕ) → 0x80 ≤ c → All Beyond (encode_scalar c)
beyond_bytes c high =
    let bytes = parts c in
    rw bytes.whole (omega (arith, bytes.more high), all_weaken (λ b t. t.0) bytes.tails bytes.each)

-- what holds of a code point, and of every number from 0x80 on, holds of each of its bytes
pub char_bytes : {P : ℕ → Type 0} → ((b : ℕ) → 0x80 ≤ b → P b) → (c : ℕ) → P c → All P (encode_scalar c)
char_bytes high c holds = elim (side c) [
  | ascii size ↦ rw (encode_1 c size) (holds, tt)
  | beyond size ↦ all_weaken high (encode_scalar c) (beyond_bytes c size)
]

pub chars_bytes : {P : ℕ → Type 0} → ((b : ℕ) → 0x80 ≤ b → P b) → (cs : List ℕ) → All P cs → All P (encodes cs)
chars_bytes high [] h = tt
chars_bytes {P} high (c ∷ cs) each =
    all_append P (encode_scalar c) (encodes cs) (char_bytes high c each.0) (chars_bytes high cs each.1)

-- the first byte is the ASCII byte k exactly where the code point is k
pub first_is : (c k : ℕ) → k < 0x80 → eqb (parts c).first k ≡ eqb c k
first_is c k low = elim (side c) [
  | ascii size ↦ ap (λ (b : ℕ). eqb b k) ((parts c).same size)
  | beyond size ↦ ne_eqb (parts c).first k (λ e. omega (arith, (parts c).more size)) ∙ sym (ne_eqb c k (λ e. omega arith))
]

-- ---- ASCII

abbrev pub AllAscii : List ℕ → Type 0
AllAscii t = All (λ c. c < 0x80) t

pub encodes_ascii : (t s : List ℕ) → AllAscii t → encodes (t ++ s) ≡ t ++ encodes s
encodes_ascii [] s h = refl
encodes_ascii (c ∷ t) s h = rw (encode_1 c h.0) (ap (c ∷◌) (encodes_ascii t s h.1))

pub ascii_whole : (t : List ℕ) → AllAscii t → encodes t ≡ t
ascii_whole t h = ap encodes (sym (append-nil t)) ∙ (encodes_ascii t [] h ∙ append-nil t)

-- where the encoding of cs begins with the ASCII bytes t, cs begins with t; s is the rest of the encoding
pub record Led (t cs s : List ℕ) : Type 0 where
  pub rest : List ℕ
  pub text : cs ≡ t ++ rest
  pub bytes : encodes rest ≡ s

led_cons : (b c : ℕ) (t cs s : List ℕ) → c ≡ b → Led t cs s → Led (b ∷ t) (c ∷ cs) s
led_cons b c t cs s same led = record { rest = led.rest; text = cc; bytes = led.bytes }

pub ascii_led : (t cs s : List ℕ) → AllAscii t → encodes cs ≡ t ++ s → Led t cs s
ascii_led [] cs s low text = record { rest = cs; text = refl; bytes = text }
ascii_led (b ∷ t) [] s low text = absurd (omega (arith, ap length text))
ascii_led (b ∷ t) (c ∷ cs) s low text = by_side (side c) (ascii_led t cs s low.1)
  where
    by_side : Side c → (encodes cs ≡ t ++ s → Led t cs s) → Led (b ∷ t) (c ∷ cs) s
    by_side (ascii small) led-rest =
        let bytes : c ∷ encodes cs ≡ b ∷ (t ++ s) = rw (encode_1 c small) at text in
        let same : c ≡ b = cc in
        let rest : encodes cs ≡ t ++ s = cc in
        led_cons b c t cs s same (led-rest rest)
    by_side (beyond large) led-rest =
        let char = parts c in
        let bytes : char.first ∷ (char.tails ++ encodes cs) ≡ b ∷ (t ++ s) =
        ap (λ (same : List ℕ). same ++ encodes cs) (sym char.whole) ∙ text in
        let same : char.first ≡ b = cc in
        absurd (omega (arith, char.more large, low.0))

-- where the encoding of cs is m between the ASCII bytes a and z, cs is `inner` between a and z, and m encodes `inner`
pub record Between (a z cs m : List ℕ) : Type 0 where
  pub inner : List ℕ
  pub text : cs ≡ a ++ (inner ++ z)
  pub bytes : encodes inner ≡ m
  pub each : All Scalar inner

ascii_cuttable : (z : List ℕ) → AllAscii z → Cuttable z
ascii_cuttable [] h = tt
ascii_cuttable (b ∷ z) h = inl h.0

pub between : (a z cs m : List ℕ) → AllAscii a → AllAscii z → All Scalar cs → encodes cs ≡ a ++ (m ++ z) → Between a z cs m
between a z cs m before_ascii after-ascii scalars text =
    let led = ascii_led a cs (m ++ z) before_ascii text in
    let rest-scalars : All Scalar led.rest = (all_parts Scalar a led.rest (subst (All Scalar) led.text scalars)).1 in
    by_cut led.rest rest-scalars led.text led.bytes
    (cut m z (led.rest, rest-scalars, led.bytes) (ascii_cuttable z after-ascii)).0
  where
    by_cut : (r : List ℕ) → All Scalar r → cs ≡ a ++ r → encodes r ≡ m ++ z → Utf8 m → Between a z cs m
    by_cut r rest-scalars rest-text rest-bytes (inner, inner-scalars, inner-bytes) =
        let after-scalars : All Scalar z =
        all_weaken (λ c low. let small : c < 0xD800 = omega arith in inl small) z after-ascii in
        let bytes : encodes (inner ++ z) ≡ m ++ z = encodes_append inner z ∙ rw (inner-bytes, ascii_whole z after-ascii) in
        let split : r ≡ inner ++ z =
        same_scalars r (inner ++ z) rest-scalars (all_append Scalar inner z inner-scalars after-scalars)
        (rest-bytes ∙ sym bytes) in
        record { inner = inner; text = rest-text ∙ ap (λ y. a ++ y) split; bytes = inner-bytes; each = inner-scalars }
