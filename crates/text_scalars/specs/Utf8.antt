-- RULE. UTF-8 as RFC 3629 has it: scalar values, their encodings, and the bytes that are such encodings, joined.
use Rattle.std.specs.Prelude.{ℕ, ◌+◌, ◌/◌, ◌%◌, ◌≤◌, ◌<◌}
use mathlib.Core.{Path.◌≡◌, Logic.◌⊎◌, List.List, List.[], List.◌∷◌, List.◌++◌, Bool.cond}
use lib.{Dec.ltb}

-- a Unicode scalar value: 0 to D7FF, or E000 to 10FFFF
abbrev pub Scalar : ℕ → Type 0
Scalar c = (c < 0xD800) ⊎ ((0xE000 ≤ c) × (c < 0x110000))

-- the bytes of a scalar value:
--   0000-007F      0xxxxxxx
--   0080-07FF      110xxxxx 10xxxxxx
--   0800-FFFF      1110xxxx 10xxxxxx 10xxxxxx
--   10000-10FFFF   11110xxx 10xxxxxx 10xxxxxx 10xxxxxx
unfoldable pub encode_scalar : ℕ → List ℕ
encode_scalar c =
    cond (ltb c 0x80) (c ∷ [])
    (cond (ltb c 0x800) ((0xC0 + c / 64) ∷ (0x80 + c % 64) ∷ [])
    (cond (ltb c 0x10000) ((0xE0 + c / 4096) ∷ (0x80 + c / 64 % 64) ∷ (0x80 + c % 64) ∷ [])
    ((0xF0 + c / 262144) ∷ (0x80 + c / 4096 % 64) ∷ (0x80 + c / 64 % 64) ∷ (0x80 + c % 64) ∷ [])))

-- the encodings of several, joined
abbrev pub encodes : List ℕ → List ℕ
encodes [] = []
encodes (c ∷ cs) = encode_scalar c ++ encodes cs

-- P holds of each number of a list
abbrev pub All : (ℕ → Type 0) → List ℕ → Type 0
All P [] = Unit
All P (x ∷ xs) = P x × All P xs

-- bytes are valid where there are scalar values whose encodings, joined, they are
abbrev pub Utf8 : List ℕ → Type 0
Utf8 s = (cs : List ℕ) × All Scalar cs × (encodes cs ≡ s)
