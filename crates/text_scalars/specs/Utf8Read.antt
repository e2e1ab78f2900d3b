-- UTF-8 read from the front: the computed side of Utf8.antt. Not to be believed but proved: proofs/ReadLaws.antt shows
-- that `valid_prefix s` is the length of the longest prefix of s that is `Utf8`, and `scalars` the inverse of `encodes`.
-- Assumes nothing.
use Rattle.std.specs.Prelude.{ℕ, zero, suc, ◌+◌, ◌*◌, ◌%◌, ◌≤◌, ◌≡◌, List, [], ◌∷◌, Bool, true, false, cond, ◌&&◌, ◌||◌, length, get_or, drop, ltb, leb, eqb}
use Rattle.text_scalars.specs.Utf8.{encode_scalar, encodes}

-- `Scalar`, as a test
abbrev pub is_scalar : ℕ → Bool
is_scalar c = ltb c 0xD800 || leb 0xE000 c && ltb c 0x110000

-- a character of one byte
abbrev pub ascii : ℕ → Bool
ascii b = ltb b 0x80

-- the value in the bit fields of the first bytes, by the lead byte alone: nothing else is looked at
unfoldable pub guess : List ℕ → ℕ
guess s =
    cond (ltb (get_or s 0 0) 0x80) (get_or s 0 0)
    (cond (ltb (get_or s 0 0) 0xE0) (get_or s 0 0 % 32 * 64 + get_or s 1 0 % 64)
    (cond (ltb (get_or s 0 0) 0xF0) (get_or s 0 0 % 16 * 4096 + get_or s 1 0 % 64 * 64 + get_or s 2 0 % 64)
    (get_or s 0 0 % 8 * 262144 + get_or s 1 0 % 64 * 4096 + get_or s 2 0 % 64 * 64 + get_or s 3 0 % 64)))

-- the first list begins the second
abbrev pub starts : List ℕ → List ℕ → Bool
starts [] s = true
starts (x ∷ xs) [] = false
starts (x ∷ xs) (y ∷ ys) = eqb x y && starts xs ys

-- the length of the character that the bytes begin with, 0 where there is none: encode the guess, and compare
unfoldable pub char_len : List ℕ → ℕ
char_len s =
    cond (is_scalar (guess s) && starts (encode_scalar (guess s)) s) (length (encode_scalar (guess s))) 0

-- where a character of n bytes with the value c begins: c and then the values that f gives; nothing where n is 0
abbrev pub character : ℕ → ℕ → (ℕ → List ℕ) → List ℕ
character zero c f = []
character (suc n) c f = c ∷ f n

-- the scalar values of the characters, up to the first place where none begins; k bytes are skipped first
unfoldable pub scalars_from : ℕ → List ℕ → List ℕ
scalars_from k [] = []
scalars_from zero (a ∷ s) = character (char_len (a ∷ s)) (guess (a ∷ s)) (λ n. scalars_from n s)
scalars_from (suc k) (a ∷ s) = scalars_from k s

abbrev pub scalars : List ℕ → List ℕ
scalars s = scalars_from zero s

-- the length of the longest prefix that is UTF-8
unfoldable pub valid_prefix : List ℕ → ℕ
valid_prefix s = length (encodes (scalars s))

-- whole characters stand from `start` up to r
abbrev pub Along : List ℕ → ℕ → ℕ → Type 0
Along s start r = (start ≤ r) × (r ≤ length s) × (start + valid_prefix (drop start s) ≡ r + valid_prefix (drop r s))
