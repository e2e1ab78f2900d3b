-- A body whose escapes are of one letter each, and what it decodes to, read off byte by byte. Not a rule of its own:
-- `short_decodes` in proofs/ShortLaws.antt shows that the rule's bytes are these, and that there is no error.
-- Assumes nothing.
use Rattle.std.specs.Prelude.{ℕ, Option, Some, None, is_some, MatchOption, Ok, ◌-◌, ◌≤◌, ◌<◌, ◌≡◌, Bool, true, false, cond, ◌&&◌, List, [], ◌∷◌, ◌++◌, eqb, length, take, drop, get_or}
use Rattle.text_classes.specs.Classes.{basic_unescaped}
use Rattle.text_scalars.specs.Utf8Read.{Along}
use Rattle.text.specs.CheckMeans.{check_of}
use Rattle.decoder_rules.proofs.StoreLaws.{Stored}

-- the character that a letter stands for after a backslash, in every edition of TOML; none for a byte that is no such letter
unfoldable pub letter_char : ℕ → Option ℕ
letter_char b =
    cond (eqb b 0x22) (Some 0x22)
    (cond (eqb b 0x5C) (Some 0x5C)
    (cond (eqb b 0x62) (Some 0x08)
    (cond (eqb b 0x66) (Some 0x0C)
    (cond (eqb b 0x6E) (Some 0x0A)
    (cond (eqb b 0x72) (Some 0x0D)
    (cond (eqb b 0x74) (Some 0x09)
    None))))))

-- every byte of s stands for itself, or is a backslash with such a letter; h says whether a backslash stands before s
unfoldable pub is_simple : Bool → List ℕ → Bool
is_simple h [] = cond h false true
is_simple true (b ∷ s) = is_some (letter_char b) && is_simple false s
is_simple false (b ∷ s) = cond (eqb b 0x5C) (is_simple true s) (basic_unescaped b && is_simple false s)

-- the byte of a letter's character, where it has one
abbrev pub letter_byte : Option ℕ → List ℕ
letter_byte None = []
letter_byte (Some c) = c ∷ []

-- the bytes that it stands for
unfoldable pub simple_bytes : Bool → List ℕ → List ℕ
simple_bytes h [] = []
simple_bytes true (b ∷ s) = letter_byte (letter_char b) ++ simple_bytes false s
simple_bytes false (b ∷ s) = cond (eqb b 0x5C) (simple_bytes true s) (b ∷ simple_bytes false s)

-- the bytes of t from place i up to its last, which is a mark
abbrev pub body_from : List ℕ → ℕ → List ℕ
body_from t i = take (length t - 1 - i) (drop i t)

-- t is a basic string with both its marks, passes the check, and its body is such
pub record Short (t : List ℕ) : Type 0 where
  pub two : 2 ≤ length t
  pub opens : get_or t 0 0 ≡ 0x22
  pub closes : get_or t (length t - 1) 0 ≡ 0x22
  pub valid : Ok tt ≡ check_of t
  pub simple : is_simple false (body_from t 1) ≡ true

-- t ends with a mark
pub record Marked (t : List ℕ) : Type 0 where
  pub some : 1 < length t
  pub closes : get_or t (length t - 1) 0 ≡ 0x22

-- from place 1 up to place r whole characters stand, and the body is such if it is from there on
pub record SimpleTo (t : List ℕ) (r : ℕ) : Type 0 where
  pub along : Along t 1 r
  pub within : r < length t
  pub same : is_simple false (body_from t r) ≡ is_simple false (body_from t 1)

-- t is such, and the n bytes that it decodes to are written to the front of memory that held `old`, which has room
pub record Written (t old out : List ℕ) (n : ℕ) : Type 0 where
  pub short : Short t
  pub fewer : n < length t
  pub room : n ≤ length old
  pub stored : Stored old 0 (simple_bytes false (body_from t 1)) n out

-- so many bytes; or none, and nothing is written
abbrev pub ShortCopied : List ℕ → List ℕ → Option ℕ → List ℕ → Type 0
ShortCopied t old r out = MatchOption r (out ≡ old) (Written t old out)
