-- RULE. A backslash and what it stands for, in each edition of TOML: errors 8, 9 and 10. Which letters there are is said here
-- and nowhere else. TOML 1.1.0 has all of 1.0.0's, and two more.
use Rattle.std.specs.Prelude.{ℕ, ◌+◌, ◌-◌, ◌*◌}
use mathlib.Core.{Bool.cond, List.List, List.[], List.◌∷◌}
use lib.{Dec.eqb, Dec.ltb, ListN.take, ListN.drop}
use Rattle.text_classes.specs.{Classes.hexdig, Runs.run}
use Rattle.text_scalars.specs.{Utf8Read.is_scalar}
use Rattle.decoder_rules.specs.{Pieces.char_piece, Pieces.bad_char}
use Rattle.decoder_rules.specs.declared.{Edition.Edition, Edition.TheVariants.Toml10, Edition.TheVariants.Toml11, Letter.Letter, Letter.TheVariants.Stands, Letter.TheVariants.Asks, Letter.TheVariants.Neither, Piece.Piece, DecodeError.TheVariants.MissingEscape, DecodeError.TheVariants.FewDigits, DecodeError.TheVariants.NotScalar}

-- what 1.1.0 adds:
-- escape-seq-char =/ %x65         ; e    escape          U+001B
-- escape-seq-char =/ %x78 2HEXDIG ; xHH                  U+00HH
abbrev pub new_letter : Edition → ℕ → Letter
new_letter Toml10 b = Neither
new_letter Toml11 b = cond (eqb b 0x65) (Stands 0x1B) (cond (eqb b 0x78) (Asks 2) Neither)

-- what a letter is for: it stands for a character, or asks for so many digits, or neither
-- escape-seq-char =  %x22         ; "    quotation mark  U+0022
-- escape-seq-char =/ %x5C         ; \    reverse solidus U+005C
-- escape-seq-char =/ %x62         ; b    backspace       U+0008
-- escape-seq-char =/ %x66         ; f    form feed       U+000C
-- escape-seq-char =/ %x6E         ; n    line feed       U+000A
-- escape-seq-char =/ %x72         ; r    carriage return U+000D
-- escape-seq-char =/ %x74         ; t    tab             U+0009
-- escape-seq-char =/ %x75 4HEXDIG ; uXXXX                U+XXXX
-- escape-seq-char =/ %x55 8HEXDIG ; UXXXXXXXX            U+XXXXXXXX
unfoldable pub letter_of : Edition → ℕ → Letter
letter_of v b =
    cond (eqb b 0x22) (Stands 0x22)
    (cond (eqb b 0x5C) (Stands 0x5C)
    (cond (eqb b 0x62) (Stands 0x08)
    (cond (eqb b 0x66) (Stands 0x0C)
    (cond (eqb b 0x6E) (Stands 0x0A)
    (cond (eqb b 0x72) (Stands 0x0D)
    (cond (eqb b 0x74) (Stands 0x09)
    (cond (eqb b 0x75) (Asks 4)
    (cond (eqb b 0x55) (Asks 8)
    (new_letter v b)))))))))

-- the same of the first byte of s; where there is none, neither
abbrev pub letter_at : Edition → List ℕ → Letter
letter_at v [] = Neither
letter_at v (b ∷ s) = letter_of v b

-- the value of a hex digit: 0 to 9, A to F, a to f
unfoldable pub hex_value : ℕ → ℕ
hex_value b = cond (ltb b 0x41) (b - 0x30) (cond (ltb b 0x61) (b - 0x37) (b - 0x57))

-- the number that digits have, read from left to right after v
unfoldable pub hex_from : ℕ → List ℕ → ℕ
hex_from v [] = v
hex_from v (b ∷ s) = hex_from (v * 16 + hex_value b) s

-- a hex escape at place `at`, with n digits to come in s. Fewer: error 9 after those that are there. No scalar value: error
-- 10 at the first digit. Either gives U+FFFD.
unfoldable pub hex_piece : ℕ → ℕ → List ℕ → Piece
hex_piece n at s =
    cond (ltb (run hexdig s) n) (bad_char (2 + run hexdig s) 0xFFFD FewDigits (at + (2 + run hexdig s)))
    (cond (is_scalar (hex_from 0 (take n s))) (char_piece (2 + n) (hex_from 0 (take n s)))
    (bad_char (2 + n) 0xFFFD NotScalar (at + 2)))

-- a backslash at place `at`, by the letter after it, with s after that. Neither: error 8 after the backslash, which is
-- given alone
abbrev pub escape_by : Letter → ℕ → List ℕ → Piece
escape_by (Stands c) at s = char_piece 2 c
escape_by (Asks n) at s = hex_piece n at s
escape_by Neither at s = bad_char 1 0x5C MissingEscape (at + 1)

-- the same, with s after the backslash
unfoldable pub escape_piece : Edition → ℕ → List ℕ → Piece
escape_piece v at s = escape_by (letter_at v s) at (drop 1 s)
