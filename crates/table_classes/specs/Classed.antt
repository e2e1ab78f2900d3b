-- RULE. The byte sets and the single bytes that the table's users ask for, and the class of each byte: a class is a set of bytes that no
-- rule of lexing or decoding tells apart.
use Rattle.std.specs.Prelude.{ℕ}
use mathlib.Core.{Bool.Bool, Bool.not, Bool.cond, Bool.◌||◌}
use lib.{Dec.eqb}
use Rattle.text_classes.specs.{Classes.wschar, Classes.token_start, Classes.non_ascii, Classes.literal_char, Classes.mll_char, Classes.basic_unescaped, Classes.mlb_unescaped, Classes.digit, Classes.hexdig, Classes.unquoted_char, Classes.continuation}
use Rattle.table_classes.specs.declared.{Set.Set, Sign.Sign}
use Rattle.table_classes.specs.declared.Set.TheVariants.{Wschar, TokenStart, NonAscii, LiteralChar, MllChar, BasicUnescaped, MlbUnescaped, Digit, Hexdig, UnquotedChar, Continuation, InAtom, InComment, InLiteral, InBasic, InMlLiteral, InMlBasic, MllPlain, MlbPlain, BasicInvalid, MlbInvalid, Skipped}
use Rattle.table_classes.specs.declared.Sign.TheVariants.{Tab, Lf, Cr, Space, QuotationMark, NumberSign, Apostrophe, Comma, Dot, Equals, BigU, LeftSquare, Backslash, RightSquare, SmallB, SmallE, SmallF, SmallN, SmallR, SmallT, SmallU, SmallX, LeftCurly, RightCurly}

-- the bytes of a set: first the sets that bear a name in crate `text_classes`
abbrev pub set_of : Set → ℕ → Bool
set_of Wschar = wschar
set_of TokenStart = token_start
set_of NonAscii = non_ascii
set_of LiteralChar = literal_char
set_of MllChar = mll_char
set_of BasicUnescaped = basic_unescaped
set_of MlbUnescaped = mlb_unescaped
set_of Digit = digit
set_of Hexdig = hexdig
set_of UnquotedChar = unquoted_char
set_of Continuation = continuation
-- what goes on with an atom, with a comment, and with a string of each kind up to a byte that may end it
set_of InAtom = λ b. not (token_start b)
set_of InComment = λ b. not (eqb b 0x0D || eqb b 0x0A)
set_of InLiteral = λ b. not (eqb b 0x27 || eqb b 0x0A)
set_of InBasic = λ b. not (eqb b 0x22 || (eqb b 0x5C || eqb b 0x0A))
set_of InMlLiteral = λ b. not (eqb b 0x27)
set_of InMlBasic = λ b. not (eqb b 0x22 || eqb b 0x5C)
-- what stands for itself in a multi-line body, what errors 7 and 12 are about, and what a line-ending escape drops
set_of MllPlain = λ b. mll_char b || (eqb b 0x27 || eqb b 0x0A)
set_of MlbPlain = λ b. mlb_unescaped b || (eqb b 0x22 || eqb b 0x0A)
set_of BasicInvalid = λ b. not (basic_unescaped b || eqb b 0x5C)
set_of MlbInvalid = λ b. not ((mlb_unescaped b || (eqb b 0x22 || eqb b 0x0A)) || (eqb b 0x5C || eqb b 0x0D))
set_of Skipped = λ b. wschar b || (eqb b 0x0A || eqb b 0x0D)

-- the single bytes that a rule names
abbrev pub byte_of : Sign → ℕ
byte_of Tab = 0x09
byte_of Lf = 0x0A
byte_of Cr = 0x0D
byte_of Space = 0x20
byte_of QuotationMark = 0x22
byte_of NumberSign = 0x23
byte_of Apostrophe = 0x27
byte_of Comma = 0x2C
byte_of Dot = 0x2E
byte_of Equals = 0x3D
byte_of BigU = 0x55
byte_of LeftSquare = 0x5B
byte_of Backslash = 0x5C
byte_of RightSquare = 0x5D
byte_of SmallB = 0x62
byte_of SmallE = 0x65
byte_of SmallF = 0x66
byte_of SmallN = 0x6E
byte_of SmallR = 0x72
byte_of SmallT = 0x74
byte_of SmallU = 0x75
byte_of SmallX = 0x78
byte_of LeftCurly = 0x7B
byte_of RightCurly = 0x7D

-- the class of a byte: each of those single bytes is one; the others are classed by the first set here that has them, and those in
-- none of these sets are class 0. Classes of several bytes come first, then those of one, each numbered by their first bytes
unfoldable pub class_of : ℕ → ℕ
class_of b =
    cond (eqb b 0x09) 7
    (cond (eqb b 0x0A) 8
    (cond (eqb b 0x0D) 9
    (cond (eqb b 0x20) 10
    (cond (eqb b 0x22) 11
    (cond (eqb b 0x23) 12
    (cond (eqb b 0x27) 13
    (cond (eqb b 0x2C) 14
    (cond (eqb b 0x2E) 15
    (cond (eqb b 0x3D) 16
    (cond (eqb b 0x55) 17
    (cond (eqb b 0x5B) 18
    (cond (eqb b 0x5C) 19
    (cond (eqb b 0x5D) 20
    (cond (eqb b 0x62) 21
    (cond (eqb b 0x65) 22
    (cond (eqb b 0x66) 23
    (cond (eqb b 0x6E) 24
    (cond (eqb b 0x72) 25
    (cond (eqb b 0x74) 26
    (cond (eqb b 0x75) 27
    (cond (eqb b 0x78) 28
    (cond (eqb b 0x7B) 29
    (cond (eqb b 0x7D) 30
    (cond (digit b) 3
    (cond (hexdig b) 4
    (cond (unquoted_char b) 2
    (cond (continuation b) 5
    (cond (non_ascii b) 6
    (cond (basic_unescaped b) 1
    0)))))))))))))))))))))))))))))
