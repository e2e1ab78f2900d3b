-- What the helpers promise: the table as the code has it, which classes make a set, a bit for each, and the class of a single byte. None
-- of it is a rule: no promise of a public function cites it.
-- Assumes nothing.
use Rattle.std.specs.Prelude.{ℕ, ◌/◌, ◌%◌, ◌^◌, Bool, List, [], ◌∷◌, eqb, get_or}
use Rattle.std.specs.Int.Bits.{bit_and}
use Rattle.table_classes.specs.declared.Set.{Set}
use Rattle.table_classes.specs.declared.Set.TheVariants.{Wschar, TokenStart, NonAscii, LiteralChar, MllChar, BasicUnescaped, MlbUnescaped, Digit, Hexdig, UnquotedChar, Continuation, InAtom, InComment, InLiteral, InBasic, InMlLiteral, InMlBasic, MllPlain, MlbPlain, BasicInvalid, MlbInvalid, Skipped}
use Rattle.table_classes.specs.declared.Sign.{Sign}
use Rattle.table_classes.specs.declared.Sign.TheVariants.{Tab, Lf, Cr, Space, QuotationMark, NumberSign, Apostrophe, Comma, Dot, Equals, BigU, LeftSquare, Backslash, RightSquare, SmallB, SmallE, SmallF, SmallN, SmallR, SmallT, SmallU, SmallX, LeftCurly, RightCurly}

-- sixteen entries to a row
unfoldable pub table : List (List ℕ)
table =
    (0 ∷ 0 ∷ 0 ∷ 0 ∷ 0 ∷ 0 ∷ 0 ∷ 0 ∷ 0 ∷ 7 ∷ 8 ∷ 0 ∷ 0 ∷ 9 ∷ 0 ∷ 0 ∷ []) ∷
    (0 ∷ 0 ∷ 0 ∷ 0 ∷ 0 ∷ 0 ∷ 0 ∷ 0 ∷ 0 ∷ 0 ∷ 0 ∷ 0 ∷ 0 ∷ 0 ∷ 0 ∷ 0 ∷ []) ∷
    (10 ∷ 1 ∷ 11 ∷ 12 ∷ 1 ∷ 1 ∷ 1 ∷ 13 ∷ 1 ∷ 1 ∷ 1 ∷ 1 ∷ 14 ∷ 2 ∷ 15 ∷ 1 ∷ []) ∷
    (3 ∷ 3 ∷ 3 ∷ 3 ∷ 3 ∷ 3 ∷ 3 ∷ 3 ∷ 3 ∷ 3 ∷ 1 ∷ 1 ∷ 1 ∷ 16 ∷ 1 ∷ 1 ∷ []) ∷
    (1 ∷ 4 ∷ 4 ∷ 4 ∷ 4 ∷ 4 ∷ 4 ∷ 2 ∷ 2 ∷ 2 ∷ 2 ∷ 2 ∷ 2 ∷ 2 ∷ 2 ∷ 2 ∷ []) ∷
    (2 ∷ 2 ∷ 2 ∷ 2 ∷ 2 ∷ 17 ∷ 2 ∷ 2 ∷ 2 ∷ 2 ∷ 2 ∷ 18 ∷ 19 ∷ 20 ∷ 1 ∷ 2 ∷ []) ∷
    (1 ∷ 4 ∷ 21 ∷ 4 ∷ 4 ∷ 22 ∷ 23 ∷ 2 ∷ 2 ∷ 2 ∷ 2 ∷ 2 ∷ 2 ∷ 2 ∷ 24 ∷ 2 ∷ []) ∷
    (2 ∷ 2 ∷ 25 ∷ 2 ∷ 26 ∷ 27 ∷ 2 ∷ 2 ∷ 28 ∷ 2 ∷ 2 ∷ 29 ∷ 1 ∷ 30 ∷ 1 ∷ 0 ∷ []) ∷
    (5 ∷ 5 ∷ 5 ∷ 5 ∷ 5 ∷ 5 ∷ 5 ∷ 5 ∷ 5 ∷ 5 ∷ 5 ∷ 5 ∷ 5 ∷ 5 ∷ 5 ∷ 5 ∷ []) ∷
    (5 ∷ 5 ∷ 5 ∷ 5 ∷ 5 ∷ 5 ∷ 5 ∷ 5 ∷ 5 ∷ 5 ∷ 5 ∷ 5 ∷ 5 ∷ 5 ∷ 5 ∷ 5 ∷ []) ∷
    (5 ∷ 5 ∷ 5 ∷ 5 ∷ 5 ∷ 5 ∷ 5 ∷ 5 ∷ 5 ∷ 5 ∷ 5 ∷ 5 ∷ 5 ∷ 5 ∷ 5 ∷ 5 ∷ []) ∷
    (5 ∷ 5 ∷ 5 ∷ 5 ∷ 5 ∷ 5 ∷ 5 ∷ 5 ∷ 5 ∷ 5 ∷ 5 ∷ 5 ∷ 5 ∷ 5 ∷ 5 ∷ 5 ∷ []) ∷
    (6 ∷ 6 ∷ 6 ∷ 6 ∷ 6 ∷ 6 ∷ 6 ∷ 6 ∷ 6 ∷ 6 ∷ 6 ∷ 6 ∷ 6 ∷ 6 ∷ 6 ∷ 6 ∷ []) ∷
    (6 ∷ 6 ∷ 6 ∷ 6 ∷ 6 ∷ 6 ∷ 6 ∷ 6 ∷ 6 ∷ 6 ∷ 6 ∷ 6 ∷ 6 ∷ 6 ∷ 6 ∷ 6 ∷ []) ∷
    (6 ∷ 6 ∷ 6 ∷ 6 ∷ 6 ∷ 6 ∷ 6 ∷ 6 ∷ 6 ∷ 6 ∷ 6 ∷ 6 ∷ 6 ∷ 6 ∷ 6 ∷ 6 ∷ []) ∷
    (6 ∷ 6 ∷ 6 ∷ 6 ∷ 6 ∷ 6 ∷ 6 ∷ 6 ∷ 6 ∷ 6 ∷ 6 ∷ 6 ∷ 6 ∷ 6 ∷ 6 ∷ 6 ∷ []) ∷
    []

abbrev pub entry_of : ℕ → ℕ
entry_of b = get_or (get_or table (b / 16) []) (b % 16) 0

-- the classes of a set: bit k is on for class k
abbrev pub mask_of : Set → ℕ
mask_of Wschar = 0x00000480
mask_of TokenStart = 0x6015D780
mask_of NonAscii = 0x00000060
mask_of LiteralChar = 0x7FFFDCFE
mask_of MllChar = 0x7FFFDCFE
mask_of BasicUnescaped = 0x7FF7F4FE
mask_of MlbUnescaped = 0x7FF7F4FE
mask_of Digit = 0x00000008
mask_of Hexdig = 0x00E00018
mask_of UnquotedChar = 0x1FE2001C
mask_of Continuation = 0x00000020
mask_of InAtom = 0x1FEA287F
mask_of InComment = 0x7FFFFCFF
mask_of InLiteral = 0x7FFFDEFF
mask_of InBasic = 0x7FF7F6FF
mask_of InMlLiteral = 0x7FFFDFFF
mask_of InMlBasic = 0x7FF7F7FF
mask_of MllPlain = 0x7FFFFDFE
mask_of MlbPlain = 0x7FF7FDFE
mask_of BasicInvalid = 0x00000B01
mask_of MlbInvalid = 0x00000001
mask_of Skipped = 0x00000780

abbrev pub has_class : ℕ → ℕ → Bool
has_class mask k = eqb (bit_and (mask / 2 ^ k) 1) 1

-- the class that has a single byte alone
abbrev pub alone_of : Sign → ℕ
alone_of Tab = 7
alone_of Lf = 8
alone_of Cr = 9
alone_of Space = 10
alone_of QuotationMark = 11
alone_of NumberSign = 12
alone_of Apostrophe = 13
alone_of Comma = 14
alone_of Dot = 15
alone_of Equals = 16
alone_of BigU = 17
alone_of LeftSquare = 18
alone_of Backslash = 19
alone_of RightSquare = 20
alone_of SmallB = 21
alone_of SmallE = 22
alone_of SmallF = 23
alone_of SmallN = 24
alone_of SmallR = 25
alone_of SmallT = 26
alone_of SmallU = 27
alone_of SmallX = 28
alone_of LeftCurly = 29
alone_of RightCurly = 30
