-- RULE. A body is read in pieces, from left to right. A piece takes a byte or more; it gives those bytes, or a character,
-- or nothing; and it has at most one error, of the fifteen that there are.
use Rattle.std.specs.Prelude.{ℕ, zero, suc, pred, Option, Some, None}
use mathlib.Core.{Bool.Bool, Bool.true, Bool.false, List.List, List.[], List.◌∷◌, List.◌++◌}
use lib.{ListN.take}
use Rattle.text_scalars.specs.{Utf8.encode_scalar}
use Rattle.decoder_rules.specs.declared.{Piece.Piece, Given.Given, Given.TheVariants.Copy, Given.TheVariants.Char, Given.TheVariants.Nothing, DecodeError.DecodeError, Wrong.Wrong}
use Rattle.decoder_rules.specs.declared.DecodeError.TheVariants.{LiteralMissingQuote, LiteralInvalid, MlLiteralMissingQuote, LoneCr, MlLiteralInvalid, BasicMissingQuote, BasicInvalid, MissingEscape, FewDigits, NotScalar, MlBasicMissingQuote, MlBasicInvalid, MissingNewline, EmptyKey, KeyInvalid}

-- the number of an error
abbrev pub error_number : DecodeError → ℕ
error_number LiteralMissingQuote = 1
error_number LiteralInvalid = 2
error_number MlLiteralMissingQuote = 3
error_number LoneCr = 4
error_number MlLiteralInvalid = 5
error_number BasicMissingQuote = 6
error_number BasicInvalid = 7
error_number MissingEscape = 8
error_number FewDigits = 9
error_number NotScalar = 10
error_number MlBasicMissingQuote = 11
error_number MlBasicInvalid = 12
error_number MissingNewline = 13
error_number EmptyKey = 14
error_number KeyInvalid = 15

-- the bytes that a piece of n bytes at the front of s gives
abbrev pub given_of : Given → ℕ → List ℕ → List ℕ
given_of Copy n s = take n s
given_of (Char c) n s = encode_scalar c
given_of Nothing n s = []

unfoldable pub gives : Piece → List ℕ → List ℕ
gives p s = given_of p.given p.take s

-- an error's record: its number, where it starts and where it ends
abbrev pub error_at : DecodeError → ℕ → ℕ → List (List ℕ)
error_at error start end = (error_number error ∷ start ∷ end ∷ []) ∷ []

-- an error that goes from start to end
abbrev pub wrong : DecodeError → ℕ → ℕ → Option Wrong
wrong error start end = Some (record { error = error; start = start; end = end })

-- the error that a piece has, if any
abbrev pub notes_of : Option Wrong → List (List ℕ)
notes_of None = []
notes_of (Some w) = error_at w.error w.start w.end

unfoldable pub notes : Piece → List (List ℕ)
notes p = notes_of p.verdict

-- the same, whatever stands there
abbrev pub notes_at : Piece → List ℕ → List (List ℕ)
notes_at p s = notes p

-- says the piece at the front of a body: whether it is within a line-ending escape, its place in the text, the body from there on
abbrev pub Pieces : Type 0
Pieces = Bool → ℕ → List ℕ → Piece

-- what g says of each piece, joined: k bytes are skipped first, as the piece before took them. Without that count, as
-- `collected_none` and `collected_step` of proofs/BodyLaws.antt say for each kind of body: of no bytes nothing; else what g
-- says of the first piece, and then what is collected of the rest after the bytes that it takes
abbrev pub collect : {A : Type 0} → Pieces → (Piece → List ℕ → List A) → ℕ → Bool → ℕ → List ℕ → List A
collect P g k d at [] = []
collect P g zero d at (b ∷ r) =
    g (P d at (b ∷ r)) (b ∷ r) ++ collect P g (pred (P d at (b ∷ r)).take) (P d at (b ∷ r)).dropping (suc at) r
collect P g (suc k) d at (b ∷ r) = collect P g k d (suc at) r

-- ---- the three ways to make a piece, each without an error and with one
-- n bytes as they are
abbrev pub copy_piece : ℕ → Piece
copy_piece n = record { take = n; given = Copy; verdict = None; dropping = false }

abbrev pub bad_copy : ℕ → DecodeError → ℕ → ℕ → Piece
bad_copy n error start end = record { take = n; given = Copy; verdict = wrong error start end; dropping = false }

-- a character for n bytes; its error, if any, has an empty span
abbrev pub char_piece : ℕ → ℕ → Piece
char_piece n c = record { take = n; given = Char c; verdict = None; dropping = false }

abbrev pub bad_char : ℕ → ℕ → DecodeError → ℕ → Piece
bad_char n c error place = record { take = n; given = Char c; verdict = wrong error place place; dropping = false }

-- nothing for n bytes of a line-ending escape, which goes on after them
abbrev pub drop_piece : ℕ → Piece
drop_piece n = record { take = n; given = Nothing; verdict = None; dropping = true }

abbrev pub bad_drop : ℕ → DecodeError → ℕ → Piece
bad_drop n error place = record { take = n; given = Nothing; verdict = wrong error place place; dropping = true }
