-- FOLLOWS. The state of a document that comes in parts as ten numbers, the state that ten numbers stand for, and the answers of
-- the calls as the numbers that are exported. That a state's numbers stand for that state is stated in Kept.antt.
use Rattle.std.specs.Prelude.{ℕ}
use mathlib.Core.{Bool.Bool, Bool.true, Bool.false, Bool.cond, Bool.◌||◌, List.List, List.[], List.◌∷◌}
use lib.{Dec.eqb, Dec.ltb, ListN.get_or}
use Rattle.lexer.specs.{Told.bit_of}
use Rattle.built_bytes.specs.declared.{Quote.Quote, Quote.TheVariants.Apostrophe, Quote.TheVariants.Quotation, Mode.Mode}
use Rattle.built_bytes.specs.declared.Mode.TheVariants.{Start, Bom1, Bom2, Idle, Blanks, Remark, Word, Return, One, Two, Line, Ml, MlOne, MlTwo, Shut, ShutOne}
use Rattle.built_characters.specs.declared.{Character.Character, Character.TheVariants.Whole, Character.TheVariants.Begun}
use Rattle.built_lexing.specs.{States.lexing_of}
use Rattle.built_parts.specs.{Feeding.parts_of}
use Rattle.built_parts.specs.declared.{Parts.Parts, Fed.Fed}
use Rattle.library_numbers.specs.{Numbers.flag, Numbers.count_numbers}
use Rattle.library_parts.specs.declared.{PartsNumbers.PartsNumbers, FedNumbers.FedNumbers}

-- ---- modes

abbrev pub by_quote : Quote → ℕ → ℕ → ℕ
by_quote Apostrophe a b = a
by_quote Quotation a b = b

-- the number of a mode
unfoldable pub mode_number : Mode → ℕ
mode_number Start = 0
mode_number Bom1 = 1
mode_number Bom2 = 2
mode_number Idle = 3
mode_number Blanks = 4
mode_number Remark = 5
mode_number Word = 6
mode_number Return = 7
mode_number (One q) = by_quote q 8 9
mode_number (Two q) = by_quote q 10 11
mode_number (Line q hidden) = cond hidden (by_quote q 14 15) (by_quote q 12 13)
mode_number (Ml q hidden) = cond hidden (by_quote q 18 19) (by_quote q 16 17)
mode_number (MlOne q) = by_quote q 20 21
mode_number (MlTwo q) = by_quote q 22 23
mode_number (Shut q) = by_quote q 24 25
mode_number (ShutOne q) = by_quote q 26 27

-- all modes but that between two tokens
abbrev pub modes : List Mode
modes =
    Start ∷ Bom1 ∷ Bom2 ∷ Blanks ∷ Remark ∷ Word ∷ Return ∷ One Apostrophe ∷ One Quotation ∷ Two Apostrophe ∷ Two Quotation
    ∷ Line Apostrophe false ∷ Line Quotation false ∷ Line Apostrophe true ∷ Line Quotation true
    ∷ Ml Apostrophe false ∷ Ml Quotation false ∷ Ml Apostrophe true ∷ Ml Quotation true
    ∷ MlOne Apostrophe ∷ MlOne Quotation ∷ MlTwo Apostrophe ∷ MlTwo Quotation
    ∷ Shut Apostrophe ∷ Shut Quotation ∷ ShutOne Apostrophe ∷ ShutOne Quotation ∷ []

-- of some modes the one that has the number n; between two tokens where none has it
abbrev pub mode_among : List Mode → ℕ → Mode
mode_among [] n = Idle
mode_among (m ∷ ms) n = cond (eqb n (mode_number m)) m (mode_among ms n)

-- the mode of a number
unfoldable pub mode_of : ℕ → Mode
mode_of n = mode_among modes n

-- ---- characters

abbrev pub left_of : Character → ℕ
left_of Whole = 0
left_of (Begun left low high) = left

abbrev pub low_of : Character → ℕ
low_of Whole = 0
low_of (Begun left low high) = low

abbrev pub high_of : Character → ℕ
high_of Whole = 0
high_of (Begun left low high) = high

-- a byte; 255 for a number that is none
abbrev pub byte_from : ℕ → ℕ
byte_from n = cond (ltb n 256) n 255

-- the character in progress, of which so many bytes are still to come
abbrev pub character_from : ℕ → ℕ → ℕ → Character
character_from left low high = cond (eqb left 0) Whole (Begun left (byte_from low) (byte_from high))

-- ---- states

-- whether nothing more is taken: that is told, or the number of the mode is none
abbrev pub is_ended : ℕ → ℕ → Bool
is_ended told mode = flag told || ltb 27 mode

unfoldable pub state_numbers : Parts → List ℕ
state_numbers p =
    mode_number p.lexing.mode ∷ p.lexing.start ∷ p.lexing.first ∷ p.lexing.at ∷ p.lexing.line
    ∷ left_of p.character ∷ low_of p.character ∷ high_of p.character ∷ p.valid ∷ bit_of p.ended ∷ []

-- the state that ten numbers stand for, whatever they are
unfoldable pub parts_from : List ℕ → Parts
parts_from n =
    parts_of
    (lexing_of (mode_of (get_or n 0 0)) (get_or n 1 0) (get_or n 2 0) (get_or n 3 0) (get_or n 4 0))
    (character_from (get_or n 5 0) (get_or n 6 0) (get_or n 7 0))
    (get_or n 8 0)
    (is_ended (get_or n 9 0) (get_or n 0 0))

-- ---- answers

abbrev pub start_numbers : Parts → PartsNumbers
start_numbers p = record { state = state_numbers p }

abbrev pub fed_numbers : Fed → FedNumbers
fed_numbers f = record { answer = count_numbers f.answer; state = state_numbers f.parts }
