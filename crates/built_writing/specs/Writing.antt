-- RULE. How a value is written, what `write_value` answers, and what it leaves in the output. A value is bytes, and each of
-- its bytes is spelt by itself: every byte of a character beyond ASCII stands for itself in either kind of string.
-- That the text is the shortest, and the smallest of the shortest, is proved in crate theorems_writing.
use Rattle.std.specs.Prelude.{ℕ, ◌+◌, ◌/◌, ◌%◌, Option, Some, None, Result, Ok, Err, ⊤}
use mathlib.Core.{Bool.cond, List.List, List.[], List.◌∷◌, List.◌++◌}
use lib.{Dec.ltb, Dec.eqb, ListN.length, ListN.drop}
use Rattle.text_classes.specs.{Classes.literal_char, Classes.basic_unescaped, Runs.run}
use Rattle.text.specs.{CheckMeans.check_of}
use Rattle.text_refusals.specs.declared.{Refusal.Refusal, Refusal.TheVariants.ShortOutput}

-- ---- bytes that do not stand for themselves in a basic string

-- a number below 16 as a hex digit, in capitals: 0 to 9, A to F
abbrev pub hex_digit : ℕ → ℕ
hex_digit d = cond (ltb d 10) (0x30 + d) (0x37 + d)

-- the letter after the backslash, where TOML has one for the byte; else the byte is spelt by its code
unfoldable pub spelling_of : ℕ → Option ℕ
spelling_of b =
    cond (eqb b 0x22) (Some 0x22)  -- "
    (cond (eqb b 0x5C) (Some 0x5C)  -- \
    (cond (eqb b 0x08) (Some 0x62)  -- b
    (cond (eqb b 0x0C) (Some 0x66)  -- f
    (cond (eqb b 0x0A) (Some 0x6E)  -- n
    (cond (eqb b 0x0D) (Some 0x72)  -- r
    None)))))

-- a backslash and the letter; or \u00 and the two digits of the code
abbrev pub spelling : Option ℕ → ℕ → List ℕ
spelling (Some letter) b = 0x5C ∷ (letter ∷ [])
spelling None b = 0x5C ∷ (0x75 ∷ (0x30 ∷ (0x30 ∷ (hex_digit (b / 16) ∷ (hex_digit (b % 16) ∷ [])))))

-- how such a byte is spelt
abbrev pub escape_of : ℕ → List ℕ
escape_of b = spelling (spelling_of b) b

-- ---- the text

-- a byte stands for itself wherever it may
unfoldable pub spell : ℕ → List ℕ
spell b = cond (basic_unescaped b) (b ∷ []) (escape_of b)

-- the bytes of a value, each so, one after the other
unfoldable pub spelt : List ℕ → List ℕ
spelt [] = []
spelt (b ∷ s) = spell b ++ spelt s

-- between apostrophes, as it is
abbrev pub literal_text : List ℕ → List ℕ
literal_text value = 0x27 ∷ (value ++ (0x27 ∷ []))

-- between quotation marks, spelt
abbrev pub basic_text : List ℕ → List ℕ
basic_text value = 0x22 ∷ (spelt value ++ (0x22 ∷ []))

-- a literal string where each byte may stand in one, else a basic string
unfoldable pub written : List ℕ → List ℕ
written value = cond (eqb (run literal_char value) (length value)) (literal_text value) (basic_text value)

-- ---- the call

-- the answer for a text and an output of o bytes: refusal 4 where it does not fit
unfoldable pub fit_text : List ℕ → ℕ → Result ℕ Refusal
fit_text text o = cond (ltb o (length text)) (Err (ShortOutput (length text))) (Ok (length text))

-- refusals 2 and 1 are the check's
abbrev pub written_by : Result ⊤ Refusal → List ℕ → ℕ → Result ℕ Refusal
written_by (Err r) value o = Err r
written_by (Ok u) value o = fit_text (written value) o

-- the answer for a value and an output of o bytes
unfoldable pub write_answer : List ℕ → ℕ → Result ℕ Refusal
write_answer value o = written_by (check_of value) value o

-- an output that held `old` after that answer: the text from the front, and the rest untouched; all of it untouched where
-- the call refused
abbrev pub written_after : Result ℕ Refusal → List ℕ → List ℕ → List ℕ
written_after (Ok bytes) text old = text ++ drop (length text) old
written_after (Err r) text old = old
