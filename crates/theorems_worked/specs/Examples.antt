-- STATEMENT. The worked examples of tokens and of strings that the project's scope wants proved: a document with its tokens, or
-- a kind number and a text with its bytes and its errors. proofs/Worked.antt proves all of them, as one claim.
-- Assumes nothing.
use Rattle.std.specs.Prelude.{ℕ, ◌≡◌, List, [], ◌∷◌}
use Rattle.lexer.specs.Whole.{records_of}
use Rattle.decoder_rules.specs.Encodings.{choice_by}
use Rattle.decoder_rules.specs.Decoding.{bytes_by, errors_by}

pub data Example : Type 0 where
  lexes : (text : List ℕ) → (tokens : List (List ℕ)) → Example
  decodes : (kind : ℕ) → (text bytes : List ℕ) → (errors : List (List ℕ)) → Example

abbrev pub Holds : Example → Type 0
Holds (lexes text tokens) = records_of text ≡ tokens
Holds (decodes kind text bytes errors) =
    (bytes_by (choice_by 10 kind) text ≡ bytes) × (errors_by (choice_by 10 kind) text ≡ errors)

abbrev pub Hold : List Example → Type 0
Hold [] = Unit {0}
Hold (x ∷ xs) = Holds x × Hold xs

-- a token: its kind number, start, end and line
abbrev pub token : ℕ → ℕ → ℕ → ℕ → List ℕ
token kind start end line = kind ∷ start ∷ end ∷ line ∷ []

-- an error with an empty span
abbrev pub at : ℕ → ℕ → List ℕ
at number place = number ∷ place ∷ place ∷ []

abbrev pub examples : List Example
examples =
    -- the empty document, and only a byte order mark
    lexes [] (token 4 0 0 1 ∷ [])
    ∷ lexes (0xEF ∷ 0xBB ∷ 0xBF ∷ []) (token 4 3 3 1 ∷ [])
    -- '''a''''', and with one more apostrophe
    ∷ lexes (0x27 ∷ 0x27 ∷ 0x27 ∷ 0x61 ∷ 0x27 ∷ 0x27 ∷ 0x27 ∷ 0x27 ∷ 0x27 ∷ []) (token 1 0 9 1 ∷ token 4 9 9 1 ∷ [])
    ∷ lexes (0x27 ∷ 0x27 ∷ 0x27 ∷ 0x61 ∷ 0x27 ∷ 0x27 ∷ 0x27 ∷ 0x27 ∷ 0x27 ∷ 0x27 ∷ [])
    (token 1 0 9 1 ∷ token 39 9 10 1 ∷ token 4 10 10 1 ∷ [])
    -- 'a CR LF: only the LF ends an unclosed literal string
    ∷ lexes (0x27 ∷ 0x61 ∷ 0x0D ∷ 0x0A ∷ []) (token 39 0 3 1 ∷ token 10 3 4 1 ∷ token 4 4 4 2 ∷ [])
    -- basic "\u\u\u": U+FFFD three times, so that eight bytes decode to nine
    ∷ decodes 34 (0x22 ∷ 0x5C ∷ 0x75 ∷ 0x5C ∷ 0x75 ∷ 0x5C ∷ 0x75 ∷ 0x22 ∷ [])
    (0xEF ∷ 0xBF ∷ 0xBD ∷ 0xEF ∷ 0xBF ∷ 0xBD ∷ 0xEF ∷ 0xBF ∷ 0xBD ∷ []) (at 9 3 ∷ at 9 5 ∷ at 9 7 ∷ [])
    -- basic "\uD7FF", the last scalar value before the surrogates
    ∷ decodes 34 (0x22 ∷ 0x5C ∷ 0x75 ∷ 0x44 ∷ 0x37 ∷ 0x46 ∷ 0x46 ∷ 0x22 ∷ []) (0xED ∷ 0x9F ∷ 0xBF ∷ []) []
    -- basic "\uD800", the first surrogate
    ∷ decodes 34 (0x22 ∷ 0x5C ∷ 0x75 ∷ 0x44 ∷ 0x38 ∷ 0x30 ∷ 0x30 ∷ 0x22 ∷ []) (0xEF ∷ 0xBF ∷ 0xBD ∷ []) (at 10 3 ∷ [])
    -- basic "\q"
    ∷ decodes 34 (0x22 ∷ 0x5C ∷ 0x71 ∷ 0x22 ∷ []) (0x5C ∷ 0x71 ∷ []) (at 8 2 ∷ [])
    -- basic "a\": decoding takes the last mark for the closing, though lexing would not end the token there
    ∷ decodes 34 (0x22 ∷ 0x61 ∷ 0x5C ∷ 0x22 ∷ []) (0x61 ∷ 0x5C ∷ []) (at 8 3 ∷ [])
    -- ml-literal '''a'', not closed: all trailing apostrophes are dropped
    ∷ decodes 1 (0x27 ∷ 0x27 ∷ 0x27 ∷ 0x61 ∷ 0x27 ∷ 0x27 ∷ []) (0x61 ∷ []) (at 3 6 ∷ [])
    -- ml-basic """a"", not closed: its trailing quotation marks are kept
    ∷ decodes 2 (0x22 ∷ 0x22 ∷ 0x22 ∷ 0x61 ∷ 0x22 ∷ 0x22 ∷ []) (0x61 ∷ 0x22 ∷ 0x22 ∷ []) (at 11 6 ∷ [])
    -- ml-basic """a CR b"""
    ∷ decodes 2 (0x22 ∷ 0x22 ∷ 0x22 ∷ 0x61 ∷ 0x0D ∷ 0x62 ∷ 0x22 ∷ 0x22 ∷ 0x22 ∷ []) (0x61 ∷ 0x0D ∷ 0x62 ∷ []) (at 4 5 ∷ [])
    ∷ []
