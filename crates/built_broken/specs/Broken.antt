-- RULE. The first broken string of a document: which token and which error it is, and what `first_broken_in` answers. It is asked
-- of the tokens in turn, and of each first whether its own bytes are UTF-8; what follows the first token that is at fault
-- has no part in the answer, as is proved in crate theorems_broken.
use Rattle.std.specs.Prelude.{ℕ, Option, Some, None, Result, Ok, Err}
use mathlib.Core.{Bool.Bool, Bool.cond, List.List, List.[], List.◌∷◌}
use lib.{Dec.ltb, Dec.eqb, ListN.length, ListN.drop, ListN.get_or}
use Rattle.text_refusals.specs.{Refusals.limit}
use Rattle.text_scalars.specs.{Utf8Read.valid_prefix}
use Rattle.text_characters.specs.{Lead.fault_len}
use Rattle.text_refusals.specs.declared.{Refusal.Refusal, Refusal.TheVariants.NotUtf8, Refusal.TheVariants.TooLong, Refusal.TheVariants.NoEdition}
use Rattle.lexer_token.specs.{Encodings.kind_encoding, Records.text_of}
use Rattle.lexer_token.specs.declared.{Token.Token}
use Rattle.lexer.specs.{Tokens.tokens_of}
use Rattle.decoder_rules.specs.{Encodings.choice_by, Decoding.errors_by, Encodings.is_edition}
use Rattle.built_broken.specs.declared.{FirstError.FirstError}

-- ---- one token

-- all of the bytes are UTF-8
abbrev pub is_utf8 : List ℕ → Bool
is_utf8 s = eqb (valid_prefix s) (length s)

-- the errors that decoding reports of a token, in the edition that has the number: those of its text, by the encoding of its
-- kind. A token that is no string has no encoding, and no errors
abbrev pub token_errors : List ℕ → ℕ → Token → List (List ℕ)
token_errors doc edition t = errors_by (choice_by edition (kind_encoding t.kind)) (text_of doc t)

-- an error by its record: its number, its start and its end, counted from the start of the token
abbrev pub recorded_error : List ℕ → FirstError
recorded_error e = record { number = get_or e 0 0; start = get_or e 1 0; end = get_or e 2 0 }

-- what is answered: the first broken token and its first error, that no string is broken, or why neither is told
abbrev pub BrokenFound : Type 0
BrokenFound = Result (Option (Token × FirstError)) Refusal

-- a token that reports errors is the answer, with the first of them; else the answer is that of the tokens after it
abbrev pub broken_by : Token → List (List ℕ) → BrokenFound → BrokenFound
broken_by t [] after = after
broken_by t (e ∷ es) after = Ok (Some (t, recorded_error e))

-- ---- the tokens of a document

-- refusal 1, with the numbers that the UTF-8 check gives of the whole document
abbrev pub not_utf8 : List ℕ → BrokenFound
not_utf8 doc = Err (NotUtf8 (valid_prefix doc) (fault_len (drop (valid_prefix doc) doc)))

-- the tokens in turn: one that is not UTF-8 is refused and not decoded, and one that is broken is the answer; where no token
-- is either, no string is broken
unfoldable pub first_among : List ℕ → ℕ → List Token → BrokenFound
first_among doc edition [] = Ok None
first_among doc edition (t ∷ ts) =
    cond (is_utf8 (text_of doc t)) (broken_by t (token_errors doc edition t) (first_among doc edition ts)) (not_utf8 doc)

-- ---- the call

-- the answer for a document and the number of an edition: refusal 2, then 9; then 1 is given by the tokens in turn. A call that
-- names no edition reads TOML 1.0, whose number is 10
unfoldable pub broken_answer : List ℕ → ℕ → BrokenFound
broken_answer doc edition =
    cond (ltb limit (length doc)) (Err TooLong)
    (cond (is_edition edition) (first_among doc edition (tokens_of doc)) (Err (NoEdition edition)))
