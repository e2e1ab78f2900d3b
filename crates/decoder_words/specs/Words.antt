-- RULE. What is said of each error of decoding: toml_parser's message, and the list of what it expects at the error's place.
-- All in ASCII, at most 43 bytes each. The words here are values, with a text as a list of bytes; `worded`
-- says which value an answer is, whose text is a reference.
use Rattle.std.specs.Prelude.{ℕ, codes, slice_get, Option, option_map, Result, Ok, Err}
use Rattle.std.specs.Borrow.{Bor}
use mathlib.Core.{List.List, List.[], List.◌∷◌, List.◌++◌}
use lib.{ListN.length}
use Rattle.text_refusals.specs.declared.{Refusal.Refusal}
use Rattle.decoder_rules.specs.{Encodings.edition_of}
use Rattle.decoder_rules.specs.declared.{Edition.Edition, Edition.TheVariants.Toml10, Edition.TheVariants.Toml11, DecodeError.DecodeError}
use Rattle.decoder_rules.specs.declared.DecodeError.TheVariants.{LiteralMissingQuote, LiteralInvalid, MlLiteralMissingQuote, LoneCr, MlLiteralInvalid, BasicMissingQuote, BasicInvalid, MissingEscape, FewDigits, NotScalar, MlBasicMissingQuote, MlBasicInvalid, MissingNewline, EmptyKey, KeyInvalid}
use Rattle.decoder_words.specs.{ErrorNumbers.error_of_number}
use Rattle.decoder_words.specs.declared.{Said.Said, Said.TheVariants.Message, Said.TheVariants.Literal, Said.TheVariants.Description, Phrase.Phrase, Words.Words}

-- a text, and what it is
pub record Spoken : Type 0 where
  pub said : Said
  pub text : List ℕ

-- how many things an error expects, and one of its texts, where it has so many
pub record Worded : Type 0 where
  pub expected : ℕ
  pub phrase : Option Spoken

-- the values that the answers are
abbrev pub spoken_by : Phrase → Spoken
spoken_by p = record { said = p.said; text = p.text.now }

abbrev pub text_by : (Said × Bor (List ℕ)) → Spoken
text_by p = record { said = p.0; text = p.1.now }

abbrev pub worded_by : Words → Worded
worded_by w = record { expected = w.expected; phrase = option_map spoken_by w.phrase }

abbrev pub worded : Result Words Refusal → Result Worded Refusal
worded (Ok w) = Ok (worded_by w)
worded (Err r) = Err r

-- the message
abbrev pub error_message : DecodeError → List ℕ
error_message LiteralMissingQuote = codes "invalid literal string"
error_message LiteralInvalid = codes "invalid literal string"
error_message MlLiteralMissingQuote = codes "invalid multi-line literal string"
error_message LoneCr = codes "carriage return must be followed by newline"
error_message MlLiteralInvalid = codes "invalid multi-line literal string"
error_message BasicMissingQuote = codes "invalid basic string"
error_message BasicInvalid = codes "invalid basic string"
error_message MissingEscape = codes "missing escaped value"
error_message FewDigits = codes "too few unicode value digits"
error_message NotScalar = codes "invalid value"
error_message MlBasicMissingQuote = codes "invalid multi-line basic string"
error_message MlBasicInvalid = codes "invalid multi-line basic string"
error_message MissingNewline = codes "invalid multi-line basic string"
error_message EmptyKey = codes "unquoted keys cannot be empty"
error_message KeyInvalid = codes "invalid unquoted key"

-- the three that a text may be
abbrev pub message : List ℕ → Spoken
message text = record { said = Message; text = text }

abbrev pub description : List ℕ → Spoken
description text = record { said = Description; text = text }

abbrev pub literal : List ℕ → Spoken
literal text = record { said = Literal; text = text }

-- each character of a text as a literal of its own
abbrev pub literals : List ℕ → List Spoken
literals [] = []
literals (c ∷ s) = literal (c ∷ []) ∷ literals s

-- the letters of escapes, without the `t` that toml_parser's list does not have; TOML 1.1 adds the last two
abbrev pub escapes : Edition → List ℕ
escapes Toml10 = codes "bfnr\\\"uU"
escapes Toml11 = codes "bfnr\\\"uUex"

-- what error 12 expects
abbrev pub ml_basic_expects : List Spoken
ml_basic_expects = literals (codes "\\") ++ (description (codes "characters") ∷ [])

-- what errors 14 and 15 expect
abbrev pub key_expects : List Spoken
key_expects = description (codes "letters") ∷ description (codes "numbers") ∷ literals (codes "-_")

-- what is expected at the error's place, in toml_parser's order
abbrev pub error_expects : Edition → DecodeError → List Spoken
error_expects v LiteralMissingQuote = literals (codes "'")
error_expects v LiteralInvalid = description (codes "non-single-quote visible characters") ∷ []
error_expects v MlLiteralMissingQuote = literals (codes "'")
error_expects v LoneCr = literals (codes "\n")
error_expects v MlLiteralInvalid = description (codes "non-single-quote characters") ∷ []
error_expects v BasicMissingQuote = literals (codes "\"")
error_expects v BasicInvalid = description (codes "non-double-quote visible characters") ∷ literals (codes "\\")
error_expects v MissingEscape = literals (escapes v)
error_expects v FewDigits = description (codes "unicode hexadecimal value") ∷ []
error_expects v NotScalar = description (codes "unicode hexadecimal value") ∷ []
error_expects v MlBasicMissingQuote = literals (codes "\"")
error_expects v MlBasicInvalid = ml_basic_expects
error_expects v MissingNewline = literals (codes "\n")
error_expects v EmptyKey = key_expects
error_expects v KeyInvalid = key_expects

-- text number `which`: 0 is the message, the others are what is expected, and after the last there is none
unfoldable pub phrase_of : Edition → DecodeError → ℕ → Option Spoken
phrase_of v e which = slice_get (message (error_message e) ∷ error_expects v e) which

-- a text, with how many things are expected
abbrev pub words_of : Edition → DecodeError → ℕ → Worded
words_of v e which = record { expected = length (error_expects v e); phrase = phrase_of v e which }

-- the edition has a number, 10 or 11; any other is refused, and told
abbrev pub words_at : Result Edition Refusal → DecodeError → ℕ → Result Worded Refusal
words_at (Ok v) e which = Ok (words_of v e which)
words_at (Err r) e which = Err r

unfoldable pub words_in : DecodeError → ℕ → ℕ → Result Worded Refusal
words_in e edition which = words_at (edition_of edition) e which

abbrev pub words_by : Result DecodeError Refusal → ℕ → ℕ → Result Worded Refusal
words_by (Ok e) edition which = words_in e edition which
words_by (Err r) edition which = Err r

-- text number `which` of the error that has a number; refusal 7 where none has it, then 9
unfoldable pub error_words : ℕ → ℕ → ℕ → Result Worded Refusal
error_words number edition which = words_by (error_of_number number) edition which
