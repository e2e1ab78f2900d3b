-- RULE. Which numbers of a kind and an edition ask for which decoder, and what the kinds differ in: the error of a
-- missing mark, the bytes that stand for themselves, and those that are not allowed.
use Rattle.std.specs.Prelude.{ℕ, ◌≡◌, Result, Ok, Err}
use mathlib.Core.{Bool.Bool, Bool.cond, Bool.not, Bool.◌||◌}
use lib.{Dec.eqb}
use Rattle.text_classes.specs.{Classes.literal_char, Classes.mll_char, Classes.basic_unescaped, Classes.mlb_unescaped, Classes.unquoted_char}
use Rattle.text_refusals.specs.declared.{Refusal.Refusal, Refusal.TheVariants.NoKind, Refusal.TheVariants.NoEdition}
use Rattle.lexer_token.specs.{KindNumbers.kind_number, declared.TokenKind.TheVariants.LiteralString as LiteralToken, declared.TokenKind.TheVariants.BasicString as BasicToken, declared.TokenKind.TheVariants.MlLiteralString as MlLiteralToken, declared.TokenKind.TheVariants.MlBasicString as MlBasicToken, declared.TokenKind.TheVariants.Atom}
use Rattle.decoder_rules.specs.declared.{Edition.Edition, Edition.TheVariants.Toml10, Edition.TheVariants.Toml11, Encoding.Encoding, Encoding.TheVariants.LiteralString, Encoding.TheVariants.BasicString, Encoding.TheVariants.MlLiteralString, Encoding.TheVariants.MlBasicString, Encoding.TheVariants.UnquotedKey, DecodeError.DecodeError, DecodeError.TheVariants.LiteralMissingQuote, DecodeError.TheVariants.MlLiteralMissingQuote, DecodeError.TheVariants.BasicMissingQuote, DecodeError.TheVariants.MlBasicMissingQuote, DecodeError.TheVariants.EmptyKey}

-- the numbers of the four string kinds, and an atom's for a key; any other is refused, and told
unfoldable pub choice_in : Edition → ℕ → Result Encoding Refusal
choice_in v kind =
    cond (eqb kind (kind_number LiteralToken)) (Ok LiteralString)
    (cond (eqb kind (kind_number BasicToken)) (Ok (BasicString v))
    (cond (eqb kind (kind_number MlLiteralToken)) (Ok MlLiteralString)
    (cond (eqb kind (kind_number MlBasicToken)) (Ok (MlBasicString v))
    (cond (eqb kind (kind_number Atom)) (Ok UnquotedKey)
    (Err (NoKind kind))))))

-- a number that is no edition is refused, and told, unless the kind is
abbrev pub unnamed : ℕ → Result Encoding Refusal → Result Encoding Refusal
unnamed edition (Ok e) = Err (NoEdition edition)
unnamed edition (Err r) = Err r

-- 10 for TOML 1.0, 11 for TOML 1.1
abbrev pub edition_number : Edition → ℕ
edition_number Toml10 = 10
edition_number Toml11 = 11

-- whether a number is that of an edition
abbrev pub is_edition : ℕ → Bool
is_edition number = eqb number (edition_number Toml10) || eqb number (edition_number Toml11)

-- the edition that a number names; a number that is no edition's is refused, and told
unfoldable pub edition_of : ℕ → Result Edition Refusal
edition_of number =
    cond (eqb number (edition_number Toml10)) (Ok Toml10)
    (cond (eqb number (edition_number Toml11)) (Ok Toml11) (Err (NoEdition number)))

-- what `Edition`'s `try_from` gives for a number
abbrev pub EditionGives : ℕ → Result Edition Refusal → Type 0
EditionGives number r = r ≡ edition_of number

-- what the numbers of an edition and a kind ask for; a call that names no edition reads TOML 1.0, whose number is 10
unfoldable pub choice_by : ℕ → ℕ → Result Encoding Refusal
choice_by edition kind =
    cond (eqb edition (edition_number Toml10)) (choice_in Toml10 kind)
    (cond (eqb edition (edition_number Toml11)) (choice_in Toml11 kind)
    (unnamed edition (choice_in Toml10 kind)))

-- the error of a quote mark that is missing, at either end; a key has no mark, and its error is that it is empty
abbrev pub mark_error : Encoding → DecodeError
mark_error LiteralString = LiteralMissingQuote
mark_error MlLiteralString = MlLiteralMissingQuote
mark_error (BasicString v) = BasicMissingQuote
mark_error (MlBasicString v) = MlBasicMissingQuote
mark_error UnquotedKey = EmptyKey

-- in an ml-literal body an apostrophe stands for itself, and so does an LF
unfoldable pub mll_plain : ℕ → Bool
mll_plain b = mll_char b || (eqb b 0x27 || eqb b 0x0A)

-- in an ml-basic body a quotation mark stands for itself, and so does an LF
unfoldable pub mlb_plain : ℕ → Bool
mlb_plain b = mlb_unescaped b || (eqb b 0x22 || eqb b 0x0A)

-- the bytes that stand for themselves in a body
abbrev pub plain : Encoding → ℕ → Bool
plain LiteralString = literal_char
plain MlLiteralString = mll_plain
plain (BasicString v) = basic_unescaped
plain (MlBasicString v) = mlb_plain
plain UnquotedKey = unquoted_char

-- neither plain nor a backslash: what error 7 is about
unfoldable pub basic_invalid : ℕ → Bool
basic_invalid b = not (basic_unescaped b || eqb b 0x5C)

-- neither plain nor a backslash nor a CR: what error 12 is about
unfoldable pub mlb_invalid : ℕ → Bool
mlb_invalid b = not (mlb_plain b || (eqb b 0x5C || eqb b 0x0D))
