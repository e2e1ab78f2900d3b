-- RULE. The error that has a number.
use Rattle.std.specs.Prelude.{ℕ, Result, Ok, Err}
use mathlib.Core.{Bool.cond, List.List, List.[], List.◌∷◌}
use lib.{Dec.eqb}
use Rattle.text_refusals.specs.declared.{Refusal.Refusal, Refusal.TheVariants.NoKind}
use Rattle.decoder_rules.specs.{Pieces.error_number}
use Rattle.decoder_rules.specs.declared.{DecodeError.DecodeError}
use Rattle.decoder_rules.specs.declared.DecodeError.TheVariants.{LiteralMissingQuote, LiteralInvalid, MlLiteralMissingQuote, LoneCr, MlLiteralInvalid, BasicMissingQuote, BasicInvalid, MissingEscape, FewDigits, NotScalar, MlBasicMissingQuote, MlBasicInvalid, MissingNewline, EmptyKey, KeyInvalid}

-- all of them
abbrev pub errors : List DecodeError
errors =
    LiteralMissingQuote ∷ LiteralInvalid ∷ MlLiteralMissingQuote ∷ LoneCr ∷ MlLiteralInvalid ∷ BasicMissingQuote ∷ BasicInvalid
    ∷ MissingEscape ∷ FewDigits ∷ NotScalar ∷ MlBasicMissingQuote ∷ MlBasicInvalid ∷ MissingNewline ∷ EmptyKey ∷ KeyInvalid ∷ []

-- the one of some errors that has the number n, and refusal 7 with n itself where none has it
abbrev pub error_among : List DecodeError → ℕ → Result DecodeError Refusal
error_among [] n = Err (NoKind n)
error_among (e ∷ es) n = cond (eqb n (error_number e)) (Ok e) (error_among es n)

-- the error of a number
unfoldable pub error_of_number : ℕ → Result DecodeError Refusal
error_of_number n = error_among errors n
