-- RULE. What `encode` answers.
use Rattle.std.specs.Prelude.{ℕ, ◌-◌}
use mathlib.Core.{Bool.cond, List.List, List.[], List.◌++◌}
use lib.{ListN.length, ListN.replicate}
use Rattle.text_scalars.specs.{Utf8.encode_scalar, Utf8Read.is_scalar}
use Rattle.text_scalars.specs.declared.{Encoded.Encoded}

-- bytes at the front of an array of four, zeros after them
abbrev pub padded : List ℕ → Encoded
padded bytes = record { len = length bytes; bytes = bytes ++ replicate (4 - length bytes) 0 }

-- the encoding of a scalar value, and no bytes for a number that is none
unfoldable pub encoded_of : ℕ → Encoded
encoded_of c = cond (is_scalar c) (padded (encode_scalar c)) (padded [])
