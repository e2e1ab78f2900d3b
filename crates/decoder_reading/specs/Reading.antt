-- FOLLOWS. How much a body gives.
-- Assumes nothing.
use Rattle.std.specs.Prelude.{ℕ, List, length}
use Rattle.decoder_rules.specs.declared.Encoding.{Encoding}
use Rattle.decoder_pieces.specs.declared.body.Body.{Body}
use Rattle.decoder_pieces.specs.Steps.{bytes_left, errors_left}
use Rattle.decoder_reading.specs.declared.Counts.{Counts}

-- how many bytes a body of the text t gives, and how many errors it has
abbrev pub counts_of : Encoding → List ℕ → Body → Counts
counts_of e t b = record { bytes = length (bytes_left e t b); errors = length (errors_left e t b) }
