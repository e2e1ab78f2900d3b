-- How far a comment is known to be UTF-8, from the byte after its sign on. None of it is a rule: no promise of the library
-- cites it.
-- Assumes nothing.
use Rattle.std.specs.Prelude.{ℕ, ◌<◌, ◌≤◌, Bool, ◌&&◌, List, length, nat_le, nat_lt}
use Rattle.text_classes.specs.Runs.{run}
use Rattle.text_classes.proofs.RunLaws.{SameEnd}
use Rattle.text_scalars.specs.Utf8Read.{Along}
use Rattle.lexer_scans.specs.Extents.{in_comment}

-- ASCII from 0E on, which a comment goes on with; the few bytes below are left out, the ends of lines among them
abbrev pub own_byte : ℕ → Bool
own_byte b = nat_le 0x0E b && nat_lt b 0x80

-- from `start` up to r whole characters stand, and the comment goes on over them
pub record Fronted (doc : List ℕ) (start r : ℕ) : Type 0 where
  pub along : Along doc start r
  pub same : SameEnd (run in_comment) doc start r

-- what was gone over up to `start` is gone over up to r, from wherever it began; r is `start` itself, or within the document
abbrev pub Onward : List ℕ → ℕ → ℕ → Type 0
Onward doc start r = (start ≤ r) × (start < r → r ≤ length doc) × ((from : ℕ) → Fronted doc from start → Fronted doc from r)
