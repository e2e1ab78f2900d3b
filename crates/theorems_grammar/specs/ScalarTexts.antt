-- STATEMENT. The grammar is one of Unicode's scalar values: its class beyond ASCII has them all and nothing else, and no rule
-- derives anything but them. Proved in proofs/ScalarTexts.antt.
use Rattle.std.specs.Prelude.{ℕ, ◌≤◌, ◌↔◌, List}
use Rattle.text_scalars.specs.Utf8.{Scalar, All}
use Rattle.decoder_rules.specs.declared.Edition.{Edition}
use Rattle.theorems_grammar.specs.Grammar.{NonAscii}
use Rattle.theorems_grammar.specs.Strings.{StringKind, Derived}

-- `non_ascii_is`: the grammar's non-ascii is exactly the scalar values from 80 on
abbrev pub NonAsciiIs : Type 0
NonAsciiIs = (c : ℕ) → NonAscii c ↔ (Scalar c × (0x80 ≤ c))

-- `derived_scalar`: each code point of a derived text is a scalar value
abbrev pub DerivedScalar : Type 0
DerivedScalar = (ed : Edition) (s : StringKind) (cs v : List ℕ) → Derived ed s cs v → All Scalar cs
