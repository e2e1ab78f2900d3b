-- STATEMENT. What a class is, said without its number: two bytes are of one class exactly where every set has both or neither, and every
-- single byte that a rule names is both or neither. Proved as `alike` and `apart` in proofs/MeanLaws.antt.
-- Assumes nothing.
use Rattle.std.specs.Prelude.{ℕ, ◌<◌, ◌≡◌, eqb}
use Rattle.table_classes.specs.declared.Set.{Set}
use Rattle.table_classes.specs.declared.Sign.{Sign}
use Rattle.table_classes.specs.Classed.{set_of, byte_of, class_of}

-- no set tells the two bytes apart
abbrev pub SameSets : ℕ → ℕ → Type 0
SameSets a b = (w : Set) → set_of w a ≡ set_of w b

-- no single byte that a rule names is one of them only
abbrev pub SameSigns : ℕ → ℕ → Type 0
SameSigns a b = (g : Sign) → eqb a (byte_of g) ≡ eqb b (byte_of g)

abbrev pub Alike : Type 0
Alike = (a b : ℕ) → a < 256 → b < 256 → class_of a ≡ class_of b → SameSets a b × SameSigns a b

abbrev pub Apart : Type 0
Apart = (a b : ℕ) → SameSets a b → SameSigns a b → class_of a ≡ class_of b
