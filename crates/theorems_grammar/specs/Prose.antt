-- RULE. The two prose rules of TOML that make the reading of a multi-line string unique: the newline right after the opening
-- is always dropped, and a line-ending backslash drops all whitespace and newlines up to the next other character. The
-- grammar alone lets a derivation keep some of either.
use Rattle.std.specs.Prelude.{ℕ}
use mathlib.Core.{Path.◌≡◌, Bool.Bool, Bool.false, Bool.◌&&◌, Bool.◌||◌, List.List, List.[], List.◌∷◌, List.◌++◌}
use lib.{Dec.eqb}
use Rattle.decoder_rules.specs.declared.{Edition.Edition}
use Rattle.theorems_grammar.specs.Grammar.{OptNewline, MlLiteralString, ml_literal_string, MlbContent, mlb_char, escaped_nl, MlbContents, MlbContents1, MlbGroups, MlBasicBody, ml_basic_body, MlBasicString, ml_basic_string}

-- a newline stands at the front
unfoldable pub starts_newline : List ℕ → Bool
starts_newline [] = false
starts_newline (b ∷ []) = eqb b 0x0A
starts_newline (b ∷ (c ∷ s)) = eqb b 0x0A || (eqb b 0x0D && eqb c 0x0A)

-- a space, a tab or a newline stands at the front
unfoldable pub starts_blank : List ℕ → Bool
starts_blank [] = false
starts_blank (c ∷ s) = (eqb c 0x20 || eqb c 0x09) || starts_newline (c ∷ s)

-- ---- the newline after the opening is dropped: where the derivation takes none there, the body b begins with none
abbrev pub Trimmed : {n : List ℕ} → OptNewline n → List ℕ → Type 0
Trimmed OptNewline.absent b = starts_newline b ≡ false
Trimmed (OptNewline.present n) b = Unit {0}

abbrev pub MlLiteralObeys : {t v : List ℕ} → MlLiteralString t v → Type 0
MlLiteralObeys (ml_literal_string {n} {b} o d) = Trimmed o b

-- ---- a line-ending backslash drops all that it can: f, which follows it in the body, begins with nothing to be dropped
abbrev pub Drops : {ed : Edition} {t w : List ℕ} → MlbContent ed t w → List ℕ → Type 0
Drops (mlb_char c) f = Unit {0}
Drops (MlbContent.newline n) f = Unit {0}
Drops (escaped_nl e) f = starts_blank f ≡ false

abbrev pub ContentsDrop : {ed : Edition} {t w : List ℕ} → MlbContents ed t w → List ℕ → Type 0
ContentsDrop MlbContents.stop f = Unit {0}
ContentsDrop (MlbContents.more {r = r} c cs) f = Drops c (r ++ f) × ContentsDrop cs f

abbrev pub Contents1Drop : {ed : Edition} {t w : List ℕ} → MlbContents1 ed t w → List ℕ → Type 0
Contents1Drop (MlbContents1.some_content {r = r} c cs) f = Drops c (r ++ f) × ContentsDrop cs f

abbrev pub GroupsDrop : {ed : Edition} {t w : List ℕ} → MlbGroups ed t w → List ℕ → Type 0
GroupsDrop MlbGroups.stop f = Unit {0}
GroupsDrop (MlbGroups.more {r = r} q c g) f = Contents1Drop c (r ++ f) × GroupsDrop g f

abbrev pub BodyDrops : {ed : Edition} {t w : List ℕ} → MlBasicBody ed t w → Type 0
BodyDrops (ml_basic_body {g = g} {q = q} a gs o) = ContentsDrop a (g ++ q) × GroupsDrop gs q

abbrev pub MlBasicObeys : {ed : Edition} {t v : List ℕ} → MlBasicString ed t v → Type 0
MlBasicObeys (ml_basic_string {b = b} o d) = Trimmed o b × BodyDrops d
