-- STATEMENT. TOML's prose: each \u and \U names a Unicode scalar value. The grammar alone takes any digits. Here that is said
-- of each escape of a derivation; Strings.antt says it of the value, and `names_mean` in proofs/Values.antt proves that both
-- say the same. What \x names is a scalar value always: two digits reach U+00FF.
use Rattle.std.specs.Prelude.{ℕ}
use mathlib.Core.{Logic.◌↔◌, List.List}
use Rattle.text_scalars.specs.{Utf8.Scalar, Utf8.All}
use Rattle.decoder_rules.specs.declared.{Edition.Edition}
use Rattle.theorems_grammar.specs.Grammar.{EscapeSeqChar, x22, x5C, x62, x66, x6E, x72, x74, x75, x55, x65, x78, Escaped, escaped, BasicChar, BasicChars, BasicString, basic_string, MlbChar, MlbContent, mlb_char, escaped_nl, MlbContents, MlbContents1, MlbGroups, MlBasicBody, ml_basic_body, MlBasicString, ml_basic_string}

-- ---- in an escape

abbrev pub Names : {ed : Edition} {t : List ℕ} {v : ℕ} → EscapeSeqChar ed t v → Type 0
Names x22 = Unit {0}
Names x5C = Unit {0}
Names x62 = Unit {0}
Names x66 = Unit {0}
Names x6E = Unit {0}
Names x72 = Unit {0}
Names x74 = Unit {0}
Names (x75 {t = t} {v = v} digits) = Scalar v
Names (x55 {t = t} {v = v} digits) = Scalar v
Names x65 = Unit {0}
Names (x78 digits) = Unit {0}

abbrev pub EscapedNames : {ed : Edition} {t : List ℕ} {v : ℕ} → Escaped ed t v → Type 0
EscapedNames (escaped e) = Names e

-- ---- in a basic string

abbrev pub CharNames : {ed : Edition} {t : List ℕ} {v : ℕ} → BasicChar ed t v → Type 0
CharNames (BasicChar.unescaped c) = Unit {0}
CharNames (BasicChar.escaped_char e) = EscapedNames e

abbrev pub CharsName : {ed : Edition} {t v : List ℕ} → BasicChars ed t v → Type 0
CharsName BasicChars.stop = Unit {0}
CharsName (BasicChars.more c r) = CharNames c × CharsName r

abbrev pub BasicNames : {ed : Edition} {t v : List ℕ} → BasicString ed t v → Type 0
BasicNames (basic_string r) = CharsName r

-- ---- in a multi-line basic string

abbrev pub MlbCharNames : {ed : Edition} {t : List ℕ} {v : ℕ} → MlbChar ed t v → Type 0
MlbCharNames (MlbChar.unescaped c) = Unit {0}
MlbCharNames (MlbChar.escaped_char e) = EscapedNames e

abbrev pub ContentNames : {ed : Edition} {t w : List ℕ} → MlbContent ed t w → Type 0
ContentNames (mlb_char c) = MlbCharNames c
ContentNames (MlbContent.newline n) = Unit {0}
ContentNames (escaped_nl e) = Unit {0}

abbrev pub ContentsName : {ed : Edition} {t w : List ℕ} → MlbContents ed t w → Type 0
ContentsName MlbContents.stop = Unit {0}
ContentsName (MlbContents.more c r) = ContentNames c × ContentsName r

abbrev pub Contents1Name : {ed : Edition} {t w : List ℕ} → MlbContents1 ed t w → Type 0
Contents1Name (MlbContents1.some_content c r) = ContentNames c × ContentsName r

abbrev pub GroupsName : {ed : Edition} {t w : List ℕ} → MlbGroups ed t w → Type 0
GroupsName MlbGroups.stop = Unit {0}
GroupsName (MlbGroups.more q c g) = Contents1Name c × GroupsName g

abbrev pub BodyNames : {ed : Edition} {t w : List ℕ} → MlBasicBody ed t w → Type 0
BodyNames (ml_basic_body a g q) = ContentsName a × GroupsName g

abbrev pub MlBasicNames : {ed : Edition} {t w : List ℕ} → MlBasicString ed t w → Type 0
MlBasicNames (ml_basic_string n b) = BodyNames b

-- ---- `names_mean`: each escape names a scalar value exactly where the whole value is of scalar values

pub record NamesMean : Type 0 where
  pub basic : {ed : Edition} {t v : List ℕ} (d : BasicString ed t v) → BasicNames d ↔ All Scalar v
  pub ml_basic : {ed : Edition} {t v : List ℕ} (d : MlBasicString ed t v) → MlBasicNames d ↔ All Scalar v
