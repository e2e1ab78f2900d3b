-- Where the value of a derivation is of scalar values, each of its escapes names one.
use Prim.Native.Nat.{ℕ}
use mathlib.Core.List.{List, ◌++◌}
use Rattle.text_scalars.specs.Utf8.{Scalar, All}
use Rattle.text_scalars.proofs.CutLaws.{all_parts}
use Rattle.decoder_rules.specs.declared.Edition.{Edition}
use Rattle.theorems_grammar.specs.Grammar.{EscapeSeqChar, x22, x5C, x62, x66, x6E, x72, x74, x75, x55, x65, x78, Escaped, escaped, BasicChar, BasicChars, BasicString, basic_string, MlbChar, MlbContent, mlb_char, escaped_nl, MlbContents, MlbContents1, MlbGroups, ml_basic_body, MlBasicString, ml_basic_string}
use Rattle.theorems_grammar.specs.Scalars.{Names, EscapedNames, CharNames, CharsName, BasicNames, MlbCharNames, ContentNames, ContentsName, Contents1Name, GroupsName, MlBasicNames}

escape_names : {ed : Edition} {t : List ℕ} {v : ℕ} (e : EscapeSeqChar ed t v) → Scalar v → Names e
escape_names x22 h = tt
escape_names x5C h = tt
escape_names x62 h = tt
escape_names x66 h = tt
escape_names x6E h = tt
escape_names x72 h = tt
escape_names x74 h = tt
escape_names (x75 d) h = h
escape_names (x55 d) h = h
escape_names x65 h = tt
escape_names (x78 d) h = tt

module _ {ed : Edition} where
  escaped_names : {t : List ℕ} {v : ℕ} (e : Escaped ed t v) → Scalar v → EscapedNames e
  escaped_names (escaped e) h = escape_names e h

  char_names : {t : List ℕ} {v : ℕ} (c : BasicChar ed t v) → Scalar v → CharNames c
  char_names (BasicChar.unescaped c) h = tt
  char_names (BasicChar.escaped_char e) h = escaped_names e h

  chars_name : {t v : List ℕ} (d : BasicChars ed t v) → All Scalar v → CharsName d
  chars_name BasicChars.stop h = tt
  chars_name (BasicChars.more c r) h = (char_names c h.0, chars_name r h.1)

  pub basic_names : {t v : List ℕ} (d : BasicString ed t v) → All Scalar v → BasicNames d
  basic_names (basic_string r) h = chars_name r h

  mlb_char_names : {t : List ℕ} {v : ℕ} (c : MlbChar ed t v) → Scalar v → MlbCharNames c
  mlb_char_names (MlbChar.unescaped c) h = tt
  mlb_char_names (MlbChar.escaped_char e) h = escaped_names e h

  content_names : {t w : List ℕ} (c : MlbContent ed t w) → All Scalar w → ContentNames c
  content_names (mlb_char c) h = mlb_char_names c h.0
  content_names (MlbContent.newline n) h = tt
  content_names (escaped_nl e) h = tt

  contents_name : {t w : List ℕ} (d : MlbContents ed t w) → All Scalar w → ContentsName d
  contents_name MlbContents.stop h = tt
  contents_name (MlbContents.more {w = w} {v = v} c rest) scalars =
      let parts = all_parts Scalar w v scalars in
      (content_names c parts.0, contents_name rest parts.1)

  contents1_name : {t w : List ℕ} (d : MlbContents1 ed t w) → All Scalar w → Contents1Name d
  contents1_name (MlbContents1.some_content {w = w} {v = v} c rest) scalars =
      let parts = all_parts Scalar w v scalars in
      (content_names c parts.0, contents_name rest parts.1)

  groups_name : {t w : List ℕ} (d : MlbGroups ed t w) → All Scalar w → GroupsName d
  groups_name MlbGroups.stop h = tt
  groups_name (MlbGroups.more {q = q} {w = w} {v = v} quotes c groups) scalars =
      let parts = all_parts Scalar w v (all_parts Scalar q (w ++ v) scalars).1 in
      (contents1_name c parts.0, groups_name groups parts.1)

  pub ml_basic_names : {t v : List ℕ} (d : MlBasicString ed t v) → All Scalar v → MlBasicNames d
  ml_basic_names (ml_basic_string n (ml_basic_body {q = q} {w = w} {v = v} contents groups quotes)) scalars =
      let parts = all_parts Scalar w (v ++ q) scalars in
      (contents_name contents parts.0, groups_name groups (all_parts Scalar v q parts.1).0)
