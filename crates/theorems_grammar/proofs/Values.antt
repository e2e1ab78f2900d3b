-- Where each escape of a derivation names a scalar value, its value is of scalar values. The converse stands in NameLaws.antt.
use Prim.Native.Nat.{ℕ}
use mathlib.Core.Logic.{inl}
use mathlib.Core.Bool.{Bool, false}
use mathlib.Core.List.{List, [], ◌∷◌, ◌++◌}
use native.Mathlib.Omega.{arith}
use Rattle.text_scalars.specs.Utf8.{Scalar, All}
use Rattle.text_scalars.proofs.CutLaws.{all_append, all_parts}
use Rattle.decoder_rules.specs.declared.Edition.{Edition}
use Rattle.theorems_grammar.specs.Grammar.{apostrophe, quotation_mark, LiteralString, literal_string, EscapeSeqChar, x22, x5C, x62, x66, x6E, x72, x74, x75, x55, x65, x78, Escaped, escaped, BasicChar, BasicChars, BasicString, basic_string, ml_literal_string_delim, MlLiteralString, ml_literal_string, MlbChar, MlbContent, mlb_char, newline, escaped_nl, ml_basic_string_delim, MlBasicString, ml_basic_string}
use Rattle.theorems_grammar.specs.Scalars.{Names, EscapedNames, CharNames, CharsName, BasicNames, MlbCharNames, ContentNames, MlBasicNames, NamesMean}
use Rattle.theorems_grammar.specs.Strings.{StringKind, literal, basic, ml_literal, ml_basic, Derived}
use Rattle.theorems_grammar.proofs.ClassLaws.{no_true}
use Rattle.theorems_grammar.proofs.NameLaws.{basic_names, ml_basic_names}
use Rattle.theorems_grammar.proofs.ScalarTexts.{basic_scalar_text, ml_basic_scalar_text}
use Rattle.theorems_grammar.proofs.Escapes.{two_scalar}
use Rattle.theorems_grammar.proofs.Passing.{Seen}
use Rattle.theorems_grammar.proofs.MlRuns.{end, mark0, mark1, content}
use Rattle.theorems_grammar.proofs.MlBasicRuns.{kept, Run, body_run}

-- ---- escapes

escape_scalar : {ed : Edition} {t : List ℕ} {v : ℕ} (e : EscapeSeqChar ed t v) → Names e → Scalar v
escape_scalar x22 n = inl (omega arith)
escape_scalar x5C n = inl (omega arith)
escape_scalar x62 n = inl (omega arith)
escape_scalar x66 n = inl (omega arith)
escape_scalar x6E n = inl (omega arith)
escape_scalar x72 n = inl (omega arith)
escape_scalar x74 n = inl (omega arith)
escape_scalar (x75 d) n = n
escape_scalar (x55 d) n = n
escape_scalar x65 n = inl (omega arith)
escape_scalar (x78 d) n = two_scalar d

-- in one edition of TOML
module _ (ed : Edition) where
  escaped_scalar : {t : List ℕ} {v : ℕ} (e : Escaped ed t v) → EscapedNames e → Scalar v
  escaped_scalar (escaped e) n = escape_scalar e n

  -- ---- basic strings

  char_scalar : {t : List ℕ} {v : ℕ} (c : BasicChar ed t v) → CharNames c → All Scalar t → Scalar v
  char_scalar (BasicChar.unescaped u) n h = h.0
  char_scalar (BasicChar.escaped_char e) n h = escaped_scalar e n

  chars_scalars : {cs v : List ℕ} (d : BasicChars ed cs v) → CharsName d → All Scalar cs → All Scalar v
  chars_scalars BasicChars.stop n h = tt
  chars_scalars (BasicChars.more {t} {r} c d) names scalars =
      let parts = all_parts Scalar t r scalars in
      (char_scalar c names.0 parts.0, chars_scalars d names.1 parts.1)

  basic_scalars : {cs v : List ℕ} (d : BasicString ed cs v) → BasicNames d → All Scalar cs → All Scalar v
  basic_scalars (basic_string {t} d) n h = chars_scalars d n (all_parts Scalar t (quotation_mark ∷ []) h.1).0

  -- ---- literal strings

  literal_scalars : {cs v : List ℕ} → LiteralString cs v → All Scalar cs → All Scalar v
  literal_scalars (literal_string {s} d) h = (all_parts Scalar s (apostrophe ∷ []) h.1).0

  -- ---- between triple marks

  inner : (n b q : List ℕ) {x y z : ℕ} → All Scalar (x ∷ (y ∷ (z ∷ (n ++ (b ++ q))))) → All Scalar b
  inner n b q h = (all_parts Scalar b q (all_parts Scalar n (b ++ q) h.1.1.1).1).0

  ml_literal_scalars : {cs v : List ℕ} → MlLiteralString cs v → All Scalar cs → All Scalar v
  ml_literal_scalars (ml_literal_string {n} {b} o d) h = inner n b ml_literal_string_delim h

  mlb_char_scalar : {t : List ℕ} {v : ℕ} (c : MlbChar ed t v) → MlbCharNames c → All Scalar t → Scalar v
  mlb_char_scalar (MlbChar.unescaped u) n h = h.0
  mlb_char_scalar (MlbChar.escaped_char e) n h = escaped_scalar e n

  content_scalars : {t w : List ℕ} (c : MlbContent ed t w) → ContentNames c → All Scalar t → All Scalar w
  content_scalars (mlb_char c) names scalars = (mlb_char_scalar c names scalars, tt)
  content_scalars (newline l) n h = h
  content_scalars (escaped_nl e) n h = tt

  run_scalars : {s : Bool} {k : Seen} {t v : List ℕ} → (Run ed) s k t v → All Scalar t → All Scalar v
  run_scalars end h = tt
  run_scalars (mark0 r) h = (h.0, run_scalars r h.1)
  run_scalars (mark1 r) h = (h.0, run_scalars r h.1)
  run_scalars (content {t = t} {r} {w} {v} (kept c names drops) run) scalars =
      let parts = all_parts Scalar t r scalars in
      all_append Scalar w v (content_scalars c names parts.0) (run_scalars run parts.1)

  ml_basic_scalars : {cs v : List ℕ} (body : MlBasicString ed cs v) → MlBasicNames body → All Scalar cs → All Scalar v
  ml_basic_scalars (ml_basic_string {n} {b} opening body) names scalars =
      run_scalars ((body_run ed) false body names (λ e. no_true e)) (inner n b ml_basic_string_delim scalars)

  pub basic_value : {cs v : List ℕ} (d : BasicString ed cs v) → BasicNames d → All Scalar v
  basic_value d n = basic_scalars d n (basic_scalar_text d)

  pub ml_basic_value : {cs v : List ℕ} (d : MlBasicString ed cs v) → MlBasicNames d → All Scalar v
  ml_basic_value d n = ml_basic_scalars d n (ml_basic_scalar_text d)

  pub value_scalars : (s : StringKind) (cs v : List ℕ) → Derived ed s cs v → All Scalar cs → All Scalar v
  value_scalars literal cs v d h = literal_scalars d h
  value_scalars basic cs v (d, k) h = k
  value_scalars ml_literal cs v d h = ml_literal_scalars d h
  value_scalars ml_basic cs v (d, k) h = k

pub names_mean : NamesMean
names_mean =
    record {
      basic = λ {ed} d. (basic_value ed d, basic_names d);
      ml_basic = λ {ed} d. (ml_basic_value ed d, ml_basic_names d);
    }
