-- A derived text that its own quote mark does not follow is lexed as one token of its kind.
use Prim.Native.Nat.{ℕ, suc, ◌+◌, ◌<◌}
use mathlib.Core.Path.{◌≡◌, ◌∙◌, ap}
use mathlib.Core.Bool.{false}
use mathlib.Core.List.{List, [], ◌∷◌, ◌++◌, append_assoc}
use native.Mathlib.Omega.{arith}
use lib.ListN.{length, drop, length-append}
use Rattle.text_classes.specs.Classes.{wschar}
use Rattle.text_scalars.specs.Utf8.{encode_scalar, encodes, All}
use Rattle.text_scalars.proofs.EncodeLaws.{encode_length}
use Rattle.lexer_token.specs.declared.TokenKind.{TokenKind}
use Rattle.text_classes.specs.Runs.{triple}
use Rattle.lexer_scans.specs.Extents.{line_tail}
use Rattle.lexer.specs.Table.{kind_by, kind_of, extent, token_len}
use Rattle.decoder_rules.specs.declared.Edition.{Edition}
use Rattle.theorems_grammar.specs.Grammar.{LiteralChars, LiteralString, literal_string, BasicUnescaped, EscapeSeqChar, escaped, unescaped, escaped_char, BasicChars, BasicString, basic_string, MlLiteralString, ml_literal_string, MlBasicString, ml_basic_string}
use Rattle.theorems_grammar.specs.Strings.{StringKind, literal, basic, ml_literal, ml_basic, token_kind, mark, Apart, Derived}
use Rattle.theorems_grammar.proofs.ListLaws.{all_weaken}
use Rattle.theorems_grammar.proofs.NameLaws.{ml_basic_names}
use Rattle.theorems_grammar.proofs.Encoded.{char_bytes, chars_bytes, encodes_ascii}
use Rattle.theorems_grammar.proofs.Escapes.{shape, escape_ascii}
use Rattle.theorems_grammar.proofs.LineMarks.{marked, marked_long, encodes_marked}
use Rattle.theorems_grammar.proofs.TripleMarks.{encodes_fenced}
use Rattle.theorems_grammar.proofs.Passing.{quotation, apostrophes, pass_all, triple_no, triple_two, triple_yes, InLine, line_high, literal_in, basic_in, digit_in, line_pass, line_hidden, line_close}
use Rattle.theorems_grammar.proofs.MlLiteralStrings.{ml_literal_lexed}
use Rattle.theorems_grammar.proofs.MlBasicStrings.{ml_basic_lexed}

-- t is the token at the front of t ++ rest, of the kind k
abbrev pub IsToken : TokenKind → List ℕ → List ℕ → Type 0
IsToken k t rest = (kind_of (t ++ rest) ≡ k) × (token_len (t ++ rest) ≡ length t)

token_of : (k : TokenKind) (t rest : List ℕ) → kind_of (t ++ rest) ≡ k → extent k (t ++ rest) ≡ length t → IsToken k t rest
unfolding token_len
token_of k t rest kind long = (kind, ap (λ (x : TokenKind). extent x (t ++ rest)) kind ∙ long)

-- ---- the kind, by the marks at the front

kind_apostrophe : (s : List ℕ) → triple 39 (39 ∷ s) ≡ false → kind_of (39 ∷ s) ≡ token_kind literal
unfolding kind_of kind_by wschar
kind_apostrophe s h = rw h

kind_quote : (s : List ℕ) → triple 34 (34 ∷ s) ≡ false → kind_of (34 ∷ s) ≡ token_kind basic
unfolding kind_of kind_by wschar
kind_quote s h = rw h

kind_apostrophes : (s : List ℕ) → kind_of (39 ∷ (39 ∷ (39 ∷ s))) ≡ token_kind ml_literal
unfolding kind_of kind_by wschar
kind_apostrophes s = rw (triple_yes 39 s)

kind_quotes : (s : List ℕ) → kind_of (34 ∷ (34 ∷ (34 ∷ s))) ≡ token_kind ml_basic
unfolding kind_of kind_by wschar
kind_quotes s = rw (triple_yes 34 s)

-- ---- between single marks

marked_rest : (q : ℕ) → q < 0x80 → (s rest : List ℕ) → encodes (marked q s) ++ rest ≡ q ∷ (encodes s ++ (q ∷ rest))
marked_rest q h s rest = ap (λ x. x ++ rest) (encodes_marked q h s) ∙ ap (q ∷◌) (append_assoc (encodes s) (q ∷ []) rest)

encoded_long : (q : ℕ) → q < 0x80 → (s : List ℕ) → length (encodes (marked q s)) ≡ suc (suc (length (encodes s)))
encoded_long q h s = ap length (encodes_marked q h s) ∙ marked_long q (encodes s)

-- a string on one line begins with no three marks: after its opening comes a byte that is no mark, or its closing
triple_line : (q : ℕ) (x : List ℕ) → All (InLine q) x → (rest : List ℕ) → Apart q rest → triple q (q ∷ (x ++ (q ∷ rest))) ≡ false
triple_line q [] h rest a = triple_two q rest a
triple_line q (b ∷ bytes) inside rest apart = triple_no q b (bytes ++ (q ∷ rest)) inside.0.0.0

-- ---- literal

literals_in : {s : List ℕ} → LiteralChars s → All (InLine 39) s
literals_in LiteralChars.stop = tt
literals_in (LiteralChars.more class rest) = (literal_in class, literals_in rest)

literal_bytes : {s : List ℕ} → LiteralChars s → All (InLine 39) (encodes s)
literal_bytes {s} d = chars_bytes (line_high apostrophes) s (literals_in d)

literal_token : {cs v : List ℕ} → LiteralString cs v → (rest : List ℕ) → Apart 39 rest
    → IsToken (token_kind literal) (encodes cs) rest
unfolding extent
literal_token (literal_string {s} chars) rest apart =
    let text = marked_rest 39 (omega arith) s rest in
    let passed = pass_all (line_tail 39 false) (InLine 39) (line_pass 39) (encodes s) (literal_bytes chars) (39 ∷ rest) in
    token_of (token_kind literal) (encodes (marked 39 s)) rest
    (ap kind_of text ∙ kind_apostrophe (encodes s ++ (39 ∷ rest)) (triple_line 39 (encodes s) (literal_bytes chars) rest apart))
    (ap (λ x. suc (line_tail 39 false (drop 1 x))) text ∙ omega (arith, line_close 39 rest, encoded_long 39 (omega arith) s))

-- ---- basic

char_in : {c : ℕ} → BasicUnescaped c → All (InLine 34) (encode_scalar c)
char_in {c} class = char_bytes (line_high quotation) c (basic_in class)

-- in one edition of TOML
module _ (ed : Edition) where
  slashed : {t : List ℕ} {v : ℕ} → EscapeSeqChar ed t v → (r : List ℕ) → encodes ((0x5C ∷ t) ++ r) ≡ 0x5C ∷ (t ++ encodes r)
  slashed {t} char r = encodes_ascii (0x5C ∷ t) r (omega arith, escape_ascii char)

  escape_line : {t : List ℕ} {v : ℕ} → EscapeSeqChar ed t v → (s : List ℕ)
      → line_tail 34 false (92 ∷ (t ++ s)) ≡ suc (length t) + line_tail 34 false s
  escape_line {t} char s =
      let form = shape char in
      let digits = all_weaken digit_in form.digits form.each in
      let hidden = line_hidden form.letter (form.digits ++ s) (λ is-lf. omega (arith, form.visible)) in
      let others = pass_all (line_tail 34 false) (InLine 34) (line_pass 34) form.digits digits s in
      ap (λ x. line_tail 34 false (92 ∷ (x ++ s))) form.is ∙ omega (arith, ap length form.is)

  basic_tail : {s v : List ℕ} → BasicChars ed s v → (rest : List ℕ)
      → line_tail 34 false (encodes s ++ (34 ∷ rest)) ≡ suc (length (encodes s))
  basic_tail BasicChars.stop rest = line_close 34 rest
  basic_tail (BasicChars.more {r = r} (unescaped {c} class) chars) rest =
      let passed =
      pass_all (line_tail 34 false) (InLine 34) (line_pass 34) (encode_scalar c) (char_in class) (encodes r ++ (34 ∷ rest)) in
      rw (append_assoc (encode_scalar c) (encodes r) (34 ∷ rest), length-append (encode_scalar c) (encodes r))
      (omega (arith, basic_tail chars rest))
  basic_tail (BasicChars.more {r = r} (escaped_char (escaped {t} char)) chars) rest =
      rw (slashed char r, append_assoc t (encodes r) (34 ∷ rest), length-append t (encodes r))
      (omega (arith, escape_line char (encodes r ++ (34 ∷ rest)), basic_tail chars rest))

  basic_triple : {s v : List ℕ} → BasicChars ed s v → (rest : List ℕ) → Apart 34 rest
      → triple 34 (34 ∷ (encodes s ++ (34 ∷ rest))) ≡ false
  basic_triple BasicChars.stop rest apart = triple_two 34 rest apart
  basic_triple (BasicChars.more {r = r} (unescaped {c} x) chars) rest apart =
      rw (append_assoc (encode_scalar c) (encodes r) (34 ∷ rest))
      (first (encode_scalar c) (encodes r ++ (34 ∷ rest)) (char_in x) (encode_length c).0)
    where
      first : (x s : List ℕ) → All (InLine 34) x → 0 < length x → triple 34 (34 ∷ (x ++ s)) ≡ false
      first [] s inside some = absurd (omega arith)
      first (b ∷ x) s inside some = triple_no 34 b (x ++ s) inside.0.0.0
  basic_triple (BasicChars.more {r = r} (escaped_char (escaped {t} char)) chars) rest apart =
      rw (slashed char r) (triple_no 34 0x5C ((t ++ encodes r) ++ (34 ∷ rest)) (λ e. omega arith))

  basic_token : {cs v : List ℕ} → BasicString ed cs v → (rest : List ℕ) → Apart 34 rest
      → IsToken (token_kind basic) (encodes cs) rest
  unfolding extent
  basic_token (basic_string {t} chars) rest apart =
      let text = marked_rest 34 (omega arith) t rest in
      token_of (token_kind basic) (encodes (marked 34 t)) rest
      (ap kind_of text ∙ kind_quote (encodes t ++ (34 ∷ rest)) (basic_triple chars rest apart))
      (ap (λ x. suc (line_tail 34 false (drop 1 x))) text ∙ omega (arith, basic_tail chars rest, encoded_long 34 (omega arith) t))

  -- ---- the multi-line kinds

  ml_literal_kind : {cs v : List ℕ} → MlLiteralString cs v → (rest : List ℕ) → kind_of (encodes cs ++ rest) ≡ token_kind ml_literal
  ml_literal_kind (ml_literal_string {b = b} o d) rest =
      ap (λ x. kind_of (x ++ rest)) (encodes_fenced apostrophes o b) ∙ kind_apostrophes _

  ml_basic_kind : {cs v : List ℕ} → MlBasicString ed cs v → (rest : List ℕ) → kind_of (encodes cs ++ rest) ≡ token_kind ml_basic
  ml_basic_kind (ml_basic_string {b = b} o d) rest =
      ap (λ x. kind_of (x ++ rest)) (encodes_fenced quotation o b) ∙ kind_quotes _

  -- ---- all four

  pub derived_token : (s : StringKind) (cs v rest : List ℕ) → Derived ed s cs v → Apart (mark s) rest
      → IsToken (token_kind s) (encodes cs) rest
  unfolding extent
  derived_token literal cs v rest d apart = literal_token d rest apart
  derived_token basic cs v rest (d, scalars) apart = basic_token d rest apart
  derived_token ml_literal cs v rest d apart =
      token_of (token_kind ml_literal) (encodes cs) rest (ml_literal_kind d rest) (ml_literal_lexed d rest apart)
  derived_token ml_basic cs v rest (d, scalars) apart =
      token_of (token_kind ml_basic) (encodes cs) rest (ml_basic_kind d rest)
      (ml_basic_lexed ed d (ml_basic_names d scalars) rest apart)
