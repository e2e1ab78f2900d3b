-- Each rule of the grammar derives scalar values only, because its classes hold no others.
use Prim.Native.Nat.{ℕ, ◌<◌}
use mathlib.Core.Logic.{inl, inr}
use mathlib.Core.List.{List, [], ◌∷◌, ◌++◌}
use native.Mathlib.Omega.{arith}
use Rattle.text_scalars.specs.Utf8.{Scalar, All}
use Rattle.text_scalars.proofs.CutLaws.{all_append}
use Rattle.decoder_rules.specs.declared.Edition.{Edition}
use Rattle.theorems_grammar.specs.Grammar.{Wschar, Ws, Newline, OptNewline, NonAscii, x80-D7FF, xE000-10FFFF, BasicUnescaped, HexDig, digit, upper, lower, HexDigits, EscapeSeqChar, x22, x5C, x62, x66, x6E, x72, x74, x75, x55, x65, x78, Escaped, escaped, BasicChar, BasicChars, BasicString, basic_string, MlbChar, WscharNewline, WscharNewlines, MlbEscapedNl, mlb_escaped_nl, MlbContent, mlb_char, escaped_nl, MlbContents, MlbContents1, MlbQuotes, MlbGroups, OptMlbQuotes, ml_basic_body, MlBasicString, ml_basic_string, LiteralChar, LiteralChars, LiteralString, literal_string, MllContent, character, MllContents, MllContents1, MllQuotes, MllGroups, OptMllQuotes, ml_literal_body, MlLiteralString, ml_literal_string}
use Rattle.theorems_grammar.specs.Strings.{literal, basic, ml_literal, ml_basic}
use Rattle.theorems_grammar.specs.ScalarTexts.{NonAsciiIs, DerivedScalar}
use Rattle.theorems_grammar.proofs.ClassLaws.{non_ascii_of, non_ascii_high, mll_literal, mlb_basic}

-- each code point of t is a scalar value
record Scalars (t : List ℕ) : Type 0 where
  each : All Scalar t

none : Scalars []
none = record { each = tt }

next : {c : ℕ} {t : List ℕ} → Scalar c → Scalars t → Scalars (c ∷ t)
next h k = record { each = (h, k.each) }

join : {t r : List ℕ} → Scalars t → Scalars r → Scalars (t ++ r)
join {t} {r} h k = record { each = all_append Scalar t r h.each k.each }

low : {c : ℕ} → c < 0xD800 → Scalar c
low h = inl h

one : {c : ℕ} → c < 0xD800 → Scalars (c ∷ [])
one h = next (low h) none

-- ---- the classes

non_ascii_scalar : {c : ℕ} → NonAscii c → Scalar c
non_ascii_scalar (x80-D7FF h k) = inl (omega arith)
non_ascii_scalar (xE000-10FFFF h k) = inr (h, omega arith)

pub non_ascii_is : NonAsciiIs
non_ascii_is c = ((λ n. (non_ascii_scalar n, non_ascii_high n)), λ h. non_ascii_of c h.0 h.1)

wschar_scalar : {c : ℕ} → Wschar c → Scalar c
wschar_scalar Wschar.x20 = low (omega arith)
wschar_scalar Wschar.x09 = low (omega arith)

newline_points : {t : List ℕ} → Newline t → Scalars t
newline_points Newline.x0A = one (omega arith)
newline_points Newline.x0D-0A = next (low (omega arith)) (one (omega arith))

opt_newline_points : {t : List ℕ} → OptNewline t → Scalars t
opt_newline_points OptNewline.absent = none
opt_newline_points (OptNewline.present n) = newline_points n

basic_scalar : {c : ℕ} → BasicUnescaped c → Scalar c
basic_scalar (BasicUnescaped.wschar w) = wschar_scalar w
basic_scalar BasicUnescaped.x21 = low (omega arith)
basic_scalar (BasicUnescaped.x23-5B h k) = low (omega arith)
basic_scalar (BasicUnescaped.x5D-7E h k) = low (omega arith)
basic_scalar (BasicUnescaped.non_ascii n) = non_ascii_scalar n

literal_scalar : {c : ℕ} → LiteralChar c → Scalar c
literal_scalar LiteralChar.x09 = low (omega arith)
literal_scalar (LiteralChar.x20-26 h k) = low (omega arith)
literal_scalar (LiteralChar.x28-7E h k) = low (omega arith)
literal_scalar (LiteralChar.non_ascii n) = non_ascii_scalar n

-- ---- escapes

digit_scalar : {c d : ℕ} → HexDig c d → Scalar c
digit_scalar (digit e h) = low (omega arith)
digit_scalar (upper e h k) = low (omega arith)
digit_scalar (lower e h k) = low (omega arith)

digits_points : {n a v : ℕ} {t : List ℕ} → HexDigits n a t v → Scalars t
digits_points HexDigits.stop = none
digits_points (HexDigits.more x r) = next (digit_scalar x) (digits_points r)

escape_points : {ed : Edition} {t : List ℕ} {v : ℕ} → EscapeSeqChar ed t v → Scalars t
escape_points x22 = one (omega arith)
escape_points x5C = one (omega arith)
escape_points x62 = one (omega arith)
escape_points x66 = one (omega arith)
escape_points x6E = one (omega arith)
escape_points x72 = one (omega arith)
escape_points x74 = one (omega arith)
escape_points (x75 d) = next (low (omega arith)) (digits_points d)
escape_points (x55 d) = next (low (omega arith)) (digits_points d)
escape_points x65 = one (omega arith)
escape_points (x78 d) = next (low (omega arith)) (digits_points d)

module _ {ed : Edition} where
  escaped_points : {t : List ℕ} {v : ℕ} → Escaped ed t v → Scalars t
  escaped_points (escaped e) = next (low (omega arith)) (escape_points e)

  -- ---- basic strings

  char_points : {t : List ℕ} {v : ℕ} → BasicChar ed t v → Scalars t
  char_points (BasicChar.unescaped c) = next (basic_scalar c) none
  char_points (BasicChar.escaped_char e) = escaped_points e

  chars_points : {t v : List ℕ} → BasicChars ed t v → Scalars t
  chars_points BasicChars.stop = none
  chars_points (BasicChars.more c r) = join (char_points c) (chars_points r)

  basic_points : {t v : List ℕ} → BasicString ed t v → Scalars t
  basic_points (basic_string r) = next (low (omega arith)) (join (chars_points r) (one (omega arith)))

-- ---- multi-line basic strings

ws_points : {t : List ℕ} → Ws t → Scalars t
ws_points Ws.stop = none
ws_points (Ws.more w r) = next (wschar_scalar w) (ws_points r)

blank_points : {t : List ℕ} → WscharNewline t → Scalars t
blank_points (WscharNewline.wschar w) = next (wschar_scalar w) none
blank_points (WscharNewline.newline n) = newline_points n

blanks_points : {t : List ℕ} → WscharNewlines t → Scalars t
blanks_points WscharNewlines.stop = none
blanks_points (WscharNewlines.more b r) = join (blank_points b) (blanks_points r)

escaped_nl_points : {t : List ℕ} → MlbEscapedNl t → Scalars t
escaped_nl_points (mlb_escaped_nl w n r) =
    next (low (omega arith)) (join (ws_points w) (join (newline_points n) (blanks_points r)))

quotes_points : {t : List ℕ} → MlbQuotes t → Scalars t
quotes_points MlbQuotes.one = one (omega arith)
quotes_points MlbQuotes.two = next (low (omega arith)) (one (omega arith))

opt_quotes_points : {t : List ℕ} → OptMlbQuotes t → Scalars t
opt_quotes_points OptMlbQuotes.absent = none
opt_quotes_points (OptMlbQuotes.present q) = quotes_points q

module _ {ed : Edition} where
  mlb_char_points : {t : List ℕ} {v : ℕ} → MlbChar ed t v → Scalars t
  mlb_char_points (MlbChar.unescaped c) = next (basic_scalar (mlb_basic.0 c)) none
  mlb_char_points (MlbChar.escaped_char e) = escaped_points e

  content_points : {t v : List ℕ} → MlbContent ed t v → Scalars t
  content_points (mlb_char c) = mlb_char_points c
  content_points (MlbContent.newline n) = newline_points n
  content_points (escaped_nl e) = escaped_nl_points e

  contents_points : {t v : List ℕ} → MlbContents ed t v → Scalars t
  contents_points MlbContents.stop = none
  contents_points (MlbContents.more c r) = join (content_points c) (contents_points r)

  contents1_points : {t v : List ℕ} → MlbContents1 ed t v → Scalars t
  contents1_points (MlbContents1.some_content c r) = join (content_points c) (contents_points r)

  groups_points : {t v : List ℕ} → MlbGroups ed t v → Scalars t
  groups_points MlbGroups.stop = none
  groups_points (MlbGroups.more q c g) = join (quotes_points q) (join (contents1_points c) (groups_points g))

  ml_basic_points : {t v : List ℕ} → MlBasicString ed t v → Scalars t
  ml_basic_points (ml_basic_string n (ml_basic_body a g q)) =
      join three
      (join (opt_newline_points n) (join (join (contents_points a) (join (groups_points g) (opt_quotes_points q))) three))
    where
      three : Scalars (0x22 ∷ 0x22 ∷ 0x22 ∷ [])
      three = next (low (omega arith)) (next (low (omega arith)) (one (omega arith)))

-- ---- literal strings

literals_points : {t : List ℕ} → LiteralChars t → Scalars t
literals_points LiteralChars.stop = none
literals_points (LiteralChars.more c r) = next (literal_scalar c) (literals_points r)

literal_points : {t v : List ℕ} → LiteralString t v → Scalars t
literal_points (literal_string r) = next (low (omega arith)) (join (literals_points r) (one (omega arith)))

mll_content_points : {t : List ℕ} → MllContent t → Scalars t
mll_content_points (character c) = next (literal_scalar (mll_literal.0 c)) none
mll_content_points (MllContent.newline n) = newline_points n

mll_contents_points : {t : List ℕ} → MllContents t → Scalars t
mll_contents_points MllContents.stop = none
mll_contents_points (MllContents.more c r) = join (mll_content_points c) (mll_contents_points r)

mll_contents1_points : {t : List ℕ} → MllContents1 t → Scalars t
mll_contents1_points (MllContents1.some_content c r) = join (mll_content_points c) (mll_contents_points r)

mll_quotes_points : {t : List ℕ} → MllQuotes t → Scalars t
mll_quotes_points MllQuotes.one = one (omega arith)
mll_quotes_points MllQuotes.two = next (low (omega arith)) (one (omega arith))

opt_mll_quotes_points : {t : List ℕ} → OptMllQuotes t → Scalars t
opt_mll_quotes_points OptMllQuotes.absent = none
opt_mll_quotes_points (OptMllQuotes.present q) = mll_quotes_points q

mll_groups_points : {t : List ℕ} → MllGroups t → Scalars t
mll_groups_points MllGroups.stop = none
mll_groups_points (MllGroups.more q c g) = join (mll_quotes_points q) (join (mll_contents1_points c) (mll_groups_points g))

ml_literal_points : {t v : List ℕ} → MlLiteralString t v → Scalars t
ml_literal_points (ml_literal_string n (ml_literal_body a g q)) =
    join three
    (join (opt_newline_points n)
    (join (join (mll_contents_points a) (join (mll_groups_points g) (opt_mll_quotes_points q))) three))
  where
    three : Scalars (0x27 ∷ 0x27 ∷ 0x27 ∷ [])
    three = next (low (omega arith)) (next (low (omega arith)) (one (omega arith)))

-- ---- the kinds

module _ {ed : Edition} where
  pub basic_scalar_text : {t v : List ℕ} → BasicString ed t v → All Scalar t
  basic_scalar_text d = (basic_points d).each

  pub ml_basic_scalar_text : {t v : List ℕ} → MlBasicString ed t v → All Scalar t
  ml_basic_scalar_text d = (ml_basic_points d).each

pub derived_scalar : DerivedScalar
derived_scalar ed ml_basic cs v (d, h) = ml_basic_scalar_text d
derived_scalar ed basic cs v (d, h) = basic_scalar_text d
derived_scalar ed ml_literal cs v d = (ml_literal_points d).each
derived_scalar ed literal cs v d = (literal_points d).each
