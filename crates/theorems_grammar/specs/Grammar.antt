-- RULE. The ABNF of TOML 1.0.0 and of 1.1.0 for the four kinds of string, over code points: a definition for each rule, under
-- its name, with its line beside it; the kinds in the order of the published text, and each rule after those that it is
-- made of. The two differ in escape-seq-char alone: that rule, and those that reach it, take the edition. A family's last
-- index is the value that TOML gives the text; where the value is the text itself it has no such index.
-- A repetition `*rule` is `stop` or `more`; an option `[ rule ]` is `absent` or `present`.
use Rattle.std.specs.Prelude.{ℕ, suc, ◌+◌, ◌*◌, ◌≤◌, ◌<◌}
use mathlib.Core.{Path.◌≡◌, List.List, List.[], List.◌∷◌, List.◌++◌}
use Rattle.decoder_rules.specs.declared.{Edition.Edition, Edition.TheVariants.Toml11}

-- ---- Whitespace
-- wschar =  %x20  ; Space
-- wschar =/ %x09  ; Horizontal tab
pub data Wschar : ℕ → Type 0 where
  x20 : Wschar 0x20
  x09 : Wschar 0x09

-- ws = *wschar
pub data Ws : List ℕ → Type 0 where
  stop : Ws []
  more : {c : ℕ} {r : List ℕ} → Wschar c → Ws r → Ws (c ∷ r)

-- ---- Newline
-- newline =  %x0A     ; LF
-- newline =/ %x0D.0A  ; CRLF
pub data Newline : List ℕ → Type 0 where
  x0A : Newline (0x0A ∷ [])
  x0D-0A : Newline (0x0D ∷ (0x0A ∷ []))

-- [ newline ]
pub data OptNewline : List ℕ → Type 0 where
  absent : OptNewline []
  present : {t : List ℕ} → Newline t → OptNewline t

-- ---- Comment
-- non-ascii = %x80-D7FF / %xE000-10FFFF
pub data NonAscii : ℕ → Type 0 where
  x80-D7FF : {c : ℕ} → 0x80 ≤ c → c ≤ 0xD7FF → NonAscii c
  xE000-10FFFF : {c : ℕ} → 0xE000 ≤ c → c ≤ 0x10FFFF → NonAscii c

-- ---- Basic String
-- quotation-mark = %x22            ; "
abbrev pub quotation_mark : ℕ
quotation_mark = 0x22

-- escape = %x5C                   ; \
abbrev pub escape : ℕ
escape = 0x5C

-- basic-unescaped = wschar / %x21 / %x23-5B / %x5D-7E / non-ascii
pub data BasicUnescaped : ℕ → Type 0 where
  wschar : {c : ℕ} → Wschar c → BasicUnescaped c
  x21 : BasicUnescaped 0x21
  x23-5B : {c : ℕ} → 0x23 ≤ c → c ≤ 0x5B → BasicUnescaped c
  x5D-7E : {c : ℕ} → 0x5D ≤ c → c ≤ 0x7E → BasicUnescaped c
  non_ascii : {c : ℕ} → NonAscii c → BasicUnescaped c

-- HEXDIG = DIGIT / "A" / "B" / "C" / "D" / "E" / "F", and the digit's value
-- (a quoted letter of ABNF stands for both cases)
pub data HexDig : ℕ → ℕ → Type 0 where
  digit : {c d : ℕ} → c ≡ 0x30 + d → d < 10 → HexDig c d
  upper : {c d : ℕ} → c ≡ 0x37 + d → 10 ≤ d → d < 16 → HexDig c d
  lower : {c d : ℕ} → c ≡ 0x57 + d → 10 ≤ d → d < 16 → HexDig c d

-- nHEXDIG, from left to right: `HexDigits n a t v` where t is n digits, and v is the number a with them appended
pub data HexDigits : ℕ → ℕ → List ℕ → ℕ → Type 0 where
  stop : {a : ℕ} → HexDigits 0 a [] a
  more : {n a c d v : ℕ} {t : List ℕ} → HexDig c d → HexDigits n (a * 16 + d) t v → HexDigits (suc n) a (c ∷ t) v

-- escape-seq-char =  %x22         ; "    quotation mark  U+0022
-- escape-seq-char =/ %x5C         ; \    reverse solidus U+005C
-- escape-seq-char =/ %x62         ; b    backspace       U+0008
-- escape-seq-char =/ %x66         ; f    form feed       U+000C
-- escape-seq-char =/ %x6E         ; n    line feed       U+000A
-- escape-seq-char =/ %x72         ; r    carriage return U+000D
-- escape-seq-char =/ %x74         ; t    tab             U+0009
-- escape-seq-char =/ %x75 4HEXDIG ; uXXXX                U+XXXX
-- escape-seq-char =/ %x55 8HEXDIG ; UXXXXXXXX            U+XXXXXXXX
-- and in TOML 1.1.0:
-- escape-seq-char =/ %x65         ; e    escape          U+001B
-- escape-seq-char =/ %x78 2HEXDIG ; xHH                  U+00HH
pub data EscapeSeqChar : Edition → List ℕ → ℕ → Type 0 where
  x22 : {ed : Edition} → EscapeSeqChar ed (0x22 ∷ []) 0x22
  x5C : {ed : Edition} → EscapeSeqChar ed (0x5C ∷ []) 0x5C
  x62 : {ed : Edition} → EscapeSeqChar ed (0x62 ∷ []) 0x08
  x66 : {ed : Edition} → EscapeSeqChar ed (0x66 ∷ []) 0x0C
  x6E : {ed : Edition} → EscapeSeqChar ed (0x6E ∷ []) 0x0A
  x72 : {ed : Edition} → EscapeSeqChar ed (0x72 ∷ []) 0x0D
  x74 : {ed : Edition} → EscapeSeqChar ed (0x74 ∷ []) 0x09
  x75 : {ed : Edition} {t : List ℕ} {v : ℕ} → HexDigits 4 0 t v → EscapeSeqChar ed (0x75 ∷ t) v
  x55 : {ed : Edition} {t : List ℕ} {v : ℕ} → HexDigits 8 0 t v → EscapeSeqChar ed (0x55 ∷ t) v
  x65 : EscapeSeqChar Toml11 (0x65 ∷ []) 0x1B
  x78 : {t : List ℕ} {v : ℕ} → HexDigits 2 0 t v → EscapeSeqChar Toml11 (0x78 ∷ t) v

-- escaped = escape escape-seq-char
pub data Escaped (ed : Edition) : List ℕ → ℕ → Type 0 where
  escaped : {t : List ℕ} {v : ℕ} → EscapeSeqChar ed t v → Escaped ed (escape ∷ t) v

-- basic-char = basic-unescaped / escaped
pub data BasicChar (ed : Edition) : List ℕ → ℕ → Type 0 where
  unescaped : {c : ℕ} → BasicUnescaped c → BasicChar ed (c ∷ []) c
  escaped_char : {t : List ℕ} {v : ℕ} → Escaped ed t v → BasicChar ed t v

-- *basic-char
pub data BasicChars (ed : Edition) : List ℕ → List ℕ → Type 0 where
  stop : BasicChars ed [] []
  more : {t r vs : List ℕ} {v : ℕ} → BasicChar ed t v → BasicChars ed r vs → BasicChars ed (t ++ r) (v ∷ vs)

-- basic-string = quotation-mark *basic-char quotation-mark
pub data BasicString (ed : Edition) : List ℕ → List ℕ → Type 0 where
  basic_string : {t v : List ℕ} → BasicChars ed t v → BasicString ed (quotation_mark ∷ (t ++ (quotation_mark ∷ []))) v

-- ---- Multiline Basic String
-- ml-basic-string-delim = 3quotation-mark
abbrev pub ml_basic_string_delim : List ℕ
ml_basic_string_delim = quotation_mark ∷ (quotation_mark ∷ (quotation_mark ∷ []))

-- mlb-unescaped = wschar / %x21 / %x23-5B / %x5D-7E / non-ascii
pub data MlbUnescaped : ℕ → Type 0 where
  wschar : {c : ℕ} → Wschar c → MlbUnescaped c
  x21 : MlbUnescaped 0x21
  x23-5B : {c : ℕ} → 0x23 ≤ c → c ≤ 0x5B → MlbUnescaped c
  x5D-7E : {c : ℕ} → 0x5D ≤ c → c ≤ 0x7E → MlbUnescaped c
  non_ascii : {c : ℕ} → NonAscii c → MlbUnescaped c

-- mlb-char = mlb-unescaped / escaped
pub data MlbChar (ed : Edition) : List ℕ → ℕ → Type 0 where
  unescaped : {c : ℕ} → MlbUnescaped c → MlbChar ed (c ∷ []) c
  escaped_char : {t : List ℕ} {v : ℕ} → Escaped ed t v → MlbChar ed t v

-- wschar / newline
pub data WscharNewline : List ℕ → Type 0 where
  wschar : {c : ℕ} → Wschar c → WscharNewline (c ∷ [])
  newline : {t : List ℕ} → Newline t → WscharNewline t

-- *( wschar / newline )
pub data WscharNewlines : List ℕ → Type 0 where
  stop : WscharNewlines []
  more : {t r : List ℕ} → WscharNewline t → WscharNewlines r → WscharNewlines (t ++ r)

-- mlb-escaped-nl = escape ws newline *( wschar / newline )
pub data MlbEscapedNl : List ℕ → Type 0 where
  mlb_escaped_nl : {w n r : List ℕ} → Ws w → Newline n → WscharNewlines r → MlbEscapedNl (escape ∷ (w ++ (n ++ r)))

-- mlb-content = mlb-char / newline / mlb-escaped-nl
pub data MlbContent (ed : Edition) : List ℕ → List ℕ → Type 0 where
  mlb_char : {t : List ℕ} {v : ℕ} → MlbChar ed t v → MlbContent ed t (v ∷ [])
  newline : {t : List ℕ} → Newline t → MlbContent ed t t
  escaped_nl : {t : List ℕ} → MlbEscapedNl t → MlbContent ed t []

-- *mlb-content
pub data MlbContents (ed : Edition) : List ℕ → List ℕ → Type 0 where
  stop : MlbContents ed [] []
  more : {t r w v : List ℕ} → MlbContent ed t w → MlbContents ed r v → MlbContents ed (t ++ r) (w ++ v)

-- 1*mlb-content
pub data MlbContents1 (ed : Edition) : List ℕ → List ℕ → Type 0 where
  some_content : {t r w v : List ℕ} → MlbContent ed t w → MlbContents ed r v → MlbContents1 ed (t ++ r) (w ++ v)

-- mlb-quotes = 1*2quotation-mark
pub data MlbQuotes : List ℕ → Type 0 where
  one : MlbQuotes (quotation_mark ∷ [])
  two : MlbQuotes (quotation_mark ∷ (quotation_mark ∷ []))

-- *( mlb-quotes 1*mlb-content )
pub data MlbGroups (ed : Edition) : List ℕ → List ℕ → Type 0 where
  stop : MlbGroups ed [] []
  more : {q t r w v : List ℕ} → MlbQuotes q → MlbContents1 ed t w → MlbGroups ed r v
      → MlbGroups ed (q ++ (t ++ r)) (q ++ (w ++ v))

-- [ mlb-quotes ]
pub data OptMlbQuotes : List ℕ → Type 0 where
  absent : OptMlbQuotes []
  present : {q : List ℕ} → MlbQuotes q → OptMlbQuotes q

-- ml-basic-body = *mlb-content *( mlb-quotes 1*mlb-content ) [ mlb-quotes ]
pub data MlBasicBody (ed : Edition) : List ℕ → List ℕ → Type 0 where
  ml_basic_body : {a g q w v : List ℕ} → MlbContents ed a w → MlbGroups ed g v → OptMlbQuotes q
      → MlBasicBody ed (a ++ (g ++ q)) (w ++ (v ++ q))

-- ml-basic-string = ml-basic-string-delim [ newline ] ml-basic-body
--                   ml-basic-string-delim
pub data MlBasicString (ed : Edition) : List ℕ → List ℕ → Type 0 where
  ml_basic_string : {n b v : List ℕ} → OptNewline n → MlBasicBody ed b v
      → MlBasicString ed (ml_basic_string_delim ++ (n ++ (b ++ ml_basic_string_delim))) v

-- ---- Literal String
-- apostrophe = %x27 ; ' apostrophe
abbrev pub apostrophe : ℕ
apostrophe = 0x27

-- literal-char = %x09 / %x20-26 / %x28-7E / non-ascii
pub data LiteralChar : ℕ → Type 0 where
  x09 : LiteralChar 0x09
  x20-26 : {c : ℕ} → 0x20 ≤ c → c ≤ 0x26 → LiteralChar c
  x28-7E : {c : ℕ} → 0x28 ≤ c → c ≤ 0x7E → LiteralChar c
  non_ascii : {c : ℕ} → NonAscii c → LiteralChar c

-- *literal-char
pub data LiteralChars : List ℕ → Type 0 where
  stop : LiteralChars []
  more : {c : ℕ} {s : List ℕ} → LiteralChar c → LiteralChars s → LiteralChars (c ∷ s)

-- literal-string = apostrophe *literal-char apostrophe
pub data LiteralString : List ℕ → List ℕ → Type 0 where
  literal_string : {s : List ℕ} → LiteralChars s → LiteralString (apostrophe ∷ (s ++ (apostrophe ∷ []))) s

-- ---- Multiline Literal String
-- ml-literal-string-delim = 3apostrophe
abbrev pub ml_literal_string_delim : List ℕ
ml_literal_string_delim = apostrophe ∷ (apostrophe ∷ (apostrophe ∷ []))

-- mll-char = %x09 / %x20-26 / %x28-7E / non-ascii
pub data MllChar : ℕ → Type 0 where
  x09 : MllChar 0x09
  x20-26 : {c : ℕ} → 0x20 ≤ c → c ≤ 0x26 → MllChar c
  x28-7E : {c : ℕ} → 0x28 ≤ c → c ≤ 0x7E → MllChar c
  non_ascii : {c : ℕ} → NonAscii c → MllChar c

-- mll-content = mll-char / newline
pub data MllContent : List ℕ → Type 0 where
  character : {c : ℕ} → MllChar c → MllContent (c ∷ [])
  newline : {t : List ℕ} → Newline t → MllContent t

-- *mll-content
pub data MllContents : List ℕ → Type 0 where
  stop : MllContents []
  more : {t r : List ℕ} → MllContent t → MllContents r → MllContents (t ++ r)

-- 1*mll-content
pub data MllContents1 : List ℕ → Type 0 where
  some_content : {t r : List ℕ} → MllContent t → MllContents r → MllContents1 (t ++ r)

-- mll-quotes = 1*2apostrophe
pub data MllQuotes : List ℕ → Type 0 where
  one : MllQuotes (apostrophe ∷ [])
  two : MllQuotes (apostrophe ∷ (apostrophe ∷ []))

-- *( mll-quotes 1*mll-content )
pub data MllGroups : List ℕ → Type 0 where
  stop : MllGroups []
  more : {q t r : List ℕ} → MllQuotes q → MllContents1 t → MllGroups r → MllGroups (q ++ (t ++ r))

-- [ mll-quotes ]
pub data OptMllQuotes : List ℕ → Type 0 where
  absent : OptMllQuotes []
  present : {q : List ℕ} → MllQuotes q → OptMllQuotes q

-- ml-literal-body = *mll-content *( mll-quotes 1*mll-content ) [ mll-quotes ]
pub data MlLiteralBody : List ℕ → Type 0 where
  ml_literal_body : {a g q : List ℕ} → MllContents a → MllGroups g → OptMllQuotes q → MlLiteralBody (a ++ (g ++ q))

-- ml-literal-string = ml-literal-string-delim [ newline ] ml-literal-body
--                     ml-literal-string-delim
pub data MlLiteralString : List ℕ → List ℕ → Type 0 where
  ml_literal_string : {n b : List ℕ} → OptNewline n → MlLiteralBody b
      → MlLiteralString (ml_literal_string_delim ++ (n ++ (b ++ ml_literal_string_delim))) b
