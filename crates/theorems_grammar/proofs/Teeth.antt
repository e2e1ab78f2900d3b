-- Demand 3 excludes and allows something: for each case that it excludes there is a text, and each kind has texts that it allows.
use Prim.Native.Nat.{ℕ, ◌≤◌}
use mathlib.Core.Path.{◌≡◌, refl, sym, ◌∙◌, ap}
use mathlib.Core.Logic.{inl}
use mathlib.Core.Bool.{false}
use mathlib.Core.List.{List, [], ◌∷◌, ◌++◌, append_assoc, cons≢nil}
use native.Mathlib.Omega.{arith}
use lib.ListN.{length}
use Rattle.text_classes.specs.Classes.{wschar, literal_char, mll_char, basic_unescaped, mlb_unescaped, hexdig}
use Rattle.text_classes.specs.Runs.{run, triple}
use Rattle.text_classes.proofs.Conds.{not_both}
use Rattle.text_scalars.specs.Utf8.{encode_scalar, encodes}
use Rattle.decoder_rules.specs.declared.Edition.{Edition}
use Rattle.decoder_rules.specs.declared.Edition.TheVariants.{Toml10, Toml11}
use Rattle.decoder_rules.specs.Encodings.{mll_plain, mlb_plain, basic_invalid}
use Rattle.decoder_rules.specs.Pieces.{gives, notes}
use Rattle.decoder_rules.specs.Escapes.{letter_of, hex_value, hex_from, hex_piece, escape_piece}
use Rattle.decoder_rules.specs.Bodies.{literal_piece, ml_literal_piece, basic_piece, skips, escaped_nl, escaped_more, mlb_content, ml_basic_piece}
use Rattle.decoder_rules.specs.Marks.{line_ends, newline_len, ml_start, ml_closed, ml_end, ml_ends}
use Rattle.decoder_rules.specs.Decoding.{bytes_of, errors_of}
use Rattle.lexer_scans.specs.Extents.{up_to_two, ml_tail}
use Rattle.lexer.specs.Table.{kind_by, kind_of, extent, token_len}
use Rattle.theorems_grammar.specs.Grammar.{Wschar, Ws, Newline, OptNewline, NonAscii, BasicUnescaped, HexDig, HexDigits, EscapeSeqChar, escaped, BasicChar, BasicChars, BasicString, basic_string, MlbUnescaped, MlbChar, WscharNewline, WscharNewlines, mlb_escaped_nl, MlbContent, MlbContents, MlbContents1, MlbQuotes, MlbGroups, OptMlbQuotes, ml_basic_body, ml_basic_string, LiteralChar, LiteralChars, literal_string, MllChar, MllContent, MllContents, MllContents1, MllQuotes, MllGroups, OptMllQuotes, ml_literal_body, ml_literal_string}
use Rattle.theorems_grammar.specs.Prose.{starts_newline, starts_blank}
use Rattle.theorems_grammar.specs.Strings.{StringKind, literal, basic, ml_literal, ml_basic, encoding, Derived, Means}
use Rattle.theorems_grammar.proofs.ClassLaws.{basic_at}
use Rattle.theorems_grammar.proofs.NameLaws.{basic_names}
use Rattle.theorems_grammar.proofs.BasicStrings.{basic_complete}
use Rattle.theorems_grammar.proofs.Lexing.{derived_token}

-- t decodes to o, without error
abbrev Decodes : Edition → StringKind → List ℕ → List ℕ → Type 0
Decodes ed s t o = (errors_of (encoding ed s) t ≡ []) × (bytes_of (encoding ed s) t ≡ o)

-- ---- '''a'''b''' decodes without error, and yet nothing derives it: no lexing yields it, since its token ends after seven bytes

abbrev unlexed : List ℕ
unlexed = 39 ∷ 39 ∷ 39 ∷ 97 ∷ 39 ∷ 39 ∷ 39 ∷ 98 ∷ 39 ∷ 39 ∷ 39 ∷ []

pub unlexed_decodes : Decodes Toml10 ml_literal unlexed (97 ∷ 39 ∷ 39 ∷ 39 ∷ 98 ∷ [])
unfolding errors_of bytes_of ml_ends ml_start ml_closed ml_end newline_len triple notes gives ml_literal_piece run mll_plain mll_char
unlexed_decodes = (refl, refl)

pub unlexed_short : token_len (encodes unlexed ++ []) ≡ 7
unfolding encode_scalar token_len kind_of kind_by wschar extent ml_tail triple up_to_two
unlexed_short = refl

unlexed_long : length (encodes unlexed) ≡ 11
unfolding encode_scalar
unlexed_long = refl

pub unlexed_not_derived : (v : List ℕ) → Derived Toml10 ml_literal unlexed v → ⊥
unlexed_not_derived v d =
    let token = derived_token Toml10 ml_literal unlexed v [] d refl in omega (arith, token.1, unlexed_short, unlexed_long)

-- ---- "\q" has no derivation

abbrev unknown_escape : List ℕ
unknown_escape = 34 ∷ 92 ∷ 113 ∷ 34 ∷ []

unescaped_slash : basic_unescaped 92 ≡ false
unfolding basic_unescaped
unescaped_slash = refl

no_slash : {c : ℕ} → BasicUnescaped c → c ≡ 92 → ⊥
no_slash class is-slash = not_both (basic_at class) (ap basic_unescaped is-slash ∙ unescaped_slash)

first_q : {ed : Edition} {t : List ℕ} {v : ℕ} → EscapeSeqChar ed t v → (r s : List ℕ) → t ++ r ≡ 113 ∷ s → ⊥
first_q EscapeSeqChar.x22 r s text = let same : ◌≡◌ {A = ℕ} 0x22 113 = cc in omega arith
first_q EscapeSeqChar.x5C r s text = let same : ◌≡◌ {A = ℕ} 0x5C 113 = cc in omega arith
first_q EscapeSeqChar.x62 r s text = let same : ◌≡◌ {A = ℕ} 0x62 113 = cc in omega arith
first_q EscapeSeqChar.x66 r s text = let same : ◌≡◌ {A = ℕ} 0x66 113 = cc in omega arith
first_q EscapeSeqChar.x6E r s text = let same : ◌≡◌ {A = ℕ} 0x6E 113 = cc in omega arith
first_q EscapeSeqChar.x72 r s text = let same : ◌≡◌ {A = ℕ} 0x72 113 = cc in omega arith
first_q EscapeSeqChar.x74 r s text = let same : ◌≡◌ {A = ℕ} 0x74 113 = cc in omega arith
first_q (EscapeSeqChar.x75 d) r s text = let same : ◌≡◌ {A = ℕ} 0x75 113 = cc in omega arith
first_q (EscapeSeqChar.x55 d) r s text = let same : ◌≡◌ {A = ℕ} 0x55 113 = cc in omega arith
first_q EscapeSeqChar.x65 r s text = let same : ◌≡◌ {A = ℕ} 0x65 113 = cc in omega arith
first_q (EscapeSeqChar.x78 d) r s text = let same : ◌≡◌ {A = ℕ} 0x78 113 = cc in omega arith

no_chars : {ed : Edition} {t v : List ℕ} → BasicChars ed t v → t ++ (34 ∷ []) ≡ 92 ∷ 113 ∷ 34 ∷ [] → ⊥
no_chars BasicChars.stop text = let same : ◌≡◌ {A = ℕ} 34 92 = cc in omega arith
no_chars (BasicChars.more {r = r} (BasicChar.unescaped {c} class) rest) text =
    let is-slash : c ≡ 92 = cc in no_slash class is-slash
no_chars (BasicChars.more {r = r} (BasicChar.escaped_char (escaped {t} char)) rest) text =
    let after-slash : (t ++ r) ++ (34 ∷ []) ≡ 113 ∷ 34 ∷ [] = cc in
    first_q char (r ++ (34 ∷ [])) (34 ∷ []) (sym (append_assoc t r (34 ∷ [])) ∙ after-slash)

pub unknown_not_derived : (ed : Edition) (cs v : List ℕ) → BasicString ed cs v → cs ≡ unknown_escape → ⊥
unknown_not_derived ed cs v (basic_string {t} chars) text =
    let inside : t ++ (34 ∷ []) ≡ 92 ∷ 113 ∷ 34 ∷ [] = cc in no_chars chars inside

-- ---- "\uD800" has a derivation, and none whose escapes name scalar values

abbrev surrogate : List ℕ
surrogate = 34 ∷ 92 ∷ 117 ∷ 68 ∷ 56 ∷ 48 ∷ 48 ∷ 34 ∷ []

pub surrogate_derived : BasicString Toml10 surrogate (0xD800 ∷ [])
surrogate_derived =
    basic_string (BasicChars.more (BasicChar.escaped_char (escaped (EscapeSeqChar.x75
    (HexDigits.more (HexDig.upper {d = 13} refl (omega arith) (omega arith))
    (HexDigits.more (HexDig.digit {d = 8} refl (omega arith))
    (HexDigits.more (HexDig.digit {d = 0} refl (omega arith))
    (HexDigits.more (HexDig.digit {d = 0} refl (omega arith)) HexDigits.stop))))))) BasicChars.stop)

surrogate_error : errors_of (encoding Toml10 basic) (encodes surrogate) ≡ (10 ∷ 3 ∷ 3 ∷ []) ∷ []
unfolding encode_scalar errors_of line_ends notes basic_piece run basic_unescaped basic_invalid escape_piece letter_of hex_piece hexdig hex_from hex_value
surrogate_error = refl

pub surrogate_not_derived : (v : List ℕ) → Derived Toml10 basic surrogate v → ⊥
surrogate_not_derived v (d, h) = cons≢nil (sym surrogate_error ∙ (basic_complete Toml10 d (basic_names d h)).0)

-- ---- the grammar alone reads ''' LF a''' in two ways: only the prose rule says which is meant

abbrev two_ways : List ℕ
two_ways = 39 ∷ 39 ∷ 39 ∷ 10 ∷ 97 ∷ 39 ∷ 39 ∷ 39 ∷ []

mll : (c : ℕ) → 0x28 ≤ c → c ≤ 0x7E → MllContent (c ∷ [])
mll c least most = MllContent.character (MllChar.x28-7E least most)

pub two_readings : Derived Toml10 ml_literal two_ways (97 ∷ []) × Derived Toml10 ml_literal two_ways (10 ∷ 97 ∷ [])
two_readings =
    let contents : MllContents (97 ∷ []) = MllContents.more (mll 97 (omega arith) (omega arith)) MllContents.stop in (
      ml_literal_string (OptNewline.present Newline.x0A) (ml_literal_body contents MllGroups.stop OptMllQuotes.absent),
      ml_literal_string OptNewline.absent
          (ml_literal_body (MllContents.more (MllContent.newline Newline.x0A) contents) MllGroups.stop OptMllQuotes.absent),
    )

-- ---- a literal string: '\é' means \é

abbrev literal_text : List ℕ
literal_text = 39 ∷ 92 ∷ 0xE9 ∷ 39 ∷ []

pub literal_means : Means Toml10 literal literal_text (92 ∷ 0xE9 ∷ [])
literal_means =
    literal_string (LiteralChars.more (LiteralChar.x28-7E {c = 92} (omega arith) (omega arith))
    (LiteralChars.more (LiteralChar.non_ascii (NonAscii.x80-D7FF {c = 0xE9} (omega arith) (omega arith))) LiteralChars.stop))

pub literal_decodes : Decodes Toml10 literal (encodes literal_text) (92 ∷ 0xC3 ∷ 0xA9 ∷ [])
unfolding encode_scalar errors_of bytes_of notes line_ends gives literal_piece run literal_char
literal_decodes = (refl, refl)

-- ---- a basic string: "a\u00E9\n" means aé and an LF

abbrev basic_text : List ℕ
basic_text = 34 ∷ 97 ∷ 92 ∷ 117 ∷ 48 ∷ 48 ∷ 69 ∷ 57 ∷ 92 ∷ 110 ∷ 34 ∷ []

pub basic_means : Means Toml10 basic basic_text (97 ∷ 0xE9 ∷ 10 ∷ [])
basic_means = (
  basic_string (BasicChars.more (BasicChar.unescaped (BasicUnescaped.x5D-7E {c = 97} (omega arith) (omega arith)))
      (BasicChars.more (BasicChar.escaped_char (escaped (EscapeSeqChar.x75
      (HexDigits.more (HexDig.digit {d = 0} refl (omega arith))
      (HexDigits.more (HexDig.digit {d = 0} refl (omega arith))
      (HexDigits.more (HexDig.upper {d = 14} refl (omega arith) (omega arith))
      (HexDigits.more (HexDig.digit {d = 9} refl (omega arith)) HexDigits.stop)))))))
      (BasicChars.more (BasicChar.escaped_char (escaped EscapeSeqChar.x6E)) BasicChars.stop))),
  (inl (omega arith), (inl (omega arith), (inl (omega arith), tt))),
)

pub basic_decodes : Decodes Toml10 basic (encodes basic_text) (97 ∷ 0xC3 ∷ 0xA9 ∷ 10 ∷ [])
unfolding encode_scalar errors_of bytes_of notes line_ends gives basic_piece run basic_unescaped escape_piece letter_of hex_piece hexdig hex_from hex_value
basic_decodes = (refl, refl)

-- ---- an ml-literal string: ''' LF a CR LF ''b''' means a CR LF ''b: the first newline is dropped, the other kept as it is

abbrev ml_literal_text : List ℕ
ml_literal_text = 39 ∷ 39 ∷ 39 ∷ 10 ∷ 97 ∷ 13 ∷ 10 ∷ 39 ∷ 39 ∷ 98 ∷ 39 ∷ 39 ∷ 39 ∷ []

pub ml_literal_means : Means Toml10 ml_literal ml_literal_text (97 ∷ 13 ∷ 10 ∷ 39 ∷ 39 ∷ 98 ∷ [])
ml_literal_means =
    let line : MllContents (13 ∷ 10 ∷ []) = MllContents.more (MllContent.newline Newline.x0D-0A) MllContents.stop in
    let contents : MllContents1 (98 ∷ []) = MllContents1.some_content (mll 98 (omega arith) (omega arith)) MllContents.stop in (
      ml_literal_string (OptNewline.present Newline.x0A) (ml_literal_body
          (MllContents.more (mll 97 (omega arith) (omega arith)) line)
          (MllGroups.more MllQuotes.two contents MllGroups.stop)
          OptMllQuotes.absent),
      tt,
    )

pub ml_literal_decodes : Decodes Toml10 ml_literal (encodes ml_literal_text) (97 ∷ 13 ∷ 10 ∷ 39 ∷ 39 ∷ 98 ∷ [])
unfolding encode_scalar errors_of bytes_of notes ml_ends ml_start ml_closed ml_end newline_len triple gives ml_literal_piece run mll_plain mll_char
ml_literal_decodes = (refl, refl)

-- ---- an ml-basic string: """a\ space LF space "b CR LF""" means a"b CR LF: the line-ending backslash drops the blanks after it

abbrev ml_basic_text : List ℕ
ml_basic_text = 34 ∷ 34 ∷ 34 ∷ 97 ∷ 92 ∷ 32 ∷ 10 ∷ 32 ∷ 34 ∷ 98 ∷ 13 ∷ 10 ∷ 34 ∷ 34 ∷ 34 ∷ []

mlb : (c : ℕ) → 0x5D ≤ c → c ≤ 0x7E → MlbContent Toml10 (c ∷ []) (c ∷ [])
mlb c least most = MlbContent.mlb_char (MlbChar.unescaped (MlbUnescaped.x5D-7E least most))

line_end : MlbContent Toml10 (92 ∷ 32 ∷ 10 ∷ 32 ∷ []) []
line_end =
    MlbContent.escaped_nl (mlb_escaped_nl (Ws.more Wschar.x20 Ws.stop) Newline.x0A
    (WscharNewlines.more (WscharNewline.wschar Wschar.x20) WscharNewlines.stop))

pub ml_basic_means : Means Toml10 ml_basic ml_basic_text (97 ∷ 34 ∷ 98 ∷ 13 ∷ 10 ∷ [])
unfolding starts_newline starts_blank mlb line_end
ml_basic_means =
    let crlf : List ℕ = 13 ∷ 10 ∷ [] in
    let line : MlbContents Toml10 crlf crlf = MlbContents.more (MlbContent.newline Newline.x0D-0A) MlbContents.stop in (
      ml_basic_string OptNewline.absent (ml_basic_body
          (MlbContents.more (mlb 97 (omega arith) (omega arith)) (MlbContents.more line_end MlbContents.stop))
          (MlbGroups.more MlbQuotes.one (MlbContents1.some_content (mlb 98 (omega arith) (omega arith)) line) MlbGroups.stop)
          OptMlbQuotes.absent),
      (refl, ((tt, (refl, tt)), ((tt, (tt, tt)), tt))),
      (inl (omega arith), (inl (omega arith), (inl (omega arith), (inl (omega arith), (inl (omega arith), tt))))),
    )

pub ml_basic_decodes : Decodes Toml10 ml_basic (encodes ml_basic_text) (97 ∷ 34 ∷ 98 ∷ 13 ∷ 10 ∷ [])
unfolding encode_scalar errors_of bytes_of notes ml_ends ml_start ml_closed ml_end newline_len triple gives ml_basic_piece mlb_content run mlb_plain mlb_unescaped skips wschar escaped_nl escaped_more escape_piece
ml_basic_decodes = (refl, refl)

-- ---- the editions differ: "\e\x41" means U+001B and A in TOML 1.1, and TOML 1.0 does not derive it

abbrev later_text : List ℕ
later_text = 34 ∷ 92 ∷ 101 ∷ 92 ∷ 120 ∷ 52 ∷ 49 ∷ 34 ∷ []

pub later_means : Means Toml11 basic later_text (0x1B ∷ 0x41 ∷ [])
later_means = (
  basic_string (BasicChars.more (BasicChar.escaped_char (escaped EscapeSeqChar.x65))
      (BasicChars.more (BasicChar.escaped_char (escaped (EscapeSeqChar.x78
      (HexDigits.more (HexDig.digit {d = 4} refl (omega arith))
      (HexDigits.more (HexDig.digit {d = 1} refl (omega arith)) HexDigits.stop))))) BasicChars.stop)),
  (inl (omega arith), (inl (omega arith), tt)),
)

pub later_decodes : Decodes Toml11 basic (encodes later_text) (0x1B ∷ 0x41 ∷ [])
unfolding encode_scalar errors_of bytes_of notes line_ends gives basic_piece run basic_unescaped escape_piece letter_of hex_piece hexdig hex_from hex_value
later_decodes = (refl, refl)

later_error : errors_of (encoding Toml10 basic) (encodes later_text) ≡ (8 ∷ 2 ∷ 2 ∷ []) ∷ (8 ∷ 4 ∷ 4 ∷ []) ∷ []
unfolding encode_scalar errors_of line_ends notes basic_piece run basic_unescaped basic_invalid escape_piece letter_of
later_error = refl

pub later_not_derived : (v : List ℕ) → Derived Toml10 basic later_text v → ⊥
later_not_derived v (d, h) = cons≢nil (sym later_error ∙ (basic_complete Toml10 d (basic_names d h)).0)
