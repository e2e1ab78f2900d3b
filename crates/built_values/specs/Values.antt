-- RULE. The ABNF of TOML 1.0.0 and of 1.1.0 for a value, over the kinds of tokens: a definition for each rule, under its
-- name, with its line beside it, and beside that what is different here. A token stands for the characters that it is
-- made of: its text is not looked at. The two editions differ in inline tables alone: those rules take the edition, and
-- so do those that reach them. A kind is told by its number. A number that is no kind's stands in no rule, so that no
-- run that holds it is derived.
use Rattle.std.specs.Prelude.{ℕ}
use mathlib.Core.{Path.◌≡◌, List.List, List.[], List.◌∷◌, List.◌++◌}
use Rattle.decoder_rules.specs.declared.{Edition.Edition, Edition.TheVariants.Toml10, Edition.TheVariants.Toml11}
use Rattle.lexer_token.specs.KindNumbers.{kind_number}
use Rattle.lexer_token.specs.declared.TokenKind.TheVariants.{Dot, Equals, Comma, LeftSquareBracket, RightSquareBracket, LeftCurlyBracket, RightCurlyBracket, Whitespace, Comment, Newline, LiteralString, BasicString, MlLiteralString, MlBasicString, Atom}

-- ---- Whitespace, Newline, Comment
-- ws = *wschar
-- (a Whitespace token is a run of wschar)
pub data Ws : List ℕ → Type 0 where
  stop : Ws []
  more : {t : List ℕ} → Ws t → Ws (kind_number Whitespace ∷ t)

-- ws-comment-newline = *( wschar / [ comment ] newline )
-- (each Newline token is a newline, a lone CR too; a Comment token counts only with a Newline after it)
pub data WsCommentNewline : List ℕ → Type 0 where
  stop : WsCommentNewline []
  blank : {t : List ℕ} → WsCommentNewline t → WsCommentNewline (kind_number Whitespace ∷ t)
  line : {t : List ℕ} → WsCommentNewline t → WsCommentNewline (kind_number Newline ∷ t)
  remark : {t : List ℕ} → WsCommentNewline t → WsCommentNewline (kind_number Comment ∷ (kind_number Newline ∷ t))

-- ---- Key
-- simple-key = quoted-key / unquoted-key
-- quoted-key = basic-string / literal-string
-- (an unquoted-key is an Atom, whatever its bytes)
pub data SimpleKey : ℕ → Type 0 where
  unquoted : SimpleKey (kind_number Atom)
  basic : SimpleKey (kind_number BasicString)
  literal : SimpleKey (kind_number LiteralString)

-- ws mark ws, for a mark of one token: so are dot-sep, keyval-sep and, in TOML 1.0.0, inline-table-sep
pub data Spaced (mark : ℕ) : List ℕ → Type 0 where
  spaced : {a b : List ℕ} → Ws a → Ws b → Spaced mark (a ++ (mark ∷ b))

-- dot-sep = ws %x2E ws  ; . Period
abbrev pub DotSep : List ℕ → Type 0
DotSep = Spaced (kind_number Dot)

-- 1*( dot-sep simple-key )
pub data DotKeys : List ℕ → Type 0 where
  one : {k : ℕ} {d : List ℕ} → DotSep d → SimpleKey k → DotKeys (d ++ (k ∷ []))
  more : {k : ℕ} {d t : List ℕ} → DotSep d → SimpleKey k → DotKeys t → DotKeys (d ++ (k ∷ t))

-- key = simple-key / dotted-key
-- dotted-key = simple-key 1*( dot-sep simple-key )
pub data Key : List ℕ → Type 0 where
  simple_key : {k : ℕ} → SimpleKey k → Key (k ∷ [])
  dotted_key : {k : ℕ} {t : List ℕ} → SimpleKey k → DotKeys t → Key (k ∷ t)

-- keyval-sep = ws %x3D ws ; =
abbrev pub KeyvalSep : List ℕ → Type 0
KeyvalSep = Spaced (kind_number Equals)

-- ---- String
-- string = ml-basic-string / basic-string / ml-literal-string / literal-string
-- (a token of one of these kinds, whatever errors its decoding reports)
pub data StringToken : ℕ → Type 0 where
  ml_basic : StringToken (kind_number MlBasicString)
  basic : StringToken (kind_number BasicString)
  ml_literal : StringToken (kind_number MlLiteralString)
  literal : StringToken (kind_number LiteralString)

-- ---- boolean / date-time / float / integer
-- (not told apart and not judged: one or more Atom and Dot tokens, so that a date and a time with a space between are none)
pub data ScalarPart : ℕ → Type 0 where
  atom : ScalarPart (kind_number Atom)
  dot : ScalarPart (kind_number Dot)

pub data ScalarRun : List ℕ → Type 0 where
  one : {k : ℕ} → ScalarPart k → ScalarRun (k ∷ [])
  more : {k : ℕ} {t : List ℕ} → ScalarPart k → ScalarRun t → ScalarRun (k ∷ t)

-- The rules from here on reach one another. Each says what a text s is put together of, and then what the parts are.
mutual
  -- ---- Key-Value
  -- val = string / boolean / array / inline-table / date-time / float / integer
  pub data Val (v : Edition) : List ℕ → Type 0 where
    string : {k : ℕ} → StringToken k → Val v (k ∷ [])
    scalar : {s : List ℕ} → ScalarRun s → Val v s
    array : {s : List ℕ} → Array v s → Val v s
    inline_table : {s : List ℕ} → InlineTable v s → Val v s

  -- keyval = key keyval-sep val
  pub data Keyval (v : Edition) : List ℕ → Type 0 where
    keyval : {s k p t : List ℕ} → s ≡ k ++ (p ++ t) → Key k → KeyvalSep p → Val v t → Keyval v s

  -- ---- Array
  -- array = array-open [ array-values ] ws-comment-newline array-close
  -- array-open =  %x5B ; [
  -- array-close = %x5D ; ]
  pub data Array (v : Edition) : List ℕ → Type 0 where
    empty : {s w : List ℕ} → s ≡ kind_number LeftSquareBracket ∷ (w ++ (kind_number RightSquareBracket ∷ []))
        → WsCommentNewline w → Array v s
    full : {s t w : List ℕ} → s ≡ kind_number LeftSquareBracket ∷ (t ++ (w ++ (kind_number RightSquareBracket ∷ [])))
        → ArrayValues v t → WsCommentNewline w → Array v s

  -- array-values =  ws-comment-newline val ws-comment-newline array-sep array-values
  -- array-values =/ ws-comment-newline val ws-comment-newline [ array-sep ]
  -- array-sep = %x2C  ; , Comma
  pub data ArrayValues (v : Edition) : List ℕ → Type 0 where
    more : {s a t b r : List ℕ} → s ≡ a ++ (t ++ (b ++ (kind_number Comma ∷ r)))
        → WsCommentNewline a → Val v t → WsCommentNewline b → ArrayValues v r → ArrayValues v s
    last : {s a t b : List ℕ} → s ≡ a ++ (t ++ b)
        → WsCommentNewline a → Val v t → WsCommentNewline b → ArrayValues v s
    last_sep : {s a t b : List ℕ} → s ≡ a ++ (t ++ (b ++ (kind_number Comma ∷ [])))
        → WsCommentNewline a → Val v t → WsCommentNewline b → ArrayValues v s

  -- ---- Inline Table
  -- in TOML 1.0.0:
  -- inline-table = inline-table-open [ inline-table-keyvals ] inline-table-close
  -- inline-table-open  = %x7B ws     ; {
  -- inline-table-close = ws %x7D     ; }
  -- and in TOML 1.1.0:
  -- inline-table = inline-table-open [ inline-table-keyvals ] ws-comment-newline inline-table-close
  -- inline-table-open  = %x7B     ; {
  -- inline-table-close = %x7D     ; }
  pub data InlineTable (v : Edition) : List ℕ → Type 0 where
    empty_10 : {s a b : List ℕ} → s ≡ kind_number LeftCurlyBracket ∷ (a ++ (b ++ (kind_number RightCurlyBracket ∷ [])))
        → v ≡ Toml10 → Ws a → Ws b → InlineTable v s
    full_10 : {s a t b : List ℕ} → s ≡ kind_number LeftCurlyBracket ∷ (a ++ (t ++ (b ++ (kind_number RightCurlyBracket ∷ []))))
        → v ≡ Toml10 → Ws a → Keyvals v t → Ws b → InlineTable v s
    empty_11 : {s w : List ℕ} → s ≡ kind_number LeftCurlyBracket ∷ (w ++ (kind_number RightCurlyBracket ∷ []))
        → v ≡ Toml11 → WsCommentNewline w → InlineTable v s
    full_11 : {s t w : List ℕ} → s ≡ kind_number LeftCurlyBracket ∷ (t ++ (w ++ (kind_number RightCurlyBracket ∷ [])))
        → v ≡ Toml11 → Keyvals v t → WsCommentNewline w → InlineTable v s

  -- in TOML 1.0.0:
  -- inline-table-keyvals = keyval [ inline-table-sep inline-table-keyvals ]
  -- inline-table-sep   = ws %x2C ws  ; , Comma
  -- and in TOML 1.1.0:
  -- inline-table-keyvals =  ws-comment-newline keyval ws-comment-newline inline-table-sep inline-table-keyvals
  -- inline-table-keyvals =/ ws-comment-newline keyval ws-comment-newline [ inline-table-sep ]
  -- inline-table-sep   = %x2C     ; , Comma
  pub data Keyvals (v : Edition) : List ℕ → Type 0 where
    last_10 : {s : List ℕ} → v ≡ Toml10 → Keyval v s → Keyvals v s
    more_10 : {s t d r : List ℕ} → s ≡ t ++ (d ++ r)
        → v ≡ Toml10 → Keyval v t → Spaced (kind_number Comma) d → Keyvals v r → Keyvals v s
    more_11 : {s a t b r : List ℕ} → s ≡ a ++ (t ++ (b ++ (kind_number Comma ∷ r)))
        → v ≡ Toml11 → WsCommentNewline a → Keyval v t → WsCommentNewline b → Keyvals v r → Keyvals v s
    last_11 : {s a t b : List ℕ} → s ≡ a ++ (t ++ b)
        → v ≡ Toml11 → WsCommentNewline a → Keyval v t → WsCommentNewline b → Keyvals v s
    last_sep_11 : {s a t b : List ℕ} → s ≡ a ++ (t ++ (b ++ (kind_number Comma ∷ [])))
        → v ≡ Toml11 → WsCommentNewline a → Keyval v t → WsCommentNewline b → Keyvals v s
