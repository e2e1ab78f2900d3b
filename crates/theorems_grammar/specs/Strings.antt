-- RULE. TOML's four kinds of string: which token and which encoding each is, and what it is for a text of code points to be
-- derived, and to mean a value.
use Rattle.std.specs.Prelude.{ℕ}
use mathlib.Core.{Path.◌≡◌, Bool.false, List.List}
use Rattle.text_classes.specs.{Runs.stands}
use Rattle.text_scalars.specs.{Utf8.Scalar, Utf8.All}
use Rattle.lexer_token.specs.declared.{TokenKind.TokenKind}
use Rattle.lexer_token.specs.declared.TokenKind.TheVariants.{LiteralString as LiteralToken, BasicString as BasicToken, MlLiteralString as MlLiteralToken, MlBasicString as MlBasicToken}
use Rattle.decoder_rules.specs.declared.{Edition.Edition, Encoding.Encoding}
use Rattle.decoder_rules.specs.declared.Encoding.TheVariants.{LiteralString as LiteralText, BasicString as BasicText, MlLiteralString as MlLiteralText, MlBasicString as MlBasicText}
use Rattle.theorems_grammar.specs.{Grammar.apostrophe, Grammar.quotation_mark, Grammar.LiteralString, Grammar.BasicString, Grammar.MlLiteralString, Grammar.MlBasicString, Prose.MlLiteralObeys, Prose.MlBasicObeys}

-- string = ml-basic-string / basic-string / ml-literal-string / literal-string
pub data StringKind : Type 0 where
  ml_basic basic ml_literal literal : StringKind

-- the token that the lexer gives for it
abbrev pub token_kind : StringKind → TokenKind
token_kind ml_basic = MlBasicToken
token_kind basic = BasicToken
token_kind ml_literal = MlLiteralToken
token_kind literal = LiteralToken

-- the decoder that reads it in an edition of TOML
abbrev pub encoding : Edition → StringKind → Encoding
encoding ed ml_basic = MlBasicText ed
encoding ed basic = BasicText ed
encoding ed ml_literal = MlLiteralText
encoding ed literal = LiteralText

-- its quote mark
abbrev pub mark : StringKind → ℕ
mark ml_basic = quotation_mark
mark basic = quotation_mark
mark ml_literal = apostrophe
mark literal = apostrophe

-- the bytes s do not begin with the mark q
abbrev pub Apart : ℕ → List ℕ → Type 0
Apart q s = stands q s ≡ false

-- in an edition the kind's rule derives the code points cs with the value v, and each \u and \U in them names a scalar value:
-- v is of scalar values, as all else in a text is anyhow (`names_mean` in proofs/Values.antt)
abbrev pub Derived : Edition → StringKind → List ℕ → List ℕ → Type 0
Derived ed ml_basic cs v = MlBasicString ed cs v × All Scalar v
Derived ed basic cs v = BasicString ed cs v × All Scalar v
Derived ed ml_literal cs v = MlLiteralString cs v
Derived ed literal cs v = LiteralString cs v

-- and the derivation obeys the two prose rules: the newline after the opening is dropped, and a line-ending backslash drops
-- all that it can
abbrev pub Means : Edition → StringKind → List ℕ → List ℕ → Type 0
Means ed ml_basic cs v = (d : MlBasicString ed cs v) × MlBasicObeys d × All Scalar v
Means ed basic cs v = BasicString ed cs v × All Scalar v
Means ed ml_literal cs v = (d : MlLiteralString cs v) × MlLiteralObeys d
Means ed literal cs v = LiteralString cs v
