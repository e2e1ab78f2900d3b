-- What the helpers of `first_broken_in` say, from token to token and within one string. None of it is a rule: no promise of a
-- public function cites it.
-- Assumes nothing.
use Rattle.std.specs.Prelude.{ℕ, ◌+◌, ◌≤◌, ◌<◌, ◌≡◌, true, false, List, [], take, drop, get_or, None, Ok}
use Rattle.lexer_token.specs.Encodings.{kind_encoding}
use Rattle.lexer_token.specs.declared.TokenKind.{TokenKind}
use Rattle.lexer_token.specs.declared.TokenKind.TheVariants.{LiteralString as LiteralToken, BasicString as BasicToken, MlLiteralString as MlLiteralToken, MlBasicString as MlBasicToken, Atom}
use Rattle.lexer.specs.Lines.{line_of}
use Rattle.lexer.specs.Table.{kind_of, token_len}
use Rattle.lexer.specs.Tokens.{tokens_from}
use Rattle.decoder_rules.specs.Encodings.{choice_in}
use Rattle.decoder_rules.specs.Decoding.{errors_by}
use Rattle.decoder_rules.specs.Bodies.{piece_of}
use Rattle.decoder_rules.specs.declared.Edition.{Edition}
use Rattle.decoder_rules.specs.declared.Encoding.{Encoding}
use Rattle.decoder_rules.specs.declared.Encoding.TheVariants.{LiteralString, BasicString, MlLiteralString, MlBasicString, UnquotedKey}
use Rattle.decoder_rules.specs.declared.Piece.{Piece}
use Rattle.decoder_pieces.specs.declared.body.Body.{Body}
use Rattle.built_broken.specs.Broken.{BrokenFound, is_utf8, first_among}
use Rattle.built_broken.specs.declared.look.Asks.{Asks}
use Rattle.built_broken.specs.declared.look.Asks.TheVariants.{Nothing, Characters, Decoding}
use Rattle.built_broken.specs.declared.look.Look.{Look}

-- the answer by the tokens from the place `at` on
abbrev pub first_from : List ℕ → ℕ → ℕ → BrokenFound
first_from doc edition at = first_among doc edition (tokens_from at (line_of doc at) (drop at doc))

-- the bytes of the token at the front of s
abbrev pub front_text : List ℕ → List ℕ
front_text s = take (token_len s) s

-- the kind of token that is decoded by an encoding
abbrev pub kind_behind : Encoding → TokenKind
kind_behind LiteralString = LiteralToken
kind_behind (BasicString v) = BasicToken
kind_behind MlLiteralString = MlLiteralToken
kind_behind (MlBasicString v) = MlBasicToken
kind_behind UnquotedKey = Atom

-- what is to be asked of the token at the front of s: nothing of one that is surely UTF-8 and has no error; whether it is UTF-8 of any
-- other that is no string; and of a string by which encoding it is decoded
abbrev pub AskedOf : Edition → List ℕ → Asks → Type 0
AskedOf v s Nothing = (is_utf8 (front_text s) ≡ true) × (errors_by (choice_in v (kind_encoding (kind_of s))) (front_text s) ≡ [])
AskedOf v s Characters = kind_encoding (kind_of s) ≡ 0
AskedOf v s (Decoding e) = (kind_of s ≡ kind_behind e) × (choice_in v (kind_encoding (kind_of s)) ≡ Ok e)

-- that, and where the token ends that stands at the place `at`
pub record Looked (v : Edition) (at : ℕ) (s : List ℕ) (l : Look) : Type 0 where
  pub asks : AskedOf v s l.asks
  pub end : l.end ≡ at + token_len s

-- the bytes of s from i up to j, as far as it has them, are ASCII
abbrev pub AsciiIn : List ℕ → ℕ → ℕ → Type 0
AsciiIn s i j = (k : ℕ) → i ≤ k → k < j → get_or s k 0 < 0x80

-- the first n bytes of a body b, whose bytes are s, are a piece without an error, after which no line-ending escape goes on
pub record CleanFront (e : Encoding) (b : Body) (s : List ℕ) (n : ℕ) : Type 0 where
  pub piece : Piece
  pub reads : piece ≡ piece_of e b.dropping b.at s
  pub takes : piece.take ≡ n
  pub clean : piece.verdict ≡ None
  pub outside : piece.dropping ≡ false
