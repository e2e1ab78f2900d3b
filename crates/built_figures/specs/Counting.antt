-- What the helpers of this crate's code say. Not to be believed: no promise of a public function cites it.
-- Assumes nothing.
use Rattle.std.specs.Prelude.{ℕ, ◌<◌, ◌^◌, ◌≡◌, Bool, false, List, [], ◌∷◌, length, get_or, set, replicate, None}
use Rattle.lexer_token.specs.KindNumbers.{kind_number}
use Rattle.lexer_token.specs.declared.TokenKind.{TokenKind}
use Rattle.lexer_token.specs.declared.TokenKind.TheVariants.{Dot, Equals, Comma, LeftSquareBracket, RightSquareBracket, LeftCurlyBracket, RightCurlyBracket, Whitespace, Comment, Newline, LiteralString, BasicString, MlLiteralString, MlBasicString, Atom, Eof}
use Rattle.lexer_token.specs.declared.Token.{Token}
use Rattle.decoder_rules.specs.declared.Encoding.{Encoding}
use Rattle.decoder_rules.specs.declared.Piece.{Piece}
use Rattle.decoder_rules.specs.Bodies.{piece_of}
use Rattle.built_figures.specs.Figures.{added, figures_for, numbers_of, token_error_numbers}

-- totals to begin with
abbrev pub zeros : List ℕ
zeros = replicate 33 0

-- one at a place, and zeros elsewhere
abbrev pub one_at : ℕ → List ℕ
one_at slot = set zeros slot 1

-- each of some numbers has 64 bits at the most
abbrev pub Fit : List ℕ → Type 0
Fit ns = (i : ℕ) → get_or ns i 0 < 2 ^ 64

-- thirty-three counts to which more can be added
pub record Room (counts more : List ℕ) : Type 0 where
  pub long : length counts ≡ 33
  pub fits : Fit (added counts more)

-- the place of a kind in the table of kinds
abbrev pub kind_slot : TokenKind → ℕ
kind_slot Dot = 0
kind_slot Equals = 1
kind_slot Comma = 2
kind_slot LeftSquareBracket = 3
kind_slot RightSquareBracket = 4
kind_slot LeftCurlyBracket = 5
kind_slot RightCurlyBracket = 6
kind_slot Whitespace = 7
kind_slot Comment = 8
kind_slot Newline = 9
kind_slot LiteralString = 10
kind_slot BasicString = 11
kind_slot MlLiteralString = 12
kind_slot MlBasicString = 13
kind_slot Atom = 14
kind_slot Eof = 15

-- what one token adds, and what some errors add
abbrev pub token_figures : List ℕ → Token → List ℕ
token_figures doc t = figures_for (kind_number t.kind ∷ []) (token_error_numbers doc t)

abbrev pub error_figures : List (List ℕ) → List ℕ
error_figures errors = figures_for [] (numbers_of errors)

-- n bytes at the front of s are the rule's piece, without an error, and no line-ending escape goes on after it
pub record SoundAt (e : Encoding) (d : Bool) (s : List ℕ) (n : ℕ) : Type 0 where
  pub piece : Piece
  pub reads : (at : ℕ) → piece_of e d at s ≡ piece
  pub takes : piece.take ≡ n
  pub clean : piece.verdict ≡ None
  pub outside : piece.dropping ≡ false
