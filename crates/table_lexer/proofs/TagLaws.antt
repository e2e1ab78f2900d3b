-- The kinds that are left where a `match` names the others: they have one byte, or they hold no LF.
use mathlib.Core.Path.{◌≡◌, refl}
use mathlib.Core.Bool.{false}
use mathlib.Core.List.{List}
use Prim.Native.Nat.{ℕ}
use Rattle.lexer_token.specs.declared.TokenKind.{TokenKind}
use Rattle.lexer_token.specs.declared.TokenKind.TheVariants.{Dot, Equals, Comma, LeftSquareBracket, RightSquareBracket, LeftCurlyBracket, RightCurlyBracket, Whitespace, Comment, Newline, LiteralString, BasicString, MlLiteralString, MlBasicString, Atom, Eof}
use Rattle.lexer.specs.Table.{extent}
use Rattle.lexer.proofs.LineLaws.{holds_lf}

-- none of the kinds that `end_of` names
pub record Single (k : TokenKind) : Type 0 where
  pub no_whitespace : k ≡ Whitespace → ⊥
  pub no_comment : k ≡ Comment → ⊥
  pub no_newline : k ≡ Newline → ⊥
  pub no_literal : k ≡ LiteralString → ⊥
  pub no_basic : k ≡ BasicString → ⊥
  pub no_ml_literal : k ≡ MlLiteralString → ⊥
  pub no_ml_basic : k ≡ MlBasicString → ⊥
  pub no_atom : k ≡ Atom → ⊥
  pub no_eof : k ≡ Eof → ⊥

pub one_byte : (k : TokenKind) (s : List ℕ) → Single k → extent k s ≡ 1
unfolding extent
one_byte Dot s o = refl
one_byte Equals s o = refl
one_byte Comma s o = refl
one_byte LeftSquareBracket s o = refl
one_byte RightSquareBracket s o = refl
one_byte LeftCurlyBracket s o = refl
one_byte RightCurlyBracket s o = refl
one_byte Whitespace s o = absurd (o.no_whitespace refl)
one_byte Comment s o = absurd (o.no_comment refl)
one_byte Newline s o = absurd (o.no_newline refl)
one_byte LiteralString s o = absurd (o.no_literal refl)
one_byte BasicString s o = absurd (o.no_basic refl)
one_byte MlLiteralString s o = absurd (o.no_ml_literal refl)
one_byte MlBasicString s o = absurd (o.no_ml_basic refl)
one_byte Atom s o = absurd (o.no_atom refl)
one_byte Eof s o = absurd (o.no_eof refl)

pub no_lf : (k : TokenKind) → (k ≡ Newline → ⊥) → (k ≡ MlLiteralString → ⊥) → (k ≡ MlBasicString → ⊥) → holds_lf k ≡ false
no_lf Dot n l b = refl
no_lf Equals n l b = refl
no_lf Comma n l b = refl
no_lf LeftSquareBracket n l b = refl
no_lf RightSquareBracket n l b = refl
no_lf LeftCurlyBracket n l b = refl
no_lf RightCurlyBracket n l b = refl
no_lf Whitespace n l b = refl
no_lf Comment n l b = refl
no_lf Newline n l b = absurd (n refl)
no_lf LiteralString n l b = refl
no_lf BasicString n l b = refl
no_lf MlLiteralString n l b = absurd (l refl)
no_lf MlBasicString n l b = absurd (b refl)
no_lf Atom n l b = refl
no_lf Eof n l b = refl
