-- RULE. How deep brackets may be nested: in no first part of the run may the opening ones pass the closing ones by more
-- than 64, which is `depth`.
use Rattle.std.specs.Prelude.{ℕ, ◌+◌, ◌<◌}
use mathlib.Core.{Bool.Bool, Bool.cond, Bool.◌||◌, List.List, List.[], List.◌∷◌}
use lib.{ListN.take, Dec.eqb}
use Rattle.text_refusals.specs.Refusals.{depth}
use Rattle.lexer_token.specs.KindNumbers.{kind_number}
use Rattle.lexer_token.specs.declared.TokenKind.TheVariants.{LeftSquareBracket, RightSquareBracket, LeftCurlyBracket, RightCurlyBracket}

-- the brackets, `[` and `{` together, `]` and `}` together
abbrev pub is_opening : ℕ → Bool
is_opening k = eqb k (kind_number LeftSquareBracket) || eqb k (kind_number LeftCurlyBracket)

abbrev pub is_closing : ℕ → Bool
is_closing k = eqb k (kind_number RightSquareBracket) || eqb k (kind_number RightCurlyBracket)

-- how many of some kinds pass a test
unfoldable pub count_if : (ℕ → Bool) → List ℕ → ℕ
count_if p [] = 0
count_if p (k ∷ s) = cond (p k) 1 0 + count_if p s

-- in some first part of the run the opening brackets pass the closing ones by more than 64
abbrev pub Deep : List ℕ → Type 0
Deep s = (n : ℕ) × (count_if is_closing (take n s) + depth < count_if is_opening (take n s))
