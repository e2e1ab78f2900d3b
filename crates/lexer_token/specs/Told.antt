-- FOLLOWS. The answers of this crate in numbers, by the number that is read as a kind. Promises say that they are those of the
-- answers, which Told.antt of crate `text_refusals` reads off them; it is proved where each promise is.
-- Assumes nothing.
use Rattle.std.specs.Prelude.{ℕ, ◌≡◌, Bool, true, false, cond, Result, Ok, Err}
use Rattle.text_refusals.specs.{Told.told_number, Told.told_value}
use Rattle.text_refusals.specs.declared.{Refusal.Refusal}
use Rattle.lexer_token.specs.{KindNumbers.kind_of_number}
use Rattle.lexer_token.specs.declared.{TokenKind.TokenKind}

-- the numbers that are a kind's
abbrev pub is_read : Result TokenKind Refusal → Bool
is_read (Ok k) = true
is_read (Err r) = false

abbrev pub is_kind : ℕ → Bool
is_kind n = is_read (kind_of_number n)

-- the number and the value for a number n: 7 and n itself where n is no kind's, else 0 and 0
abbrev pub kind_refusal : ℕ → ℕ
kind_refusal n = cond (is_kind n) 0 7

abbrev pub kind_returned : ℕ → ℕ
kind_returned n = cond (is_kind n) 0 n

-- what a number n is read as: the kind that has it, or the refusal, and the numbers of that answer
pub record KindGives (n : ℕ) (r : Result TokenKind Refusal) : Type 0 where
  pub answer : r ≡ kind_of_number n
  pub number : told_number r ≡ kind_refusal n
  pub value : told_value r ≡ kind_returned n
