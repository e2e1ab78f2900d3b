-- RULE. Whole lexing into lent token structs. What it answers is what whole lexing answers for as many records of four
-- numbers, `lex_answer`: refusals 2, 1 and 3 in this order, else the count of tokens.
use Rattle.std.specs.Prelude.{ℕ, Result, Ok, Err, ⊤}
use mathlib.Core.{Bool.cond, List.List, List.◌++◌}
use lib.{ListN.length, ListN.drop, Dec.ltb}
use Rattle.text.specs.{CheckMeans.check_of}
use Rattle.text_refusals.specs.declared.{Refusal.Refusal}
use Rattle.lexer_token.specs.declared.{Token.Token}
use Rattle.lexer.specs.{Tokens.tokens_of, Whole.token_count}

-- the records afterwards: filled from the front, those after the last written kept; all kept where refused
abbrev pub tokens_checked : Result ⊤ Refusal → List ℕ → List Token → List Token
tokens_checked (Err r) doc old = old
tokens_checked (Ok _) doc old = cond (ltb (length old) (token_count doc)) old (tokens_of doc ++ drop (token_count doc) old)

unfoldable pub token_memory : List ℕ → List Token → List Token
token_memory doc old = tokens_checked (check_of doc) doc old
