-- RULE. Whole lexing into lent records of four numbers.
use Rattle.std.specs.Prelude.{ℕ, Result, Ok, Err, ⊤}
use mathlib.Core.{Bool.cond, List.List, List.◌++◌, List.map}
use lib.{ListN.length, ListN.drop, Dec.ltb}
use Rattle.text.specs.{CheckMeans.check_of}
use Rattle.text_refusals.specs.declared.{Refusal.Refusal, Refusal.TheVariants.FewTokens}
use Rattle.lexer_token.specs.{Records.record_of}
use Rattle.lexer.specs.{Tokens.tokens_of}

-- the records of a document
unfoldable pub records_of : List ℕ → List (List ℕ)
records_of doc = map record_of (tokens_of doc)

-- how many there are, Eof counted
abbrev pub token_count : List ℕ → ℕ
token_count doc = length (tokens_of doc)

-- refusals 2 and 1, which are the UTF-8 check's; then 3 with the tokens needed where fewer records are lent; else the
-- count of tokens
abbrev pub lex_checked : Result ⊤ Refusal → List ℕ → ℕ → Result ℕ Refusal
lex_checked (Err r) doc room = Err r
lex_checked (Ok _) doc room = cond (ltb room (token_count doc)) (Err (FewTokens (token_count doc))) (Ok (token_count doc))

unfoldable pub lex_answer : List ℕ → ℕ → Result ℕ Refusal
lex_answer doc room = lex_checked (check_of doc) doc room

-- the records afterwards: filled from the front, those after the last written kept; all kept where refused
abbrev pub memory_checked : Result ⊤ Refusal → List ℕ → List (List ℕ) → List (List ℕ)
memory_checked (Err r) doc old = old
memory_checked (Ok _) doc old = cond (ltb (length old) (token_count doc)) old (records_of doc ++ drop (token_count doc) old)

unfoldable pub lex_memory : List ℕ → List (List ℕ) → List (List ℕ)
lex_memory doc old = memory_checked (check_of doc) doc old
