-- FOLLOWS. Whole lexing into eight token structs of its own, by value: what `lex_tokens` answers for eight records, and leaves in
-- them.
-- Assumes nothing.
use mathlib.Core.{List.List}
use Rattle.std.specs.Prelude.{ℕ}
use lib.{ListN.replicate}
use Rattle.lexer_token.specs.declared.{Token.Token}
use Rattle.lexer.specs.{Tokens.eof_at, Whole.lex_answer}
use Rattle.lexer_structs.specs.{TokenMemory.token_memory}
use Rattle.lexer_structs.specs.declared.{LexedEight.LexedEight}

-- eight records before anything is written: an Eof at place 0 of line 0 in each
abbrev pub eight_blank : List Token
eight_blank = replicate 8 (eof_at 0 0)

-- the answer for eight such records, and what they hold afterwards
abbrev pub eight_of : List ℕ → LexedEight
eight_of doc = record { answer = lex_answer doc 8; tokens = token_memory doc eight_blank }
