-- FOLLOWS. The numbers in which the answers of lexing are told, by the arguments: promises say that they are those that the answer
-- tells, `told_number` and its like. Of whole lexing that is `lexed` in proofs/NumberLaws.antt; of the others the check proves it.
-- Assumes nothing.
use Rattle.std.specs.Prelude.{ℕ}
use mathlib.Core.{Bool.Bool, Bool.true, Bool.false, Bool.cond, List.List}
use lib.{ListN.length, Dec.ltb, Dec.eqb}
use Rattle.text_refusals.specs.{Refusals.limit}
use Rattle.text_scalars.specs.{Utf8Read.valid_prefix}
use Rattle.text.specs.{Told.check_fault}
use Rattle.lexer.specs.{Steps.astray, Whole.token_count}
use Rattle.lexer.specs.declared.{Cursor.Cursor}

-- whether a cursor is ended, as a number: 1 for yes
abbrev pub bit_of : Bool → ℕ
bit_of true = 1
bit_of false = 0

-- the start of a document: 2 with the limit, else 0
abbrev pub start_refusal : List ℕ → ℕ
start_refusal doc = cond (ltb limit (length doc)) 2 0

abbrev pub start_returned : List ℕ → ℕ
start_returned doc = cond (ltb limit (length doc)) limit 0

-- a step, by a document and a cursor: 2 with the limit, 6 with the document's length, else 0
abbrev pub step_refusal : List ℕ → Cursor → ℕ
step_refusal doc c = cond (ltb limit (length doc)) 2 (cond (astray doc c) 6 0)

abbrev pub step_returned : List ℕ → Cursor → ℕ
step_returned doc c = cond (ltb limit (length doc)) limit (cond (astray doc c) (length doc) 0)

-- whole lexing, by a document and `room` records: 2 with the limit, 1 with the length of the longest valid prefix, 3 with
-- the tokens needed, else 0 with the tokens; the second number is the check's
abbrev pub lex_refusal : List ℕ → ℕ → ℕ
lex_refusal doc room =
    cond (ltb limit (length doc)) 2 (cond (eqb (valid_prefix doc) (length doc)) (cond (ltb room (token_count doc)) 3 0) 1)

abbrev pub lex_returned : List ℕ → ℕ
lex_returned doc = cond (ltb limit (length doc)) limit (cond (eqb (valid_prefix doc) (length doc)) (token_count doc) (valid_prefix doc))

abbrev pub lex_fault : List ℕ → ℕ
lex_fault doc = check_fault doc
