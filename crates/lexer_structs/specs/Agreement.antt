-- STATEMENT. Theorems about both forms of whole lexing, each proved in proofs/Agreement.antt under the name that
-- its comment gives.
-- Assumes nothing.
use Rattle.std.specs.Prelude.{ℕ, ◌≡◌, List, map, length, take, Result}
use Rattle.lexer_token.specs.declared.Token.{Token}
use Rattle.lexer_token.specs.Records.{record_of}
use Rattle.text_refusals.specs.declared.Refusal.{Refusal}
use Rattle.lexer.specs.Whole.{lex_answer, lex_memory}
use Rattle.lexer_structs.specs.TokenMemory.{token_memory}
use Rattle.lexer_structs.specs.Turns.{writes_of}

-- what the promises of `lex_tokens` and of `lex` say of an answer and of what stands in the lent memory afterwards
abbrev pub TokensSaid : List ℕ → List Token → Result ℕ Refusal → List Token → Type 0
TokensSaid doc old r new = (r ≡ lex_answer doc (length old)) × (new ≡ token_memory doc old)

abbrev pub RecordsSaid : List ℕ → List (List ℕ) → Result ℕ Refusal → List (List ℕ) → Type 0
RecordsSaid doc old r new = (r ≡ lex_answer doc (length old)) × (new ≡ lex_memory doc old)

-- `same_records`: where the lent tokens and the lent records agree one by one before the calls, the calls answer the same,
-- and tokens and records agree one by one afterwards
abbrev pub SameRecords : Type 0
SameRecords =
    (doc : List ℕ) (ts us : List Token) (xs ys : List (List ℕ)) (r s : Result ℕ Refusal) → map record_of ts ≡ xs
    → TokensSaid doc ts r us → RecordsSaid doc xs s ys → (r ≡ s) × (map record_of us ≡ ys)

-- `same_written`: where as many are lent, whatever stands in them, the calls answer the same, and write the same
abbrev pub SameWritten : Type 0
SameWritten =
    (doc : List ℕ) (ts us : List Token) (xs ys : List (List ℕ)) (r s : Result ℕ Refusal) → length ts ≡ length xs
    → TokensSaid doc ts r us → RecordsSaid doc xs s ys
    → (r ≡ s) × (map record_of (take (writes_of r) us) ≡ take (writes_of s) ys)
