-- The theorems of specs/Agreement.antt: the two forms have one rule, so what one leaves is what the other leaves, read into
-- records.
-- Assumes nothing.
use Prim.Native.Nat.{ℕ, zero, suc}
use native.Mathlib.Omega.{arith}
use mathlib.Core.Path.{◌≡◌, refl, sym, ap, ◌∙◌}
use mathlib.Core.Bool.{Bool, true, false, cond}
use mathlib.Core.List.{List, [], ◌∷◌, ◌++◌, map, map-append}
use lib.Dec.{ltb}
use lib.ListN.{length, take, drop, length-map}
use lib.Seq.{take-append-le}
use Rattle.text.specs.CheckMeans.{check_of}
use Rattle.std.specs.Prelude.{Result, Ok, Err, ⊤}
use Rattle.text_refusals.specs.declared.Refusal.{Refusal}
use Rattle.text_refusals.specs.declared.Refusal.TheVariants.{FewTokens}
use Rattle.lexer_token.specs.declared.Token.{Token}
use Rattle.lexer_token.specs.Records.{record_of}
use Rattle.lexer.specs.Tokens.{tokens_of}
use Rattle.lexer.specs.Whole.{records_of, token_count, lex_checked, lex_answer, memory_checked, lex_memory}
use Rattle.lexer_structs.specs.TokenMemory.{tokens_checked, token_memory}
use Rattle.lexer_structs.specs.Turns.{writes_of}
use Rattle.lexer_structs.specs.Agreement.{SameRecords, SameWritten}

map_drop : (n : ℕ) (ts : List Token) → map record_of (drop n ts) ≡ drop n (map record_of ts)
map_drop zero ts = refl
map_drop (suc n) [] = refl
map_drop (suc n) (t ∷ ts) = map_drop n ts

map_take : (n : ℕ) (ts : List Token) → map record_of (take n ts) ≡ take n (map record_of ts)
map_take zero ts = refl
map_take (suc n) [] = refl
map_take (suc n) (t ∷ ts) = ap (λ (r : List (List ℕ)). record_of t ∷ r) (map_take n ts)

-- the tokens that `lex_tokens` leaves, read into records, are the records that `lex` leaves
pub memories_agree : (doc : List ℕ) (old : List Token) → map record_of (token_memory doc old) ≡ lex_memory doc (map record_of old)
unfolding token_memory lex_memory records_of
memories_agree doc old = by_check (check_of doc)
  where
    by_room : (t : Bool)
        → map record_of (cond t old (tokens_of doc ++ drop (token_count doc) old))
        ≡ cond t (map record_of old) (map record_of (tokens_of doc) ++ drop (token_count doc) (map record_of old))
    by_room true = refl
    by_room false =
        map-append record_of (tokens_of doc) (drop (token_count doc) old)
        ∙ ap (λ (r : List (List ℕ)). map record_of (tokens_of doc) ++ r) (map_drop (token_count doc) old)

    by_check : (c : Result ⊤ Refusal) → map record_of (tokens_checked c doc old) ≡ memory_checked c doc (map record_of old)
    by_check (Err r) = refl
    by_check (Ok _) = rw (length-map old record_of) (by_room (ltb (length old) (token_count doc)))

-- what is written does not depend on what stood there
new_in_front : {A : Type 0} (new old : List A) (n : ℕ) (t : Bool) → length new ≡ n
    → take (writes_of (cond t (Err (FewTokens n)) (Ok n))) (cond t old (new ++ drop n old))
    ≡ take (writes_of (cond t (Err (FewTokens n)) (Ok n))) new
new_in_front new old n true e = refl
new_in_front new old n false e = take-append-le n new (drop n old) (omega (arith, e))

tokens_written : (doc : List ℕ) (old : List Token)
    → take (writes_of (lex_answer doc (length old))) (token_memory doc old)
    ≡ take (writes_of (lex_answer doc (length old))) (tokens_of doc)
unfolding lex_answer token_memory
tokens_written doc old = by_check (check_of doc)
  where
    by_check : (c : Result ⊤ Refusal)
        → take (writes_of (lex_checked c doc (length old))) (tokens_checked c doc old)
        ≡ take (writes_of (lex_checked c doc (length old))) (tokens_of doc)
    by_check (Err r) = refl
    by_check (Ok _) = new_in_front (tokens_of doc) old (token_count doc) (ltb (length old) (token_count doc)) refl

records_written : (doc : List ℕ) (old : List (List ℕ))
    → take (writes_of (lex_answer doc (length old))) (lex_memory doc old)
    ≡ take (writes_of (lex_answer doc (length old))) (records_of doc)
unfolding lex_answer lex_memory records_of
records_written doc old = by_check (check_of doc)
  where
    by_check : (c : Result ⊤ Refusal)
        → take (writes_of (lex_checked c doc (length old))) (memory_checked c doc old)
        ≡ take (writes_of (lex_checked c doc (length old))) (records_of doc)
    by_check (Err r) = refl
    by_check (Ok _) =
        let n = token_count doc in new_in_front (records_of doc) old n (ltb (length old) n) (length-map (tokens_of doc) record_of)

pub same_records : SameRecords
same_records doc ts us xs ys r s e a b =
    let as_many : length ts ≡ length xs = sym (length-map ts record_of) ∙ ap length e in (
      a.0 ∙ ap (lex_answer doc) as_many ∙ sym b.0,
      ap (map record_of) a.1 ∙ memories_agree doc ts ∙ ap (lex_memory doc) e ∙ sym b.1,
    )

as_records : (doc : List ℕ) (n : ℕ) → map record_of (take n (tokens_of doc)) ≡ take n (records_of doc)
unfolding records_of
as_records doc n = map_take n (tokens_of doc)

pub same_written : SameWritten
same_written doc ts us xs ys r s e a b =
    let same : r ≡ s = a.0 ∙ ap (lex_answer doc) e ∙ sym b.0 in
    let n = writes_of (lex_answer doc (length ts)) in
    let m = writes_of (lex_answer doc (length xs)) in (
      same,
      -- the tokens that are written are the first n of the document's, read into records its first n records, which are
      -- those that are written
      ap (λ (y : Result ℕ Refusal). map record_of (take (writes_of y) us)) a.0
          ∙ ap (λ (l : List Token). map record_of (take n l)) a.1
          ∙ ap (map record_of) (tokens_written doc ts)
          ∙ as_records doc n
          ∙ ap (λ (k : ℕ). take (writes_of (lex_answer doc k)) (records_of doc)) e
          ∙ sym (records_written doc xs)
          ∙ ap (take m) (sym b.1)
          ∙ ap (λ (y : Result ℕ Refusal). take (writes_of y) ys) (sym b.0),
    )
