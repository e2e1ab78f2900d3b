-- The numbers of each answer: which refusal, and the number returned.
-- Assumes nothing.
use Prim.Native.Nat.{ℕ}
use Rattle.std.specs.Prelude.{Result, Ok, ⊤}
use mathlib.Core.Path.{◌≡◌, refl, ap, ◌∙◌}
use mathlib.Core.List.{List}
use lib.ListN.{length}
use lib.Dec.{ltb, eqb}
use Rattle.text_classes.proofs.Conds.{cond_case, of_choice}
use Rattle.text_refusals.specs.Refusals.{limit}
use Rattle.text_scalars.specs.Utf8Read.{valid_prefix}
use Rattle.text.specs.CheckMeans.{check_of}
use Rattle.text_refusals.specs.declared.Refusal.{Refusal}
use Rattle.text_refusals.specs.Told.{told_number, told_length, told_count}
use Rattle.lexer.specs.Told.{lex_refusal, lex_returned, lex_fault}
use Rattle.lexer.specs.Whole.{token_count, lex_checked, lex_answer, lex_memory}

lexed_numbers : (doc : List ℕ) (room : ℕ) (r : Result ℕ Refusal) → r ≡ lex_answer doc room
    → (told_number r ≡ lex_refusal doc room) × ((told_count r ≡ lex_returned doc) × (told_length r ≡ lex_fault doc))
unfolding lex_answer check_of
lexed_numbers doc room r e =
    let long = ltb limit (length doc) in
    let whole = eqb (valid_prefix doc) (length doc) in
    let few = ltb room (token_count doc) in
    let number : Result ⊤ Refusal → ℕ = λ u. told_number (lex_checked u doc room) in
    let value : Result ⊤ Refusal → ℕ = λ u. told_count (lex_checked u doc room) in
    let fault : Result ⊤ Refusal → ℕ = λ u. told_length (lex_checked u doc room) in
    let same : told_count (lex_checked (Ok tt) doc room) ≡ token_count doc =
    cond_case (λ (x : Result ℕ Refusal). told_count x ≡ token_count doc) few (λ _. refl) (λ _. refl) in
    let no-fault : told_length (lex_checked (Ok tt) doc room) ≡ 0 =
    cond_case (λ (x : Result ℕ Refusal). told_length x ≡ 0) few (λ _. refl) (λ _. refl) in (
      ap told_number e ∙ of_choice number long refl (of_choice number whole (of_choice told_number few refl refl) refl),
      (
        ap told_count e ∙ of_choice value long refl (of_choice value whole same refl),
        ap told_length e ∙ of_choice fault long refl (of_choice fault whole no-fault refl),
      ),
    )

-- the five promises of whole lexing, from the answer and the memory
pub lexed : (doc : List ℕ) (old : List (List ℕ)) (r : Result ℕ Refusal) (new : List (List ℕ))
    → r ≡ lex_answer doc (length old) → new ≡ lex_memory doc old
    → record {
      answer : r ≡ lex_answer doc (length old);
      number : told_number r ≡ lex_refusal doc (length old);
      value : told_count r ≡ lex_returned doc;
      length : told_length r ≡ lex_fault doc;
      memory : new ≡ lex_memory doc old;
    }
lexed doc old r new e m =
    let n = lexed_numbers doc (length old) r e in
    record { answer = e; number = n.0; value = n.1.0; length = n.1.1; memory = m }
