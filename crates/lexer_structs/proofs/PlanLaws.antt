-- What one lent record tells of any number of them: the tokens needed, or a refusal that does not depend on the records.
-- Assumes nothing.
use Prim.Native.Nat.{ℕ}
use Rattle.std.specs.Prelude.{Result, Ok, Err, ⊤}
use mathlib.Core.Path.{◌≡◌, refl, sym, ap, ◌∙◌}
use mathlib.Core.List.{List}
use native.Mathlib.Omega.{arith}
use lib.Dec.{ltb, eqb}
use lib.ListN.{length}
use Rattle.text_classes.proofs.Conds.{cond_case}
use Rattle.text_refusals.specs.Refusals.{limit}
use Rattle.text_scalars.specs.Utf8Read.{valid_prefix}
use Rattle.text.specs.CheckMeans.{check_of}
use Rattle.text_refusals.specs.declared.Refusal.{Refusal}
use Rattle.text_refusals.specs.declared.Refusal.TheVariants.{FewTokens}
use Rattle.lexer.specs.Whole.{token_count, lex_answer}
use Rattle.text_refusals.specs.Told.{told_count}
use Rattle.lexer_structs.specs.Turns.{room_for}
use Rattle.lexer_structs.proofs.TurnLaws.{answer_valid, answer_broken}

-- the UTF-8 check never gives refusal 3, that records are too few
check_not_few : (doc : List ℕ) (n : ℕ) → check_of doc ≡ Err (FewTokens n) → ⊥
unfolding check_of
check_not_few doc n =
    let P : Result ⊤ Refusal → Type 0 = λ c. c ≡ Err (FewTokens n) → ⊥ in
    cond_case P (ltb limit (length doc)) (λ t e. let z : ◌≡◌ {A = ℕ} 0 1 = cc in omega arith)
    λ _. cond_case P (eqb (valid_prefix doc) (length doc)) (λ t e. let z : ◌≡◌ {A = ℕ} 0 1 = cc in omega arith)
    (λ t e. let z : ◌≡◌ {A = ℕ} 0 1 = cc in omega arith)

module _ (doc : List ℕ) (k room : ℕ) where
  -- the number that an answer returns is the document's count of tokens, unless it is refused for another reason
  counted : (n : ℕ) → ((r : Refusal) → lex_answer doc k ≡ Err r → r ≡ FewTokens n) → told_count (lex_answer doc k) ≡ n
      → room_for n room ≡ lex_answer doc room
  counted n few is = go (check_of doc) refl
    where
      go : (c : Result ⊤ Refusal) → check_of doc ≡ c → room_for n room ≡ lex_answer doc room
      go (Err r) e = absurd (check_not_few doc n (e ∙ ap Err (few r (answer_broken doc k r e))))
      go (Ok _) e =
          let needed : told_count (room_for (token_count doc) k) ≡ token_count doc =
          cond_case (λ (x : Result ℕ Refusal). told_count x ≡ token_count doc) (ltb k (token_count doc)) (λ t. refl) (λ t. refl) in
          let same : n ≡ token_count doc = sym is ∙ ap told_count (answer_valid doc k e) ∙ needed in
          ap (λ (m : ℕ). room_for m room) same ∙ sym (answer_valid doc room e)

  pub plan_tokens : (n : ℕ) → lex_answer doc k ≡ Ok n → room_for n room ≡ lex_answer doc room
  plan_tokens n a = counted n (λ r e. let z : ◌≡◌ {A = ℕ} 0 1 = cc in absurd (omega arith)) (ap told_count a)

  pub plan_few : (n : ℕ) → lex_answer doc k ≡ Err (FewTokens n) → room_for n room ≡ lex_answer doc room
  plan_few n a = counted n (λ r e. cc) (ap told_count a)

  pub plan_other : (r : Refusal) → lex_answer doc k ≡ Err r → ((n : ℕ) → r ≡ FewTokens n → ⊥) → Err r ≡ lex_answer doc room
  plan_other r a other = go (check_of doc) refl
    where
      go : (c : Result ⊤ Refusal) → check_of doc ≡ c → Err r ≡ lex_answer doc room
      go (Err x) e = let b = answer_broken doc k x e in let d = answer_broken doc room x e in cc
      go (Ok _) e =
          cond_case (λ (x : Result ℕ Refusal). x ≡ Err r → Err r ≡ lex_answer doc room) (ltb k (token_count doc))
          (λ t b. absurd (other (token_count doc) cc))
          (λ t b. let z : ◌≡◌ {A = ℕ} 0 1 = cc in absurd (omega arith))
          (sym (answer_valid doc k e) ∙ a)
