-- What the answers say of the turns, and what each turn leaves: the i-th step gives the i-th token of whole lexing, so that
-- a turn stores it, and as many turns as the answer says leave what the rule says.
-- Assumes nothing.
use Prim.Native.Nat.{ℕ, zero, suc, ◌+◌, ◌≤◌, ◌<◌}
use Rattle.std.specs.Prelude.{Result, Ok, Err, Some, None, ⊤}
use mathlib.Core.Path.{◌≡◌, refl, sym, ap, ◌∙◌}
use mathlib.Core.List.{List, [], ◌∷◌, ◌++◌, append_assoc}
use native.Mathlib.Omega.{arith}
use native.Mathlib.Numerals.{add-one}
use native.Mathlib.Decide.{dec_lt}
use borrow.Author.Tests.{lt-ltb, le-ltb}
use lib.ListN.{length, get_or, set, take, drop, length-append, length-drop}
use lib.Seq.{take-suc, take-length, length-take-le, drop-cons, set_at}
use Rattle.text_refusals.specs.Refusals.{limit}
use Rattle.text.specs.CheckMeans.{check_of}
use Rattle.text_refusals.specs.declared.Refusal.{Refusal}
use Rattle.text.proofs.AnswerLaws.{checked}
use Rattle.lexer_token.specs.declared.Token.{Token}
use Rattle.lexer.specs.Tokens.{tokens_of, eof_at}
use Rattle.lexer.specs.Steps.{start_answer, start_cursor, Step, step_of}
use Rattle.lexer.specs.Whole.{token_count, lex_answer}
use Rattle.lexer.specs.declared.Cursor.{Cursor}
use Rattle.theorems_tokens.specs.Lexing.{next_cursor, steps_from, Gives}
use Rattle.theorems_tokens.proofs.Lexing.{steps_whole}
use Rattle.lexer_structs.specs.TokenMemory.{token_memory}
use Rattle.lexer_structs.specs.Turns.{room_for, writes_of, token_given, next_of, stepped, cursor_after, stored}

-- ---- what is written: nothing, or every token

pub answer_valid : (doc : List ℕ) (room : ℕ) → check_of doc ≡ Ok tt → lex_answer doc room ≡ room_for (token_count doc) room
unfolding lex_answer
answer_valid doc room e = rw e

pub answer_broken : (doc : List ℕ) (room : ℕ) (r : Refusal) → check_of doc ≡ Err r → lex_answer doc room ≡ Err r
unfolding lex_answer
answer_broken doc room r e = rw e

-- how many records are written where the lent ones are `old`
abbrev pub written : List ℕ → List Token → ℕ
written doc old = writes_of (lex_answer doc (length old))

pub data Writes (doc : List ℕ) (old : List Token) : Type 0 where
  nothing : written doc old ≡ 0 → token_memory doc old ≡ old → Writes doc old
  whole : written doc old ≡ token_count doc → token_count doc ≤ length old → length doc ≤ limit
      → token_memory doc old ≡ tokens_of doc ++ drop (token_count doc) old → Writes doc old

pub writes : (doc : List ℕ) (old : List Token) → Writes doc old
unfolding token_memory
writes doc old = by_check (check_of doc) refl
  where
    by_room : check_of doc ≡ Ok tt → Writes doc old
    by_room e =
        elim (dec_lt (length old) (token_count doc)) [
          | yes h ↦ let t = lt-ltb (length old) (token_count doc) h in
              nothing (ap writes_of (answer_valid doc (length old) e) ∙ rw t) (rw (e, t))
          | no h ↦ let k : token_count doc ≤ length old = omega arith in let t = le-ltb (length old) (token_count doc) k in
              whole (ap writes_of (answer_valid doc (length old) e) ∙ rw t) k (checked doc e).0 (rw (e, t))
        ]

    by_check : (r : Result ⊤ Refusal) → check_of doc ≡ r → Writes doc old
    by_check (Ok _) e = by_room e
    by_check (Err r) e = nothing (ap writes_of (answer_broken doc (length old) r e)) (rw e)

-- no more records are written than are lent
pub writes_fit : (doc : List ℕ) (old : List Token) → written doc old ≤ length old
writes_fit doc old = go (writes doc old)
  where
    go : Writes doc old → written doc old ≤ length old
    go (nothing e m) = omega (arith, e)
    go (whole e h l m) = omega (arith, e, h)

-- ---- a step, by its answer

module _ (doc : List ℕ) (c : Cursor) where
  pub next_given : (t : Token) (d : Cursor) → step_of doc c ≡ Ok (Some (t, d)) → record { token = t; cursor = d } ≡ next_of doc c
  unfolding next_of
  next_given t d e = rw e

  module _ (t : Token) (blank : t ≡ eof_at 0 0) where
    pub next_end : step_of doc c ≡ Ok None → record { token = t; cursor = c } ≡ next_of doc c
    unfolding next_of
    next_end e = rw (blank, e)

    pub next_refused : (r : Refusal) → step_of doc c ≡ Err r → record { token = t; cursor = c } ≡ next_of doc c
    unfolding next_of
    next_refused r e = rw (blank, e)

-- ---- the i-th step gives the i-th token

pub first_cursor : (doc : List ℕ) → start_cursor (start_answer doc) ≡ cursor_after doc 0
unfolding cursor_after stepped
first_cursor doc = refl

pub next_cursor_lem : (doc : List ℕ) (k : ℕ) → (next_of doc (cursor_after doc k)).cursor ≡ cursor_after doc (k + 1)
unfolding cursor_after stepped
next_cursor_lem doc k =
    let c = start_cursor (start_answer doc) in
    go k c ∙ ap (λ (n : ℕ). stepped n doc c) (sym (add-one k))
  where
    go : (k : ℕ) (c : Cursor) → (next_of doc (stepped k doc c)).cursor ≡ stepped (suc k) doc c
    go zero c = refl
    go (suc k) c = go k (next_of doc c).cursor

head_given : (t : Token) (ts : List Token) (s : Step) (rest : List Step) → Gives (t ∷ ts) (s ∷ rest) → token_given s ≡ t
head_given t ts (Ok (Some w)) rest g = g.0
head_given t ts (Ok None) rest g = absurd g
head_given t ts (Err r) rest g = absurd g

tail_given : (t : Token) (ts : List Token) (s : Step) (rest : List Step) → Gives (t ∷ ts) (s ∷ rest) → Gives ts rest
tail_given t ts (Ok (Some w)) rest g = g.1
tail_given t ts (Ok None) rest g = absurd g
tail_given t ts (Err r) rest g = absurd g

step_given : (doc : List ℕ) (ts : List Token) (k i : ℕ) (c : Cursor) → Gives ts (steps_from k doc c) → i < k → i < length ts
    → (next_of doc (stepped i doc c)).token ≡ get_or ts i (eof_at 0 0)
unfolding next_of steps_from stepped
step_given doc [] k i c g h l = absurd (omega arith)
step_given doc (t ∷ ts) zero i c g h l = absurd (omega arith)
step_given doc (t ∷ ts) (suc k) zero c g h l = head_given t ts (step_of doc c) (steps_from k doc (next_cursor c (step_of doc c))) g
step_given doc (t ∷ ts) (suc k) (suc i) c g h l =
    let rest = steps_from k doc (next_cursor c (step_of doc c)) in
    step_given doc ts k i (next_of doc c).cursor (tail_given t ts (step_of doc c) rest g) (omega arith) (omega arith)

pub next_token : (doc : List ℕ) (i : ℕ) → length doc ≤ limit → i < token_count doc
    → (next_of doc (cursor_after doc i)).token ≡ get_or (tokens_of doc) i (eof_at 0 0)
unfolding cursor_after
next_token doc i l h =
    step_given doc (tokens_of doc) (suc i) i (start_cursor (start_answer doc)) (steps_whole doc l (suc i)) (omega arith) h

-- ---- what is stored

store_next : (ts old : List Token) (k : ℕ) (d : Token) → k < length ts → k < length old
    → set (take k ts ++ drop k old) k (get_or ts k d) ≡ take (k + 1) ts ++ drop (k + 1) old
store_next ts old k d h l =
    let e : length (take k ts) ≡ k = length-take-le k ts (omega arith) in
    ap (λ (r : List Token). set (take k ts ++ r) k (get_or ts k d)) (drop-cons old k d l)
    ∙ set_at (take k ts) (get_or old k d) (drop (suc k) old) (get_or ts k d) k e
    ∙ sym (append_assoc (take k ts) (get_or ts k d ∷ []) (drop (suc k) old))
    ∙ ap (λ (r : List Token). r ++ drop (suc k) old) (sym (take-suc ts k d h))
    ∙ ap (λ (n : ℕ). take n ts ++ drop n old) (sym (add-one k))

module _ (doc : List ℕ) (old : List Token) where
  pub stored_none : stored doc old 0 ≡ old
  unfolding stored
  stored_none = refl

  pub stored_next : (k : ℕ) → k < written doc old
      → set (stored doc old k) k (next_of doc (cursor_after doc k)).token ≡ stored doc old (k + 1)
  unfolding stored
  stored_next k h = go (writes doc old)
    where
      go : Writes doc old → set (stored doc old k) k (next_of doc (cursor_after doc k)).token ≡ stored doc old (k + 1)
      go (nothing e m) = absurd (omega (arith, e, h))
      go (whole e r l m) =
          ap (set (take k (tokens_of doc) ++ drop k old) k) (next_token doc k l (omega (arith, e, h)))
          ∙ store_next (tokens_of doc) old k (eof_at 0 0) (omega (arith, e, h)) (omega (arith, e, h, r))

  pub length_stored : (k : ℕ) → k ≤ written doc old → length (stored doc old k) ≡ length old
  unfolding stored
  length_stored k h = go (writes doc old)
    where
      sum : k ≤ token_count doc → k ≤ length old → length (stored doc old k) ≡ length old
      sum l r =
          let e = length-take-le k (tokens_of doc) l in
          length-append (take k (tokens_of doc)) (drop k old) ∙ omega (arith, e, length-drop k old)

      go : Writes doc old → length (stored doc old k) ≡ length old
      go (nothing e m) = sum (omega (arith, e, h)) (omega (arith, e, h))
      go (whole e r l m) = sum (omega (arith, e, h)) (omega (arith, e, h, r))

  pub stored_all : stored doc old (written doc old) ≡ token_memory doc old
  unfolding stored
  stored_all = go (writes doc old)
    where
      go : Writes doc old → stored doc old (written doc old) ≡ token_memory doc old
      go (nothing e m) = ap (stored doc old) e ∙ sym m
      go (whole e r l m) =
          ap (stored doc old) e ∙ ap (λ (ts : List Token). ts ++ drop (token_count doc) old) (take-length (tokens_of doc)) ∙ sym m
