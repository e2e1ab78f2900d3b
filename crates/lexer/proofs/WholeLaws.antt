-- Whole lexing, case by case: what the tokens that begin before the end, stored, and Eof after them leave, and what each
-- answer is.
-- Assumes nothing.
use Prim.Native.Nat.{ℕ, ◌+◌, ◌≤◌, ◌<◌}
use Rattle.std.specs.Prelude.{Ok, Err}
use mathlib.Core.Path.{◌≡◌, refl, sym, ap, ◌∙◌}
use mathlib.Core.List.{List, [], ◌∷◌, ◌++◌, map}
use native.Mathlib.Omega.{arith}
use borrow.Author.Tests.{lt-ltb, le-ltb}
use lib.ListN.{length, drop, set, length-map}
use lib.Seq.{sets, length-sets}
use Rattle.text.specs.CheckMeans.{check_of}
use Rattle.text_refusals.specs.declared.Refusal.{Refusal}
use Rattle.text_refusals.specs.declared.Refusal.TheVariants.{FewTokens}
use Rattle.lexer_token.specs.declared.Token.{Token}
use Rattle.lexer_token.specs.Records.{record_of}
use Rattle.lexer.specs.Tokens.{eof_at, line_after, start_of}
use Rattle.lexer.specs.Whole.{records_of, token_count, lex_answer, lex_memory}
use Rattle.lexer.specs.Loops.{tokens_until, line_past, line_until, place_past, place_until, store, records_over}
use Rattle.lexer.specs.declared.TokensPassed.{TokensPassed}
use Rattle.lexer.proofs.TokenLaws.{end_at, start_fits}
use Rattle.lexer.proofs.UntilLaws.{eof_of, tokens_before, until_one, until_all, until_count, past_step, past_none, past_all, ends_step, ends_none, sets_last}

-- ---- filling

records_all : (doc : List ℕ) → records_of doc ≡ map record_of (tokens_before doc) ++ (record_of (eof_of doc) ∷ [])
unfolding records_of
records_all doc = ap (map record_of) (until_all doc) ∙ go (tokens_before doc)
  where
    go : (ts : List Token) → map record_of (ts ++ (eof_of doc ∷ [])) ≡ map record_of ts ++ (record_of (eof_of doc) ∷ [])
    go [] = refl
    go (t ∷ ts) = ap (λ (r : List (List ℕ)). record_of t ∷ r) (go ts)

-- what a run over all tokens before Eof leaves: so many, the line after them, and their records over the old ones
pub record AllPassed (doc : List ℕ) (start : ℕ) (out : TokensPassed) (old new : List (List ℕ)) : Type 0 where
  pub by : start ≡ start_of doc
  pub count : out.count ≡ length (tokens_until (length doc) start 1 doc)
  pub behind : out.line ≡ line_until (length doc) start 1 doc
  pub stores : new ≡ store (length doc) start 1 doc 0 old

pub counted : (doc : List ℕ) (start n : ℕ) → start ≡ start_of doc → n ≡ length (tokens_until (length doc) start 1 doc)
    → n + 1 ≡ token_count doc
counted doc start n by count =
    let same : n ≡ length (tokens_before doc) = rw by at count in
    omega (arith, until_count doc)

module _ {doc : List ℕ} {start : ℕ} {out : TokensPassed} {old new : List (List ℕ)} (p : AllPassed doc start out old new) where
  pub filled_length : length new ≡ length old
  filled_length = ap length p.stores ∙ length-sets old 0 (map record_of (tokens_until (length doc) start 1 doc))

  -- Eof after them makes the records of the document
  pub filled : (r : List ℕ) → r ≡ record_of (eof_at (length doc) out.line) → token_count doc ≤ length old
      → set new out.count r ≡ records_over doc old
  filled r f l =
      let n = out.count in
      let rs = map record_of (tokens_before doc) in
      let eof = record_of (eof_of doc) in
      let size : length rs + 1 ≡ token_count doc = omega (arith, until_count doc, length-map (tokens_before doc) record_of) in
      let same : n ≡ length rs = omega (arith, counted doc start n p.by p.count) in
      let whole : new ≡ sets old 0 rs = rw p.by at p.stores in
      let on : out.line ≡ line_until (length doc) (start_of doc) 1 doc = rw p.by at p.behind in
      let all = on ∙ past_all doc (start_of doc) 1 (start_fits doc) in
      let e : r ≡ eof = f ∙ ap (λ (n : ℕ). record_of (eof_at (length doc) n)) all in
      ap (λ (x : List (List ℕ)). set x n r) whole ∙ ap (λ (k : ℕ). set (sets old 0 rs) k r) same
      ∙ ap (set (sets old 0 rs) (length rs)) e ∙ sets_last old rs eof (omega arith)
      ∙ ap (λ (x : List (List ℕ)). x ++ drop (length rs + 1) old) (sym (records_all doc))
      ∙ ap (λ (k : ℕ). records_of doc ++ drop k old) size

-- ---- one token

module _ (doc : List ℕ) (at line n : ℕ) (h : at < length doc) where
  pub one_line : n ≡ line_until (at + 1) at line doc → n ≡ line_after line (drop at doc)
  one_line e =
      let next = line_after line (drop at doc) in
      e ∙ ap (line_past doc line) (until_one doc at line h) ∙ past_step doc at line [] ∙ past_none doc next

  pub one_place : n ≡ place_until (at + 1) at line doc → n ≡ end_at doc at
  one_place e = e ∙ ap (place_past at) (until_one doc at line h) ∙ ends_step doc at line [] ∙ ends_none (end_at doc at)

-- ---- the answers

module _ (doc : List ℕ) (old : List (List ℕ)) where
  pub lex_broken : (r : Refusal) → check_of doc ≡ Err r
      → (Err r ≡ lex_answer doc (length old)) × (old ≡ lex_memory doc old)
  unfolding lex_answer lex_memory
  lex_broken r e = (rw e, rw e)

  pub lex_few : check_of doc ≡ Ok tt → length old < token_count doc
      → (Err (FewTokens (token_count doc)) ≡ lex_answer doc (length old)) × (old ≡ lex_memory doc old)
  unfolding lex_answer lex_memory
  lex_few e h = let t = lt-ltb (length old) (token_count doc) h in (rw (e, t), rw (e, t))

  pub lex_answered : check_of doc ≡ Ok tt → token_count doc ≤ length old
      → (Ok (token_count doc) ≡ lex_answer doc (length old)) × (records_over doc old ≡ lex_memory doc old)
  unfolding lex_answer lex_memory
  lex_answered e h = let t = le-ltb (length old) (token_count doc) h in (rw (e, t), rw (e, t))
