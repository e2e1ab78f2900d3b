-- What each token of whole lexing and of a step is, and that steps from the start cut no character.
use Prim.Native.Nat.{ℕ, ◌+◌, ◌≤◌, ◌<◌}
use mathlib.Core.Path.{◌≡◌, refl, sym, ◌∙◌, ap, subst}
use mathlib.Core.Bool.{Bool, true, false}
use mathlib.Core.List.{List, [], Memᴰ}
use native.Mathlib.Decide.{dec_lt}
use native.Mathlib.Omega.{arith}
use native.Mathlib.Nat.{add-zero}
use lib.ListN.{length, drop, drop_of_length-le}
use lib.Seq.{drop-drop}
use borrow.Author.Tests.{le-ltb, ltb-false, ne_eqb}
use lib.Dec.{ltb}
use Rattle.text_classes.proofs.Conds.{cond_case, by_lt, by_eq}
use Rattle.text_scalars.specs.Utf8.{Utf8}
use Rattle.std.specs.Prelude.{Some, None, Result, Ok}
use Rattle.text_refusals.specs.declared.Refusal.{Refusal}
use Rattle.text_refusals.specs.Refusals.{limit}
use Rattle.text_refusals.specs.Told.{told_number}
use Rattle.lexer_token.specs.declared.TokenKind.{TokenKind}
use Rattle.lexer_token.specs.declared.Token.{Token}
use Rattle.lexer_token.specs.Records.{token_of}
use Rattle.lexer.specs.Table.{kind_of, extent, token_len}
use Rattle.lexer.specs.Tokens.{token_at, eof_at, line_after, tokens_from, start_of, tokens_of}
use Rattle.lexer.specs.Steps.{Step, cursor_of, start_answer, astray, step_of}
use Rattle.lexer.specs.Lines.{line_of}
use Rattle.lexer_place.proofs.SpanLaws.{or_false}
use Rattle.lexer.specs.declared.Cursor.{Cursor}
use Rattle.lexer.proofs.TokenLaws.{token_fits_at, tokens_step, tokens_end, start_fits}
use Rattle.theorems_tokens.proofs.Lexing.{step_eof, step_end, token_cut, start_cut, by_rule}
use Rattle.theorems_grammar.specs.Demand3.{Reached, start, next}

-- ---- a token of whole lexing is the token at its start

token_of_fields : (r : Token) (k : TokenKind) (e l : ℕ) → r.kind ≡ k → r.span.end ≡ e → r.line ≡ l
    → r ≡ token_of k r.span.start e l
token_of_fields r k e l same_kind same_end same_line =
    ap (λ (j : TokenKind). token_of j r.span.start r.span.end r.line) same_kind
    ∙ ap (λ (n : ℕ). token_of k r.span.start n r.line) same_end ∙ ap (token_of k r.span.start e) same_line

pub listed_is : (doc : List ℕ) (r : Token) → Memᴰ r (tokens_of doc)
    → r ≡ token_at r.span.start (line_of doc r.span.start) (drop r.span.start doc)
listed_is doc r listed = let facts = by_rule doc r listed in token_of_fields r _ _ _ facts.kind facts.end facts.line

-- ---- a token of a step is the token at the cursor's place

-- the token at the cursor c, and the cursor after it
abbrev token_here : List ℕ → Cursor → Token
token_here doc c = token_at c.place c.line (drop c.place doc)

abbrev cursor_next : List ℕ → Cursor → Cursor
cursor_next doc c = cursor_of (c.place + token_len (drop c.place doc)) (line_after c.line (drop c.place doc)) c.ended

pub record StepGave (doc : List ℕ) (c : Cursor) (r : Token) (d : Cursor) : Type 0 where
  pub few : length doc ≤ limit
  pub near : c.line ≤ c.place + 1
  pub is : r ≡ token_here doc c
  pub on : d.place ≡ c.place + token_len (drop c.place doc)

eof_is : (at line : ℕ) → eof_at at line ≡ token_at at line []
unfolding token_len kind_of extent
eof_is at line = ap (λ (i : ℕ). token_of (kind_of []) at i line) (sym (add-zero at))

-- a step that gives the token r and the cursor d after it
abbrev Gave : Token → Cursor → Step
Gave r d = Ok (Some (r, d))

abbrev End : Step
End = Ok None

same_given : (t r : Token) (o d : Cursor) → Gave t o ≡ Gave r d → (t ≡ r) × (o ≡ d)
same_given t r o d same =
    let pair : ◌≡◌ {A = Token × Cursor} (t, o) (r, d) = cc in
    (ap (λ (p : Token × Cursor). p.0) pair, ap (λ (p : Token × Cursor). p.1) pair)

end_not_given : {r : Token} {d : Cursor} {P : Type 0} → End ≡ Gave r d → P
end_not_given given = let numbers : ◌≡◌ {A = ℕ} 0 1 = cc in absurd (omega arith)

module _ (doc : List ℕ) (c : Cursor) (r : Token) (d : Cursor) where
  abbrev Says : Step → Type 0
  Says x = x ≡ Gave r d → StepGave doc c r d

  end_says : length doc ≤ limit → c.line ≤ c.place + 1 → c.place ≡ length doc
      → (t : Token) (onward : Cursor) → t ≡ eof_at c.place c.line → onward.place ≡ c.place → Says (Gave t onward)
  unfolding token_len kind_of extent
  end_says few near at_end t onward is-eof stays gives =
      let same = same_given t r onward d gives in
      let nothing : drop c.place doc ≡ [] = drop_of_length-le doc {i = c.place} (omega arith) in
      record {
        few = few;
        near = near;
        is = sym same.0 ∙ (is-eof ∙ (eof_is c.place c.line ∙ ap (token_at c.place c.line) (sym nothing)));
        on = ap (λ (i : Cursor). i.place) (sym same.1) ∙ (stays ∙ rw nothing (sym (add-zero c.place)));
      }

  pub step_gave : step_of doc c ≡ Gave r d → StepGave doc c r d
  unfolding step_of
  step_gave =
      by_lt Says limit (length doc) (λ many gives. absurd (omega (arith, ap told_number gives)))
      λ few. cond_case Says (astray doc c) (λ stray gives. absurd (omega (arith, ap told_number gives)))
      λ placed.
      let near =
      ltb-false (c.place + 1) c.line (or_false (ltb (length doc) c.place) (ltb (c.place + 1) c.line) placed).1 in
      by_eq Says c.place (length doc)
      (λ at_end. cond_case Says c.ended (λ ended gives. end_not_given gives)
      (λ running gives. end_says few near at_end _ _ refl refl gives))
      (λ before_end gives.
      let same = same_given (token_here doc c) r (cursor_next doc c) d gives in
      record { few = few; near = near; is = sym same.0; on = ap (λ (i : Cursor). i.place) (sym same.1) })

-- a step from any cursor before the end
pub step_there : (doc : List ℕ) → length doc ≤ limit → (c : Cursor) → c.line ≤ c.place + 1 → c.place < length doc
    → step_of doc c ≡ Gave (token_here doc c) (cursor_next doc c)
unfolding step_of
step_there doc few c near before_end =
    let within = le-ltb (length doc) c.place (omega arith) in
    let before = ne_eqb c.place (length doc) (λ at_end. omega arith) in
    rw (le-ltb limit (length doc) few, within, le-ltb (c.place + 1) c.line near, before)

-- ---- steps from the start

start_is : (doc : List ℕ) (c : Cursor) → start_answer doc ≡ Ok c → cursor_of (start_of doc) 1 false ≡ c
unfolding start_answer
start_is doc c =
    by_lt (λ (x : Result Cursor Refusal). x ≡ Ok c → cursor_of (start_of doc) 1 false ≡ c) limit (length doc)
    (λ many starts. let numbers : ◌≡◌ {A = ℕ} 0 1 = cc in absurd (omega arith))
    (λ few starts. let same : cursor_of (start_of doc) 1 false ≡ c = cc in same)

-- steps from the start cut no character
pub reached_cut : (doc : List ℕ) → Utf8 doc → (c : Cursor) → Reached doc c → Utf8 (drop c.place doc)
reached_cut doc utf8 c (start starts) =
    subst (λ (x : Cursor). Utf8 (drop x.place doc)) (start_is doc c starts) (start_cut doc utf8)
reached_cut doc utf8 d (next {c} {r = r} reached gives) =
    let gave = step_gave doc c r d gives in
    let n = token_len (drop c.place doc) in
    let onward : drop n (drop c.place doc) ≡ drop d.place doc =
    drop-drop n c.place doc ∙ ap (λ (i : ℕ). drop i doc) (sym gave.on) in
    subst Utf8 onward (token_cut (drop c.place doc) (reached_cut doc utf8 c reached)).1

-- the tokens from a reached cursor on are tokens of whole lexing, until `Eof` was given
abbrev AllListed : List ℕ → ℕ → ℕ → Type 0
AllListed doc at line = (r : Token) → Memᴰ r (tokens_from at line (drop at doc)) → Memᴰ r (tokens_of doc)

data Going (doc : List ℕ) (c : Cursor) : Type 0 where
  on : c.ended ≡ false → c.place ≤ length doc → AllListed doc c.place c.line → Going doc c
  over : c.ended ≡ true → c.place ≡ length doc → Going doc c

all_listed : (doc : List ℕ) → AllListed doc (start_of doc) 1
unfolding tokens_of
all_listed doc r listed = listed

cursor_by : (c : Cursor) (n : ℕ) (b : Bool) → c.place ≡ n → c.ended ≡ b → c ≡ cursor_of n c.line b
cursor_by c n b same_place same_end =
    ap (λ (i : ℕ). cursor_of i c.line c.ended) same_place ∙ ap (cursor_of n c.line) same_end

module _ (doc : List ℕ) (c : Cursor) (r : Token) (d : Cursor) (gives : step_of doc c ≡ Gave r d) where
  no_step_over : c.ended ≡ true → c.place ≡ length doc → {P : Type 0} → P
  no_step_over ended at_end =
      let gave = step_gave doc c r d gives in
      let here = ap (step_of doc) (sym (cursor_by c (length doc) true at_end ended)) in
      let given : End ≡ Gave r d = sym (step_end doc gave.few c.line (omega (arith, gave.near))) ∙ (here ∙ gives) in
      end_not_given given

  went_on : c.ended ≡ false → c.place < length doc → AllListed doc c.place c.line → Going doc d
  went_on running before_end listed =
      let gave = step_gave doc c r d gives in
      let given : Gave (token_here doc c) (cursor_next doc c) ≡ Gave r d =
      sym (step_there doc gave.few c gave.near before_end) ∙ gives in
      let same = (same_given _ r (cursor_next doc c) d given).1 in
      subst (Going doc) same (on running (token_fits_at doc c.place (omega arith))
      (λ t there. listed t (subst (Memᴰ t) (sym (tokens_step doc c.place c.line before_end)) (Memᴰ.tail there))))

  was_over : c.ended ≡ false → c.place ≡ length doc → Going doc d
  was_over running at_end =
      let gave = step_gave doc c r d gives in
      let here = ap (step_of doc) (sym (cursor_by c (length doc) false at_end running)) in
      let given : Gave (eof_at (length doc) c.line) (cursor_of (length doc) c.line true) ≡ Gave r d =
      sym (step_eof doc gave.few c.line (omega (arith, gave.near))) ∙ (here ∙ gives) in
      let same = (same_given _ r (cursor_of (length doc) c.line true) d given).1 in
      subst (Going doc) same (over refl refl)

going : (doc : List ℕ) (c : Cursor) → Reached doc c → Going doc c
going doc c (start starts) = subst (Going doc) (start_is doc c starts) (on refl (start_fits doc) (all_listed doc))
going doc d (next {c} {r = r} reached gives) = elim (going doc c reached) [
  | on running fits listed ↦ elim (dec_lt c.place (length doc)) [
    | yes before_end ↦ went_on doc c r d gives running before_end listed
    | no past ↦ was_over doc c r d gives running (omega arith)
  ]
  | over ended at_end ↦ no_step_over doc c r d gives ended at_end
]

-- the token at a place is the first of those from there on
first_listed : (doc : List ℕ) (at line : ℕ) (r : Token) → at ≤ length doc → r ≡ token_at at line (drop at doc)
    → Memᴰ r (tokens_from at line (drop at doc))
first_listed doc at line r fits is = elim (dec_lt at (length doc)) [
  | yes before_end ↦ subst (Memᴰ r) (sym (tokens_step doc at line before_end)) (Memᴰ.head is)
  | no past ↦
      let nothing : drop at doc ≡ [] = drop_of_length-le doc {i = at} (omega arith) in
      let eof : r ≡ eof_at at line = is ∙ (ap (token_at at line) nothing ∙ sym (eof_is at line)) in
      subst (Memᴰ r) (sym (tokens_end doc at line (omega arith))) (Memᴰ.head eof)
]

pub reached_listed : (doc : List ℕ) (c : Cursor) → Reached doc c → (r : Token) (d : Cursor) → step_of doc c ≡ Gave r d
    → Memᴰ r (tokens_of doc)
reached_listed doc c reached r d gives = elim (going doc c reached) [
  | on running fits listed ↦ listed r (first_listed doc c.place c.line r fits (step_gave doc c r d gives).is)
  | over ended at_end ↦ no_step_over doc c r d gives ended at_end
]
