-- Lexing as a relation between bytes and tokens without places: each token's bytes stand at the front, and lex as that token where
-- the rest follows. It says what whole lexing says, from any place of a document on.
use Prim.Native.Nat.{ℕ, zero, suc, ◌+◌, ◌-◌, ◌≤◌, ◌<◌}
use mathlib.Core.Path.{◌≡◌, refl, sym, ◌∙◌, ap, subst}
use mathlib.Core.List.{List, [], ◌∷◌, ◌++◌, map}
use native.Mathlib.Omega.{arith}
use native.Mathlib.Decide.{dec_lt}
use lib.ListN.{length, take, drop, length-append, length-drop, length-take, take-append-drop, drop_of_length-le}
use lib.Seq.{drop-drop, take-append_seam, drop-append_seam, length-take-le}
use Rattle.lexer_token.specs.declared.TokenKind.{TokenKind}
use Rattle.lexer_token.specs.declared.TokenKind.TheVariants.{Eof}
use Rattle.lexer.specs.Table.{kind_of, token_len}
use Rattle.lexer.specs.Tokens.{line_after}
use Rattle.lexer.proofs.TokenLaws.{tokens_step, tokens_end, token_fits, token_long_at}
use Rattle.theorems_grammar.proofs.Lexing.{IsToken}
use Rattle.built_mending.specs.Mending.{Part, part_of}
use Rattle.built_mending.specs.Passes.{between, parts_at}
use Rattle.built_mending.proofs.TokenLaws.{part_here, end_here, line_there}

abbrev pub part_by : TokenKind → List ℕ → Part
part_by k text = record { kind = k; text = text }

pub data Lexed : List ℕ → List Part → Type 0 where
  ended : Lexed [] (part_by Eof [] ∷ [])
  token : {k : TokenKind} {text rest : List ℕ} {parts : List Part} → 0 < length text → IsToken k text rest → Lexed rest parts
      → Lexed (text ++ rest) (part_by k text ∷ parts)

-- ---- what whole lexing gives is so

module _ (doc : List ℕ) (at line : ℕ) where
  -- no bytes are Eof
  end_part : length doc ≤ at → parts_at doc at line ≡ part_by Eof [] ∷ []
  end_part h = let none : at - at ≡ 0 = omega arith in rw (tokens_end doc at line h, none)

  end_lexed : length doc ≤ at → Lexed (drop at doc) (parts_at doc at line)
  end_lexed h = rw (end_part h, drop_of_length-le doc h) ended

  step_parts : at < length doc → parts_at doc at line ≡ part_here doc at line ∷ parts_at doc (end_here doc at line) (line_there doc at line)
  step_parts h = rw (tokens_step doc at line h)

  -- the bytes from the place on are those of the token there and those after it
  split : drop at doc ≡ between doc at (end_here doc at line) ++ drop (end_here doc at line) doc
  split =
      let s = drop at doc in
      let size : at + token_len s - at ≡ token_len s = omega arith in
      rw (size, ← drop-drop (token_len s) at doc) (sym (take-append-drop (token_len s) s))

  step_lexed : at < length doc → Lexed (drop (end_here doc at line) doc) (parts_at doc (end_here doc at line) (line_there doc at line))
      → Lexed (drop at doc) (parts_at doc at line)
  step_lexed h rest =
      let s = drop at doc in
      let text = between doc at (end_here doc at line) in
      let long : length text ≡ token_len s =
      let size : at + token_len s - at ≡ token_len s = omega arith in rw size (length-take-le (token_len s) s (token_fits s)) in
      let some : 0 < length text = omega (arith, token_long_at doc at h) in
      let is : IsToken (kind_of s) text (drop (end_here doc at line) doc) =
      (ap kind_of (sym split), ap token_len (sym split) ∙ sym long) in
      rw (step_parts h) (subst (λ (x : List ℕ). Lexed x (part_here doc at line ∷ parts_at doc (end_here doc at line) (line_there doc at line))) (sym split) (token some is rest))

lexed_from : (doc : List ℕ) (n at line : ℕ) → length doc ≤ at + n → Lexed (drop at doc) (parts_at doc at line)
lexed_from doc zero at line far = end_lexed doc at line (omega arith)
lexed_from doc (suc n) at line far = elim (dec_lt at (length doc)) [
  | yes h ↦ step_lexed doc at line h
      (lexed_from doc n (end_here doc at line) (line_there doc at line) (omega (arith, token_long_at doc at h)))
  | no h ↦ end_lexed doc at line (omega arith)
]

pub lexed_of : (doc : List ℕ) (at line : ℕ) → Lexed (drop at doc) (parts_at doc at line)
lexed_of doc at line = lexed_from doc (length doc) at line (omega arith)

-- ---- and nothing else is

same_part : (k j : TokenKind) (s t : List ℕ) → k ≡ j → s ≡ t → part_by k s ≡ part_by j t
same_part k j s t e f = ap (λ (x : TokenKind). part_by x s) e ∙ ap (part_by j) f

pub lexed_is : {s : List ℕ} {parts : List Part} → Lexed s parts → (doc : List ℕ) (at line : ℕ) → drop at doc ≡ s
    → parts_at doc at line ≡ parts
lexed_is ended doc at line e =
    end_part doc at line (omega (arith, length-drop at doc, ap length e))
lexed_is (token {k} {text} {rest} some is more) doc at line e =
    let h : at < length doc = omega (arith, length-drop at doc, ap length e, length-append text rest) in
    let s = drop at doc in
    let kind : kind_of s ≡ k = ap kind_of e ∙ is.0 in
    let size : token_len s ≡ length text = ap token_len e ∙ is.1 in
    let same : at + token_len s - at ≡ length text = omega (arith, size) in
    let bytes : between doc at (end_here doc at line) ≡ text =
    ap (λ (n : ℕ). take n s) same ∙ ap (take (length text)) e ∙ take-append_seam text rest in
    let after : drop (end_here doc at line) doc ≡ rest =
    sym (drop-drop (token_len s) at doc) ∙ ap (λ (n : ℕ). drop n s) size ∙ ap (drop (length text)) e ∙ drop-append_seam text rest in
    let tail = lexed_is more doc (end_here doc at line) (line_there doc at line) after in
    let here : part_here doc at line ≡ part_by k text = same_part _ _ _ _ kind bytes in
    step_parts doc at line h ∙ ap (λ (p : Part). p ∷ parts_at doc (end_here doc at line) (line_there doc at line)) here
    ∙ ap (λ (ps : List Part). part_by k text ∷ ps) tail
