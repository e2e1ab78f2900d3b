-- A token has at least one byte and stays within the document; whole lexing goes from token to token, without a gap.
-- Assumes nothing.
use Prim.Native.Nat.{ℕ, zero, suc, pred, ◌+◌, ◌≤◌, ◌<◌, suc-le-suc}
use mathlib.Core.Path.{◌≡◌, refl, ap, ◌∙◌}
use mathlib.Core.Bool.{Bool, true, false, not, ◌&&◌}
use mathlib.Core.List.{List, [], ◌∷◌}
use native.Mathlib.Omega.{arith}
use lib.Dec.{eqb}
use lib.ListN.{length, take, drop, drop_of_length-le, length-drop}
use lib.Seq.{drop-drop}
use Rattle.text_classes.specs.Classes.{wschar}
use Rattle.text_classes.specs.Runs.{stands, triple}
use Rattle.text_classes.proofs.Conds.{cond_case, both_right}
use Rattle.text_classes.proofs.RunLaws.{run_le, there}
use Rattle.text_classes.proofs.FirstLaws.{first_within}
use Rattle.lexer_token.specs.declared.TokenKind.{TokenKind}
use Rattle.lexer_token.specs.declared.Token.{Token}
use Rattle.lexer_scans.specs.Extents.{hides, closes, in_comment, in_atom}
use Rattle.lexer_scans.specs.Extents.{line_tail, up_to_two, ml_tail, newline_tail}
use Rattle.lexer.specs.Lines.{line_feeds, line_behind}
use Rattle.lexer.specs.Table.{kind_of, extent, token_len}
use Rattle.lexer.specs.Tokens.{token_at, eof_at, line_after, walk, tokens_from, has_bom, start_of, tokens_of}
use Rattle.text_classes.proofs.TripleLaws.{triple_fits}
use Rattle.lexer.proofs.KindLaws.{by_kind}
use Rattle.lexer.proofs.LineLaws.{feeds_none, behind_front, feeds_taken, mark_bytes}

-- ---- each extent stays within the bytes

abbrev Fits : List ℕ → ℕ → Type 0
Fits s n = n ≤ length s

line_fits : (q : ℕ) (h : Bool) (s : List ℕ) → line_tail q h s ≤ length s
unfolding line_tail
line_fits q h [] = omega arith
line_fits q h (b ∷ s) =
    cond_case (Fits (b ∷ s)) (closes q h b) (λ _. omega arith)
    λ _. cond_case (Fits (b ∷ s)) (eqb b 10) (λ _. omega arith) (λ _. suc-le-suc (line_fits q (hides q h b) s))

two_fits : (q : ℕ) (s : List ℕ) → up_to_two q s ≤ length s
unfolding up_to_two
two_fits q s =
    let mark : ℕ → Bool = λ b. eqb b q in
    cond_case (Fits s) (stands q s)
    (λ t. cond_case (Fits s) (stands q (drop 1 s)) (first_within mark s 1) (λ u. first_within mark s 0 t))
    (λ t. omega arith)

ml_fits : (q : ℕ) (h : Bool) (s : List ℕ) → ml_tail q h s ≤ length s
unfolding ml_tail
ml_fits q h [] = omega arith
ml_fits q h (b ∷ s) =
    cond_case (Fits (b ∷ s)) (not h && triple q (b ∷ s))
    (λ t. omega (arith, triple_fits q (b ∷ s) (both_right (not h) _ t), two_fits q (drop 3 (b ∷ s)), length-drop 3 (b ∷ s)))
    (λ t. suc-le-suc (ml_fits q (hides q h b) s))

ml_whole_fits : (q b : ℕ) (s : List ℕ) → triple b s ≡ true → suc (suc (suc (ml_tail q false (drop 3 s)))) ≤ length s
ml_whole_fits q b s t = omega (arith, triple_fits b s t, ml_fits q false (drop 3 s), length-drop 3 s)

newline_fits : (b : ℕ) (s : List ℕ) → suc (newline_tail (b ∷ s)) ≤ length (b ∷ s)
unfolding newline_tail
newline_fits b s =
    cond_case (λ (n : ℕ). suc n ≤ length (b ∷ s)) (eqb b 13 && stands 10 s)
    (λ t. omega (arith, first_within (λ c. eqb c 10) s 0 (both_right (eqb b 13) _ t)))
    (λ t. omega arith)

pub token_fits : (s : List ℕ) → token_len s ≤ length s
unfolding token_len kind_of extent
token_fits [] = omega arith
token_fits (b ∷ s) =
    let one : 1 ≤ suc (length s) = omega arith in
    by_kind (λ (k : TokenKind). extent k (b ∷ s) ≤ suc (length s)) b (triple b (b ∷ s))
    (λ _. one) (λ _. one) (λ _. one) (λ _. one) (λ _. one) (λ _. one) (λ _. one)
    (λ _. suc-le-suc (run_le wschar s)) (λ _. suc-le-suc (run_le in_comment s)) (λ _. newline_fits b s)
    (λ _. suc-le-suc (line_fits 39 false s)) (λ _. suc-le-suc (line_fits 34 false s))
    (λ _. ml_whole_fits 39 b (b ∷ s)) (λ _. ml_whole_fits 34 b (b ∷ s))
    (suc-le-suc (run_le in_atom s))

-- every token but Eof has at least one byte
pub token_long : (s : List ℕ) → 0 < length s → 0 < token_len s
unfolding token_len kind_of extent
token_long [] h = omega arith
token_long (b ∷ s) h =
    let one : 0 < 1 = omega arith in
    by_kind (λ (k : TokenKind). 0 < extent k (b ∷ s)) b (triple b (b ∷ s))
    (λ _. one) (λ _. one) (λ _. one) (λ _. one) (λ _. one) (λ _. one) (λ _. one)
    (λ _. omega arith) (λ _. omega arith) (λ _. omega arith) (λ _. omega arith) (λ _. omega arith)
    (λ _ _. omega arith) (λ _ _. omega arith) (omega arith)

-- ---- from token to token

same_walk : {a b l m : ℕ} (s : List ℕ) → a ≡ b → l ≡ m → walk a l 0 s ≡ walk b m 0 s
same_walk {a} {b} {l} {m} s p q = ap (λ (n : ℕ). walk n l 0 s) p ∙ ap (λ (n : ℕ). walk b n 0 s) q

walk_skip : (k at line : ℕ) (s : List ℕ) → k ≤ length s
    → walk at line k s ≡ walk (at + k) (line + line_feeds (take k s)) 0 (drop k s)
unfolding walk
walk_skip zero at line s h = same_walk s (omega arith) (omega (arith, feeds_none))
walk_skip (suc k) at line [] h = absurd (omega arith)
walk_skip (suc k) at line (b ∷ s) h =
    walk_skip k (at + 1) (line_behind line b) s (omega arith) ∙ same_walk (drop k s) (omega arith) (behind_front line b (take k s))

walk_pass : (n at line b : ℕ) (s : List ℕ) → 0 < n → n ≤ suc (length s)
    → walk (at + 1) (line_behind line b) (pred n) s ≡ walk (at + n) (line + line_feeds (take n (b ∷ s))) 0 (drop n (b ∷ s))
walk_pass zero at line b s h l = absurd (omega arith)
walk_pass (suc n) at line b s h l =
    walk_skip n (at + 1) (line_behind line b) s (omega arith) ∙ same_walk (drop n s) (omega arith) (behind_front line b (take n s))

-- What `walk` says, without its counter: the tokens of no bytes are Eof; those of others are the first token, then the
-- tokens of what is left after it.
pub tokens_none : (at line : ℕ) → tokens_from at line [] ≡ eof_at at line ∷ []
unfolding tokens_from walk
tokens_none at line = refl

pub tokens_cons : (at line : ℕ) (s : List ℕ) → 0 < length s
    → tokens_from at line s ≡ token_at at line s ∷ tokens_from (at + token_len s) (line_after line s) (drop (token_len s) s)
unfolding tokens_from walk
tokens_cons at line [] h = absurd (omega arith)
tokens_cons at line (b ∷ s) h =
    ap (λ (r : List Token). token_at at line (b ∷ s) ∷ r)
    (walk_pass (token_len (b ∷ s)) at line b s (token_long (b ∷ s) h) (token_fits (b ∷ s)))

-- where the token at a place ends
abbrev pub end_at : List ℕ → ℕ → ℕ
end_at doc at = at + token_len (drop at doc)

-- the tokens from the place `at` on, whose first byte is on `line`
abbrev pub tokens_on : List ℕ → ℕ → ℕ → List Token
tokens_on doc at line = tokens_from at line (drop at doc)

module _ (doc : List ℕ) (at : ℕ) where
  -- the next token begins where this one ends, on the line there
  pub tokens_step : (line : ℕ) → at < length doc
      → tokens_on doc at line ≡ token_at at line (drop at doc) ∷ tokens_on doc (end_at doc at) (line_after line (drop at doc))
  tokens_step line h =
      let s = drop at doc in
      tokens_cons at line s (omega (arith, length-drop at doc)) ∙ rw (drop-drop (token_len s) at doc)

  pub tokens_end : (line : ℕ) → length doc ≤ at → tokens_from at line (drop at doc) ≡ eof_at at line ∷ []
  unfolding tokens_from walk
  tokens_end line h = rw (drop_of_length-le doc h)

  pub token_fits_at : at ≤ length doc → at + token_len (drop at doc) ≤ length doc
  token_fits_at h = omega (arith, token_fits (drop at doc), length-drop at doc)

  pub token_long_at : at < length doc → 0 < token_len (drop at doc)
  token_long_at h = token_long (drop at doc) (omega (arith, length-drop at doc))

  -- a line that does not pass its place plus 1 does not after the token either
  pub line_fits_at : (line : ℕ) → line ≤ at + 1 → line_after line (drop at doc) ≤ at + token_len (drop at doc) + 1
  line_fits_at line h = omega (arith, feeds_taken (token_len (drop at doc)) (drop at doc))

pub start_fits : (doc : List ℕ) → start_of doc ≤ length doc
unfolding start_of
start_fits doc =
    cond_case (Fits doc) (has_bom doc)
    (λ t. there doc 2 (omega (arith, (mark_bytes doc t).2)))
    (λ t. omega arith)

walk_count : (at line k : ℕ) (s : List ℕ) → length (walk at line k s) ≤ suc (length s)
unfolding walk
walk_count at line k [] = omega arith
walk_count at line zero (b ∷ s) = suc-le-suc (walk_count (at + 1) (line_behind line b) (pred (token_len (b ∷ s))) s)
walk_count at line (suc k) (b ∷ s) = omega (arith, walk_count (at + 1) (line_behind line b) k s)

-- tokens number at most the bytes plus one
pub tokens_count : (doc : List ℕ) → length (tokens_of doc) ≤ length doc + 1
unfolding tokens_of tokens_from
tokens_count doc = omega (arith, walk_count (start_of doc) 1 0 (drop (start_of doc) doc), length-drop (start_of doc) doc)
