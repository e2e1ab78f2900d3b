-- What stands at a place, from a token of its kind, its end and the LFs in it; and beyond the last byte.
-- Assumes nothing.
use Prim.Native.Nat.{ℕ, ◌+◌, ◌≤◌, ◌<◌}
use mathlib.Core.Path.{◌≡◌, refl, sym, ap, ◌∙◌}
use mathlib.Core.Bool.{false}
use mathlib.Core.List.{List}
use native.Mathlib.Omega.{arith}
use lib.ListN.{length, get_or, take, drop, drop_of_length-le, length-drop}
use Rattle.lexer_token.specs.declared.TokenKind.{TokenKind}
use Rattle.lexer_token.specs.declared.TokenKind.TheVariants.{Newline, Eof}
use Rattle.lexer_token.specs.Records.{token_of, record_of}
use Rattle.lexer_scans.specs.Extents.{newline_tail}
use Rattle.lexer.specs.Lines.{line_feeds}
use Rattle.lexer.specs.Table.{kind_of, extent, token_len}
use Rattle.lexer.specs.Tokens.{token_at, found_at}
use Rattle.lexer.specs.Loops.{found_of}
use Rattle.lexer.specs.declared.Found.{Found}
use Rattle.lexer.proofs.KindLaws.{KindThere, kind_at}
use Rattle.lexer.proofs.TokenLaws.{end_at, token_fits}
use Rattle.lexer.proofs.LineLaws.{holds_lf, token_no_lf, newline_token, feeds_none, feeds_taken}

-- the LFs in the token at a place
abbrev pub feeds_at : List ℕ → ℕ → ℕ
feeds_at doc at = line_feeds (take (token_len (drop at doc)) (drop at doc))

-- from its kind, its end and its LFs
pub found_parts : (doc : List ℕ) (at : ℕ) {k : TokenKind} {end feeds : ℕ} → kind_of (drop at doc) ≡ k
    → end ≡ end_at doc at → feeds ≡ feeds_at doc at → found_of k end feeds ≡ found_at at (drop at doc)
found_parts doc at kind end feeds = rw (end, feeds, kind)

-- where no byte is left
pub found_none : (doc : List ℕ) (at : ℕ) → length doc ≤ at → found_of Eof at 0 ≡ found_at at (drop at doc)
unfolding kind_of extent token_len
found_none doc at h =
    let none = drop_of_length-le doc h in
    let kind : kind_of (drop at doc) ≡ Eof = ap kind_of none in
    let size : token_len (drop at doc) ≡ 0 = ap token_len none in
    let feeds = ap (λ (s : List ℕ). line_feeds (take (token_len s) s)) none ∙ feeds_none in
    found_parts doc at kind (omega arith) (sym feeds)

module _ (k : TokenKind) (doc : List ℕ) (at : ℕ) (kind : kind_of (drop at doc) ≡ k)
    (end : ℕ) (ends : end ≡ at + extent k (drop at doc)) where
  pub end_here : end ≡ end_at doc at
  unfolding token_len
  end_here = ends ∙ ap (λ (j : TokenKind). at + extent j (drop at doc)) (sym kind)

  -- with the LFs that are counted in it
  pub found_counted : (n : ℕ) → n ≡ feeds_at doc at → found_of k end n ≡ found_at at (drop at doc)
  found_counted n e = found_parts doc at kind end_here e

  -- with none, where its kind holds none
  pub found_same : holds_lf k ≡ false → found_of k end 0 ≡ found_at at (drop at doc)
  found_same f = found_counted 0 (sym (token_no_lf (drop at doc) (ap holds_lf kind ∙ f)))

  -- with one, where it is a newline whose last byte is an LF
  pub found_lf : at < length doc → k ≡ Newline → (i : ℕ) → i ≡ at + newline_tail (drop at doc) → get_or doc i 0 ≡ 10
      → found_of k end 1 ≡ found_at at (drop at doc)
  found_lf h n i e f = found_counted 1 (sym ((newline_token doc at i h (kind ∙ n) e).0 f))

  pub found_cr : at < length doc → k ≡ Newline → (i : ℕ) → i ≡ at + newline_tail (drop at doc) → (get_or doc i 0 ≡ 10 → ⊥)
      → found_of k end 0 ≡ found_at at (drop at doc)
  found_cr h n i e f = found_counted 0 (sym ((newline_token doc at i h (kind ∙ n) e).1 f))

-- its LFs are no more than the bytes
pub found_few : (doc : List ℕ) (at : ℕ) {f : Found} → f ≡ found_at at (drop at doc) → f.feeds ≤ length doc
found_few doc at {f} e =
    let s = drop at doc in
    omega (arith, ap (λ (g : Found). g.feeds) e, feeds_taken (token_len s) s, token_fits s, length-drop at doc)

-- its record, by the line of its place
pub found_record : (at line : ℕ) (s : List ℕ) {f : Found} → f ≡ found_at at s
    → record_of (token_of f.kind at f.end line) ≡ record_of (token_at at line s)
found_record at line s e = ap (λ (g : Found). record_of (token_of g.kind at g.end line)) e

-- by the byte at a place
pub found_there : (k : TokenKind) (doc : List ℕ) (at : ℕ) → at < length doc → KindThere doc at k → holds_lf k ≡ false
    → found_of k (at + extent k (drop at doc)) 0 ≡ found_at at (drop at doc)
found_there k doc at h there f = found_same k doc at (kind_at doc at h ∙ there) (at + extent k (drop at doc)) refl f
