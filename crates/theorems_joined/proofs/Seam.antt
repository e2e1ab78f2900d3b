-- Why the seam changes no token: each token of the head but the last is followed by a byte of the head, and a token depends on
-- its own bytes and one byte more; the last is a Newline, for which only an LF that follows a CR matters.
use Prim.Native.Nat.{ℕ, zero, suc, pred, ◌+◌, ◌≤◌, ◌<◌}
use mathlib.Core.Path.{◌≡◌, refl, sym, ap, ◌∙◌, subst}
use mathlib.Core.Bool.{Bool, true, false, ◌&&◌}
use mathlib.Core.Option.{Option, none, some}
use mathlib.Core.List.{List, [], ◌∷◌, ◌++◌, map, head?, get_last?, drop_last}
use native.Mathlib.Omega.{arith}
use native.Mathlib.Decide.{dec_lt}
use borrow.Author.Tests.{eqb-true}
use lib.Dec.{eqb}
use lib.ListN.{length, drop, length-drop, drop_of_length-le, length-append}
use lib.Seq.{take-append-le, drop-append-le}
use Rattle.text_classes.specs.Classes.{wschar}
use Rattle.text_classes.specs.Runs.{stands, triple}
use Rattle.text_classes.proofs.Conds.{or_inv, not_both, of_choice}
use Rattle.lexer_token.specs.declared.TokenKind.{TokenKind}
use Rattle.lexer_token.specs.declared.TokenKind.TheVariants.{Newline}
use Rattle.lexer_token.specs.declared.Token.{Token}
use Rattle.lexer_token.specs.KindNumbers.{kind_number}
use Rattle.lexer_scans.specs.Extents.{eol, newline_tail}
use Rattle.lexer.specs.Lines.{line_feeds, line_behind}
use Rattle.lexer.specs.Table.{kind_by, kind_of, extent, token_len}
use Rattle.lexer.specs.Tokens.{token_at, line_after, walk, tokens_from}
use Rattle.lexer.proofs.KindLaws.{by_kind}
use Rattle.lexer.proofs.LineLaws.{feeds_none, feeds_split}
use Rattle.lexer.proofs.TokenLaws.{token_fits, token_long, tokens_none, tokens_cons}
use Rattle.theorems_tokens.proofs.ByLength.{by_length}
use Rattle.theorems_tokens.proofs.LocalLaws.{token_local}
use Rattle.theorems_joined.specs.Joined.{kinds_before, NoCrLf, moved}
use Rattle.theorems_joined.proofs.ListLaws.{last_cons, last_drop, but_last_cons}

same_tokens : {a b l m : ℕ} (s : List ℕ) → a ≡ b → l ≡ m → tokens_from a l s ≡ tokens_from b m s
same_tokens {a} {b} {l} {m} s p q = ap (λ (n : ℕ). tokens_from n l s) p ∙ ap (λ (n : ℕ). tokens_from b n s) q

-- ---- the tokens before Eof

tokens_some : (at line : ℕ) (s : List ℕ) → 0 < length (tokens_from at line s)
tokens_some at line [] = rw (tokens_none at line) (omega arith)
tokens_some at line (b ∷ s) = rw (tokens_cons at line (b ∷ s) (omega arith)) (omega arith)

pub before_none : (at line : ℕ) → drop_last (tokens_from at line []) ≡ []
before_none at line = rw (tokens_none at line)

before_cons : (at line : ℕ) (s : List ℕ) → 0 < length s
    → drop_last (tokens_from at line s)
    ≡ token_at at line s ∷ drop_last (tokens_from (at + token_len s) (line_after line s) (drop (token_len s) s))
before_cons at line s h =
    let rest = tokens_from (at + token_len s) (line_after line s) (drop (token_len s) s) in
    ap drop_last (tokens_cons at line s h) ∙ but_last_cons (token_at at line s) rest (tokens_some _ _ (drop (token_len s) s))

-- the kinds of the tokens before Eof, of the bytes s
abbrev pub kinds_from : ℕ → ℕ → List ℕ → List TokenKind
kinds_from at line s = kinds_before (tokens_from at line s)

kinds_cons : (at line : ℕ) (s : List ℕ) → 0 < length s
    → kinds_from at line s ≡ kind_of s ∷ kinds_from (at + token_len s) (line_after line s) (drop (token_len s) s)
kinds_cons at line s h = ap (map (λ (t : Token). t.kind)) (before_cons at line s h)

-- ---- a token that is followed by more bytes

-- the bytes s begin with the same token where t follows them
abbrev SameToken : List ℕ → List ℕ → Type 0
SameToken s t = (kind_of (s ++ t) ≡ kind_of s) × (token_len (s ++ t) ≡ token_len s)

-- so where a byte of s follows it
within : (s t : List ℕ) → token_len s < length s → SameToken s t
within s t h = token_local s (s ++ t) (sym (take-append-le (suc (token_len s)) s t h))

-- then the tokens of both are that token, and those of what is left
pass : (at line : ℕ) (s t : List ℕ) → 0 < length s → SameToken s t
    → tokens_from at line (s ++ t)
    ≡ token_at at line s ∷ tokens_from (at + token_len s) (line_after line s) (drop (token_len s) s ++ t)
pass at line s t h (kind, size) =
    let long : 0 < length (s ++ t) = omega (arith, length-append s t) in
    let fits = token_fits s in
    tokens_cons at line (s ++ t) long
    ∙ rw (kind, size, take-append-le (token_len s) s t fits, drop-append-le (token_len s) s t fits)

-- ---- the last token of the head

-- a Newline begins with CR or LF, and these begin nothing else
newline_begins : (b : ℕ) (x : Bool) → kind_by b x ≡ Newline → eol b ≡ true
newline_begins b x =
    by_kind (λ (k : TokenKind). k ≡ Newline → eol b ≡ true) b x
    (λ _. other refl) (λ _. other refl) (λ _. other refl) (λ _. other refl) (λ _. other refl) (λ _. other refl)
    (λ _. other refl) (λ _. other refl) (λ _. other refl) (λ t _. t) (λ _. other refl) (λ _. other refl)
    (λ _ _. other refl) (λ _ _. other refl) (other refl)
  where
    other : {k : TokenKind} → eqb (kind_number k) 10 ≡ false → k ≡ Newline → eol b ≡ true
    other f e = not_both (ap (λ (j : TokenKind). eqb (kind_number j) 10) e) f

begins_newline : (b : ℕ) (x : Bool) → eol b ≡ true → kind_by b x ≡ Newline
unfolding kind_by wschar
begins_newline b x t =
    or_inv (eqb b 13) (eqb b 10) t (λ e. rw (eqb-true b 13 e)) (λ e. rw (eqb-true b 10 e))

-- whatever follows, these bytes begin with a Newline
newline_kind : (s t : List ℕ) → 0 < length s → kind_of s ≡ Newline → kind_of (s ++ t) ≡ Newline
unfolding kind_of
newline_kind [] t h e = absurd (omega arith)
newline_kind (b ∷ s) t h e = begins_newline b (triple b (b ∷ (s ++ t))) (newline_begins b (triple b (b ∷ s)) e)

begins : (b : ℕ) (t : List ℕ) → stands b t ≡ true → head? t ≡ some b
begins b [] e = not_both e refl
begins b (c ∷ t) e = ap some (eqb-true c b e)

-- one byte is no CR that an LF follows
no_lf : (b : ℕ) (t : List ℕ) → NoCrLf (b ∷ []) t → (eqb b 13 && stands 10 t) ≡ false
no_lf b t no_crlf = go (eqb b 13) (stands 10 t) refl refl
  where
    go : (x y : Bool) → eqb b 13 ≡ x → stands 10 t ≡ y → (x && y) ≡ false
    go true true p q = absurd (no_crlf (ap some (eqb-true b 13 p)) (begins 10 t q))
    go true false p q = refl
    go false y p q = refl

-- a newline at the front of s is as long where t follows: of two bytes or more it needs no more, of one it asks for an LF
newline_tail_lem : (s t : List ℕ) → 0 < length s → NoCrLf s t → newline_tail (s ++ t) ≡ newline_tail s
unfolding newline_tail
newline_tail_lem [] t h no_crlf = absurd (omega arith)
newline_tail_lem (b ∷ []) t h no_crlf = rw (no_lf b t no_crlf, no_lf b [] (λ _ e. other e))
  where
    other : ◌≡◌ {A = Option ℕ} none (some 10) → ⊥
    other e = let z : ◌≡◌ {A = ℕ} 0 1 = cc in omega arith
newline_tail_lem (b ∷ c ∷ s) t h no_crlf = refl

-- so the seam leaves a Newline as it is
at_seam : (s t : List ℕ) → 0 < length s → kind_of s ≡ Newline → NoCrLf s t → SameToken s t
unfolding token_len extent
at_seam s t h e no_crlf =
    let kind = newline_kind s t h e in
    (kind ∙ sym e, rw (kind, e) (ap suc (newline_tail_lem s t h no_crlf)))

-- ---- all tokens of the head

-- the last kind is that of what is left, where something is
last_left : (at line : ℕ) (s : List ℕ) → token_len s < length s
    → get_last? (kinds_from at line s) ≡ get_last? (kinds_from (at + token_len s) (line_after line s) (drop (token_len s) s))
last_left at line s h =
    let rest = drop (token_len s) s in
    let on = line_after line s in
    let next = kinds_cons (at + token_len s) on rest (omega (arith, length-drop (token_len s) s)) in
    let left : 0 < length (kinds_from (at + token_len s) on rest) = rw next (omega arith) in
    ap get_last? (kinds_cons at line s (omega arith)) ∙ last_cons (kind_of s) (kinds_from (at + token_len s) on rest) left

-- else it is that of the one token
last_only : (at line : ℕ) (s : List ℕ) → 0 < length s → length s ≤ token_len s
    → get_last? (kinds_from at line s) ≡ some (kind_of s)
last_only at line s h l =
    ap get_last? (kinds_cons at line s h) ∙ rw (drop_of_length-le s l, before_none (at + token_len s) (line_after line s))

module _ (t : List ℕ) where
  -- the tokens of s and then of t are those of s without Eof, then those of t
  abbrev Meets : ℕ → ℕ → List ℕ → Type 0
  Meets at line s =
      tokens_from at line (s ++ t) ≡ drop_last (tokens_from at line s) ++ tokens_from (at + length s) (line + line_feeds s) t

  meets_none : (at line : ℕ) → Meets at line []
  meets_none at line = rw (before_none at line) (same_tokens t (omega arith) (omega (arith, feeds_none)))

  meets_cons : (at line : ℕ) (s : List ℕ) → 0 < length s → SameToken s t
      → Meets (at + token_len s) (line_after line s) (drop (token_len s) s) → Meets at line s
  meets_cons at line s h same rest =
      let k = token_len s in
      let end : at + k + length (drop k s) ≡ at + length s = omega (arith, length-drop k s, token_fits s) in
      let on : line_after line s + line_feeds (drop k s) ≡ line + line_feeds s = omega (arith, feeds_split k s) in
      rw (pass at line s t h same, before_cons at line s h, rest, end, on)

  abbrev AtSeam : List ℕ → Type 0
  AtSeam s = (at line : ℕ) → get_last? (kinds_from at line s) ≡ some Newline → NoCrLf s t → Meets at line s

  more : (n : ℕ) → ((s : List ℕ) → length s ≤ n → AtSeam s) → (b : ℕ) (s : List ℕ) → length s ≤ n → AtSeam (b ∷ s)
  more n ih b s l at line e no_crlf =
      let k = token_len (b ∷ s) in
      let rest = drop k (b ∷ s) in
      let on = line_after line (b ∷ s) in
      let long = token_long (b ∷ s) (omega arith) in
      let left = length-drop k (b ∷ s) in
      elim (dec_lt k (length (b ∷ s))) [
        | yes h ↦
            let last = sym (last_left at line (b ∷ s) h) ∙ e in
            let ends = last_drop k (b ∷ s) h in
            meets_cons at line (b ∷ s) (omega arith) (within (b ∷ s) t h)
            (ih rest (omega arith) (at + k) on last (λ cr. no_crlf (sym ends ∙ cr)))
        | no h ↦
            let all : length (b ∷ s) ≤ k = omega arith in
            let only = last_only at line (b ∷ s) (omega arith) all in
            let kind : kind_of (b ∷ s) ≡ Newline = cc in
            let none : rest ≡ [] = drop_of_length-le (b ∷ s) all in
            meets_cons at line (b ∷ s) (omega arith) (at_seam (b ∷ s) t (omega arith) kind no_crlf)
            (subst (Meets (at + k) on) (sym none) (meets_none (at + k) on))
      ]

  pub seam : (s : List ℕ) → AtSeam s
  seam s = by_length AtSeam (λ at line e no_crlf. meets_none at line) more (length s) s (omega arith)

-- ---- tokens moved on

-- over one byte
passed : (d l at line b k : ℕ) (s : List ℕ)
    → walk (at + d + 1) (line_behind (line + l) b) k s ≡ walk (at + 1 + d) (line_behind line b + l) k s
passed d l at line b k s =
    let place : at + d + 1 ≡ at + 1 + d = omega arith in
    let on : line_behind line b + l ≡ line_behind (line + l) b = of_choice (λ (n : ℕ). n + l) (eqb b 10) (omega arith) refl in
    rw (place, on)

walk_moved : (d l at line k : ℕ) (s : List ℕ) → walk (at + d) (line + l) k s ≡ map (moved d l) (walk at line k s)
unfolding walk
walk_moved d l at line k [] = refl
walk_moved d l at line zero (b ∷ s) =
    let k = token_len (b ∷ s) in
    let end : at + d + k ≡ at + k + d = omega arith in
    rw (end, passed d l at line b (pred k) s) (ap (λ (r : List Token). moved d l (token_at at line (b ∷ s)) ∷ r)
    (walk_moved d l (at + 1) (line_behind line b) (pred k) s))
walk_moved d l at line (suc k) (b ∷ s) =
    passed d l at line b k s ∙ walk_moved d l (at + 1) (line_behind line b) k s

pub tokens_moved : (d l at line : ℕ) (s : List ℕ) → tokens_from (at + d) (line + l) s ≡ map (moved d l) (tokens_from at line s)
unfolding tokens_from
tokens_moved d l at line s = walk_moved d l at line 0 s
