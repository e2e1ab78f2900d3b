-- The law of specs/Joined.antt, for two parts and for more: the joined document is lexed from where the head is, the seam changes
-- no token of the head (Seam.antt), and the tail's tokens are those of the tail alone, moved on.
use Prim.Native.Nat.{ℕ, ◌+◌, ◌≤◌, ◌<◌}
use mathlib.Core.Path.{◌≡◌, refl, sym, ap, ◌∙◌}
use mathlib.Core.Bool.{Bool, true, false, ◌&&◌}
use mathlib.Core.Option.{Option, none, some}
use mathlib.Core.List.{List, [], ◌∷◌, ◌++◌, map, head?, drop_last, append_assoc, append-nil, flatten, map-append}
use native.Mathlib.Omega.{arith}
use native.Mathlib.Decide.{dec_lt}
use borrow.Author.Tests.{eqb-true}
use lib.Dec.{eqb}
use lib.ListN.{length, drop, length-drop, length-append, drop_of_length-le}
use lib.Seq.{drop-append-le, take-length, take-append_seam, drop-append_seam}
use Rattle.text_classes.specs.Classes.{wschar, token_start}
use Rattle.text_classes.specs.Runs.{run, triple}
use Rattle.lexer_token.specs.declared.TokenKind.{TokenKind}
use Rattle.lexer_token.specs.declared.TokenKind.TheVariants.{Newline, Atom}
use Rattle.lexer_token.specs.declared.Token.{Token}
use Rattle.lexer_token.specs.KindNumbers.{kind_number}
use Rattle.lexer.specs.Lines.{line_feeds, line_of}
use Rattle.lexer.specs.Table.{kind_by, kind_of, extent, token_len}
use Rattle.lexer.specs.Tokens.{eof_at, walk, tokens_from, has_bom, start_of, tokens_of}
use Rattle.lexer.proofs.LineLaws.{feeds_split, start_no_lf}
use Rattle.lexer.proofs.TokenLaws.{start_fits}
use Rattle.lexer.proofs.UntilLaws.{tokens_before, until_all}
use Rattle.theorems_joined.specs.Joined.{EndsInNewline, Unmarked, Joins, moved_by, Joined, EofLast, JoinsOn, JoinedThree, JoinsAll, JoinedParts}
use Rattle.theorems_joined.proofs.ListLaws.{last_drop, but_last_end}
use Rattle.theorems_joined.proofs.Seam.{before_none, seam, tokens_moved}

-- ---- where the joined document is lexed from

-- a head has a byte, and where it has one or two, they do not begin a byte order mark: they would be an Atom
some_byte : EndsInNewline [] → ⊥
unfolding walk tokens_from start_of tokens_of
some_byte e = let z : ◌≡◌ {A = ℕ} 0 1 = cc in omega arith

no_mark_in_one : EndsInNewline (0xEF ∷ []) → ⊥
unfolding wschar token_start run triple kind_by kind_of extent token_len walk tokens_from start_of tokens_of
no_mark_in_one e = let z : Atom ≡ Newline = cc in omega (arith, ap kind_number z)

no_mark_in_two : EndsInNewline (0xEF ∷ 0xBB ∷ []) → ⊥
unfolding wschar token_start run triple kind_by kind_of extent token_len walk tokens_from start_of tokens_of
no_mark_in_two e = let z : Atom ≡ Newline = cc in omega (arith, ap kind_number z)

same_under : (x : Bool) {y z : Bool} → (x ≡ true → y ≡ z) → (x && y) ≡ (x && z)
same_under true f = f refl
same_under false f = refl

-- so a mark at the front stands in the head
same_mark : (head tail : List ℕ) → EndsInNewline head → has_bom (head ++ tail) ≡ has_bom head
same_mark [] tail e = absurd (some_byte e)
same_mark (a ∷ []) tail e = same_under (eqb a 0xEF) (λ p. absurd (no_mark_in_one (rw (eqb-true a 0xEF p) at e)))
same_mark (a ∷ b ∷ []) tail e =
    same_under (eqb a 0xEF) (λ p. same_under (eqb b 0xBB)
    (λ q. absurd (no_mark_in_two (rw (eqb-true a 0xEF p, eqb-true b 0xBB q) at e))))
same_mark (a ∷ b ∷ c ∷ s) tail e = refl

pub same_start : (head tail : List ℕ) → EndsInNewline head → start_of (head ++ tail) ≡ start_of head
unfolding start_of
same_start head tail e = rw (same_mark head tail e)

-- ---- the law

-- a head has more bytes than a byte order mark
pub some_lexed : (head : List ℕ) → EndsInNewline head → start_of head < length head
unfolding tokens_of
some_lexed head e = elim (dec_lt (start_of head) (length head)) [
  | yes h ↦ h
  | no h ↦
      let all : length head ≤ start_of head = omega arith in
      let nothing : ◌≡◌ {A = Option TokenKind} none (some Newline) =
      rw (drop_of_length-le head all, before_none (start_of head) 1) at e in
      let z : ◌≡◌ {A = ℕ} 0 1 = cc in
      omega arith
]

pub unmarked_start : (tail : List ℕ) → Unmarked tail → start_of tail ≡ 0
unfolding start_of
unmarked_start tail e = rw e

module _ (head tail : List ℕ) (joins : Joins head tail) where
  tail_moved : tokens_from (length head) (1 + line_feeds head) tail ≡ map (moved_by head) (tokens_of tail)
  unfolding tokens_of
  tail_moved =
      let n = length head in
      let d = line_feeds head in
      let place : n ≡ 0 + n = omega arith in
      rw (unmarked_start tail joins.unmarked)
      (ap (λ (k : ℕ). tokens_from k (1 + d) tail) place ∙ tokens_moved n d 0 1 tail)

  head_kept : tokens_of (head ++ tail) ≡ drop_last (tokens_of head) ++ tokens_from (length head) (1 + line_feeds head) tail
  unfolding tokens_of
  head_kept =
      let start = start_of head in
      let s = drop start head in
      let from : drop start (head ++ tail) ≡ s ++ tail = drop-append-le start head tail (start_fits head) in
      let end : start + length s ≡ length head = omega (arith, length-drop start head, start_fits head) in
      let ends = last_drop start head (some_lexed head joins.newline) in
      rw (same_start head tail joins.newline, from)
      (seam tail s start 1 joins.newline (λ cr. joins.no_crlf (sym ends ∙ cr))
      ∙ rw (end, start_no_lf head))

pub joined : Joined
joined head tail joins =
    head_kept head tail joins ∙ ap (λ (r : List Token). drop_last (tokens_of head) ++ r) (tail_moved head tail joins)

pub eof_last : EofLast
eof_last doc =
    let ts = tokens_before doc in
    let eof = eof_at (length doc) (line_of doc (length doc)) in
    let line : 1 + line_feeds (drop (start_of doc) doc) ≡ line_of doc (length doc) =
    omega (arith, start_no_lf doc, ap line_feeds (take-length doc)) in
    let all : tokens_of doc ≡ ts ++ (eof ∷ []) = rw line at (until_all doc) in
    let before : drop_last (tokens_of doc) ≡ ts = ap drop_last all ∙ but_last_end ts eof in
    rw before all

-- ---- three parts

pub feeds_append : (s t : List ℕ) → line_feeds (s ++ t) ≡ line_feeds s + line_feeds t
feeds_append s t =
    omega (arith, feeds_split (length s) (s ++ t), ap line_feeds (take-append_seam s t), ap line_feeds (drop-append_seam s t))

same_first : (s t : List ℕ) → EndsInNewline s → head? (s ++ t) ≡ head? s
same_first [] t e = absurd (some_byte e)
same_first (b ∷ s) t e = refl

pub joins_on : JoinsOn
joins_on first second third p q = record {
  newline = p.newline;
  unmarked = same_mark second third q.newline ∙ p.unmarked;
  no_crlf = λ cr lf. p.no_crlf cr (sym (same_first second third q.newline) ∙ lf);
}

-- moved on by one part and then by another is moved on by both
moved_twice : (first second : List ℕ) (t : Token) → moved_by first (moved_by second t) ≡ moved_by (first ++ second) t
moved_twice first second t =
    let bytes = length-append first second in
    let start : t.span.start + length second + length first ≡ t.span.start + length (first ++ second) = omega arith in
    let end : t.span.end + length second + length first ≡ t.span.end + length (first ++ second) = omega arith in
    let line : t.line + line_feeds second + line_feeds first ≡ t.line + line_feeds (first ++ second) =
    omega (arith, feeds_append first second) in
    rw (start, end, line)

all_moved : (first second : List ℕ) (ts : List Token)
    → map (moved_by first) (map (moved_by second) ts) ≡ map (moved_by (first ++ second)) ts
all_moved first second [] = refl
all_moved first second (t ∷ ts) = let one = moved_twice first second t in let rest = all_moved first second ts in cc

-- the law used twice
pub joined_three : JoinedThree
joined_three first second third p q =
    let one = drop_last (tokens_of first) in
    let two = drop_last (tokens_of second) in
    let all : map (moved_by first) (tokens_of (second ++ third))
    ≡ map (moved_by first) two ++ map (moved_by (first ++ second)) (tokens_of third) =
    ap (map (moved_by first)) (joined second third q) ∙ map-append (moved_by first) two (map (moved_by second) (tokens_of third))
    ∙ ap (λ (r : List Token). map (moved_by first) two ++ r) (all_moved first second (tokens_of third)) in
    rw (append_assoc first second third, joined first (second ++ third) (joins_on first second third p q), all)
    (sym (append_assoc one (map (moved_by first) two) (map (moved_by (first ++ second)) (tokens_of third))))

-- ---- any number of parts

joins_rest : (part next : List ℕ) (parts : List (List ℕ)) → Joins part next → JoinsAll next parts
    → Joins part (next ++ flatten parts)
unfolding flatten
joins_rest part next [] p all = rw (append-nil next) p
joins_rest part next (third ∷ parts) p (q, all) =
    joins_on part next (third ++ flatten parts) p (joins_rest next third parts q all)

pub joined_parts : JoinedParts
unfolding flatten
joined_parts part [] all = ap tokens_of (append-nil part)
joined_parts part (next ∷ parts) (p, all) =
    joined part (next ++ flatten parts) (joins_rest part next parts p all)
    ∙ ap (λ (r : List Token). drop_last (tokens_of part) ++ map (moved_by part) r) (joined_parts next parts all)
