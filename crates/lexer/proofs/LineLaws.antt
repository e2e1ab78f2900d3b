-- Lines: the LFs in a part and in the rest, at a place, and in a token, of which only a newline and the ml kinds hold any.
-- Assumes nothing.
use Prim.Native.Nat.{ℕ, zero, suc, ◌+◌, ◌-◌, ◌≤◌, ◌<◌}
use mathlib.Core.Path.{◌≡◌, refl, sym, ap, ◌∙◌}
use mathlib.Core.Bool.{Bool, true, false, cond, not, ◌&&◌}
use mathlib.Core.List.{List, [], ◌∷◌}
use native.Mathlib.Omega.{arith}
use Rattle.std.specs.Prelude.{count_by}
use Rattle.std.proofs.lemmas.List.Recursion.{is_count_by}
use native.Mathlib.Numerals.{add-one}
use native.Mathlib.Decide.{dec_lt}
use borrow.Author.Tests.{eq-eqb, ne_eqb, eqb-true, eqb-false}
use lib.Dec.{eqb}
use lib.ListN.{length, get_or, take, drop, drop_of_length-le, length-take, length-drop}
use lib.Seq.{drop-cons, drop-drop, get_or-drop, get_or-take, take-length}
use Rattle.text_classes.specs.Classes.{wschar, token_start}
use Rattle.text_classes.specs.Runs.{run, stands, triple}
use Rattle.text_classes.proofs.Conds.{cond_case, both_left, both_right, not_both}
use Rattle.text_classes.proofs.RunLaws.{there}
use Rattle.lexer_token.specs.declared.TokenKind.{TokenKind}
use Rattle.lexer_token.specs.declared.TokenKind.TheVariants.{Dot, Equals, Comma, LeftSquareBracket, RightSquareBracket, LeftCurlyBracket, RightCurlyBracket, Whitespace, Comment, Newline, LiteralString, BasicString, MlLiteralString, MlBasicString, Atom, Eof}
use Rattle.lexer_scans.specs.Extents.{hides, closes, in_comment, in_atom}
use Rattle.lexer_scans.specs.Extents.{line_tail, newline_tail}
use Rattle.lexer.specs.Lines.{line_feeds, line_behind}
use Rattle.lexer.specs.Tokens.{has_bom, start_of}
use Rattle.lexer.specs.Table.{kind_by, kind_of, extent, token_len}
use Rattle.lexer_scans.proofs.MarkLaws.{stands_at}
use Rattle.lexer.proofs.KindLaws.{by_kind}

-- ---- a byte at the front

pub lf_front : (b : ℕ) (s : List ℕ) → b ≡ 10 → line_feeds (b ∷ s) ≡ suc (line_feeds s)
unfolding line_feeds
lf_front b s e = rw (eq-eqb b 10 e)

pub other_front : (b : ℕ) (s : List ℕ) → (b ≡ 10 → ⊥) → line_feeds (b ∷ s) ≡ line_feeds s
unfolding line_feeds
other_front b s e = rw (ne_eqb b 10 e)

pub behind_front : (line b : ℕ) (s : List ℕ) → line_behind line b + line_feeds s ≡ line + line_feeds (b ∷ s)
unfolding line_feeds
behind_front line b s = go (eqb b 10)
  where
    go : (t : Bool) → cond t (suc line) line + line_feeds s ≡ line + cond t (suc (line_feeds s)) (line_feeds s)
    go true = omega arith
    go false = refl

pub feeds_none : line_feeds [] ≡ 0
unfolding line_feeds
feeds_none = refl

pub feeds_le : (s : List ℕ) → line_feeds s ≤ length s
feeds_le [] = omega (arith, feeds_none)
feeds_le (b ∷ s) =
    let r = feeds_le s in
    let e = behind_front 0 b s in
    cond_case (λ (n : ℕ). n + line_feeds s ≡ 0 + line_feeds (b ∷ s) → line_feeds (b ∷ s) ≤ suc (length s)) (eqb b 10)
    (λ _ k. omega arith) (λ _ k. omega arith) e

-- counted one by one
pub feeds_counted : (s : List ℕ) → line_feeds s ≡ count_by (λ (b : ℕ). eqb b 10) s
unfolding line_feeds
feeds_counted = is_count_by line_feeds (λ (b : ℕ). eqb b 10) refl (λ b s. go (eqb b 10) s)
  where
    go : (t : Bool) (s : List ℕ) → cond t (suc (line_feeds s)) (line_feeds s) ≡ cond t (1 + line_feeds s) (line_feeds s)
    go true s = omega arith
    go false s = refl

-- a part and the rest
pub feeds_split : (n : ℕ) (s : List ℕ) → line_feeds (take n s) + line_feeds (drop n s) ≡ line_feeds s
feeds_split zero s = omega (arith, feeds_none)
feeds_split (suc n) [] = omega (arith, feeds_none)
feeds_split (suc n) (b ∷ s) = omega (arith, feeds_split n s, behind_front 0 b s, behind_front 0 b (take n s))

pub feeds_taken : (n : ℕ) (s : List ℕ) → line_feeds (take n s) ≤ n
feeds_taken n s = omega (arith, feeds_le (take n s), length-take n s)

-- from one place by two names
pub feeds_from : (doc : List ℕ) (i j : ℕ) → i ≡ j → line_feeds (drop i doc) ≡ line_feeds (drop j doc)
feeds_from doc i j e = ap (λ (k : ℕ). line_feeds (drop k doc)) e

-- from a place on: n bytes and the rest, or up to another place and the rest
pub feeds_on : (doc : List ℕ) (i n : ℕ)
    → line_feeds (take n (drop i doc)) + line_feeds (drop (i + n) doc) ≡ line_feeds (drop i doc)
feeds_on doc i n = omega (arith, feeds_split n (drop i doc), ap line_feeds (drop-drop n i doc))

pub feeds_between : (doc : List ℕ) (i j : ℕ) → i ≤ j
    → line_feeds (take (j - i) (drop i doc)) + line_feeds (drop j doc) ≡ line_feeds (drop i doc)
feeds_between doc i j h = omega (arith, feeds_on doc i (j - i), feeds_from doc (i + (j - i)) j (omega arith))

-- ---- at a place

-- a byte that is no LF
feeds_at_other : (s : List ℕ) (i : ℕ) → i < length s → (get_or s i 0 ≡ 10 → ⊥)
    → line_feeds (drop i s) ≡ line_feeds (drop (i + 1) s)
feeds_at_other s i h e =
    let split : drop i s ≡ get_or s i 0 ∷ drop (i + 1) s = rw (add-one, drop-cons s i 0 h) in
    rw split (other_front (get_or s i 0) (drop (i + 1) s) e)

pub feeds_end : (s : List ℕ) (i : ℕ) → length s ≤ i → line_feeds (drop i s) ≡ 0
feeds_end s i h = rw (drop_of_length-le s h) feeds_none

-- ---- a byte order mark holds no LF

-- passing a byte that is no LF, or that is not there, passes no line end
feeds_past : (s : List ℕ) (i : ℕ) → (get_or s i 0 ≡ 10 → ⊥) → line_feeds (drop i s) ≡ line_feeds (drop (i + 1) s)
feeds_past s i e =
    elim (dec_lt i (length s)) [
      | yes l ↦ feeds_at_other s i l e
      | no l ↦ feeds_end s i (omega arith) ∙ sym (feeds_end s (i + 1) (omega arith))
    ]

-- a byte that is there and no LF is none in a part from the front either
no_lf_in : (s : List ℕ) (n i b : ℕ) → get_or s i 0 ≡ b → 10 < b → get_or (take n s) i 0 ≡ 10 → ⊥
no_lf_in s n i b e h f =
    let l = there (take n s) i (omega arith) in
    omega (arith, get_or-take n s i 0 (omega (arith, length-take n s)))

pub mark_bytes : (s : List ℕ) → has_bom s ≡ true → (get_or s 0 0 ≡ 0xEF) × (get_or s 1 0 ≡ 0xBB) × (get_or s 2 0 ≡ 0xBF)
mark_bytes s t =
    let first = stands 0xEF s in
    let second = stands 0xBB (drop 1 s) in
    let third = stands 0xBF (drop 2 s) in
    let behind = both_right first (second && third) t in (
      eqb-true _ _ (sym (stands_at 0xEF refl s 0) ∙ both_left first (second && third) t),
      eqb-true _ _ (sym (stands_at 0xBB refl s 1) ∙ both_left second third behind),
      eqb-true _ _ (sym (stands_at 0xBF refl s 2) ∙ both_right second third behind),
    )

pub mark_no_lf : (s : List ℕ) (n : ℕ) → line_feeds (drop (start_of s) (take n s)) ≡ line_feeds (take n s)
unfolding start_of
mark_no_lf s n =
    cond_case (λ (k : ℕ). line_feeds (drop k (take n s)) ≡ line_feeds (take n s)) (has_bom s)
    (λ t.
    let m = mark_bytes s t in
    let past : (i b : ℕ) → get_or s i 0 ≡ b → 10 < b → line_feeds (drop i (take n s)) ≡ line_feeds (drop (i + 1) (take n s)) =
    λ i b e h. feeds_past (take n s) i (no_lf_in s n i b e h) in
    sym (past 0 _ m.0 (omega arith) ∙ past 1 _ m.1 (omega arith) ∙ past 2 _ m.2 (omega arith)))
    (λ t. refl)

pub start_no_lf : (s : List ℕ) → line_feeds (drop (start_of s) s) ≡ line_feeds s
start_no_lf s = rw (take-length s) at (mark_no_lf s (length s))

-- ---- in a token

run_no_lf : (p : ℕ → Bool) (s : List ℕ) → p 10 ≡ false → line_feeds (take (run p s) s) ≡ 0
unfolding run
run_no_lf p [] h = feeds_none
run_no_lf p (b ∷ s) h =
    let r = run_no_lf p s h in
    cond_case (λ (n : ℕ). line_feeds (take n (b ∷ s)) ≡ 0) (p b)
    (λ t. other_front b (take (run p s) s) (λ e. not_both t (ap p e ∙ h)) ∙ r) (λ t. feeds_none)

line_no_lf : (q : ℕ) (h : Bool) (s : List ℕ) → (q ≡ 10 → ⊥) → line_feeds (take (line_tail q h s) s) ≡ 0
unfolding line_tail
line_no_lf q h [] k = feeds_none
line_no_lf q h (b ∷ s) k =
    let P : ℕ → Type 0 = λ n. line_feeds (take n (b ∷ s)) ≡ 0 in
    let r = line_no_lf q (hides q h b) s k in
    let rest = take (line_tail q (hides q h b) s) s in
    let mark : closes q h b ≡ true → b ≡ q = λ t. eqb-true b q (both_right (not h) (eqb b q) t) in
    cond_case P (closes q h b) (λ t. other_front b [] (λ e. k (sym (mark t) ∙ e)) ∙ feeds_none)
    λ _. cond_case P (eqb b 10) (λ t. feeds_none) (λ t. other_front b rest (eqb-false b 10 t) ∙ r)

-- the kinds that may hold an LF: a newline, and those on several lines
abbrev pub holds_lf : TokenKind → Bool
holds_lf Dot = false
holds_lf Equals = false
holds_lf Comma = false
holds_lf LeftSquareBracket = false
holds_lf RightSquareBracket = false
holds_lf LeftCurlyBracket = false
holds_lf RightCurlyBracket = false
holds_lf Whitespace = false
holds_lf Comment = false
holds_lf Newline = true
holds_lf LiteralString = false
holds_lf BasicString = false
holds_lf MlLiteralString = true
holds_lf MlBasicString = true
holds_lf Atom = false
holds_lf Eof = false

lf_newline : (b : ℕ) (s : List ℕ) → b ≡ 10 → kind_of (b ∷ s) ≡ Newline
unfolding kind_of kind_by wschar
lf_newline b s e = rw e

abbrev NoLf : List ℕ → ℕ → Type 0
NoLf s n = line_feeds (take n s) ≡ 0

pub token_no_lf : (s : List ℕ) → holds_lf (kind_of s) ≡ false → NoLf s (token_len s)
unfolding token_len kind_of extent wschar token_start
token_no_lf [] = λ _. feeds_none
token_no_lf (b ∷ s) = go (eqb b 10) refl
  where
    go : (t : Bool) → eqb b 10 ≡ t → holds_lf (kind_of (b ∷ s)) ≡ false → NoLf (b ∷ s) (token_len (b ∷ s))
    go true t = λ f. not_both (ap holds_lf (lf_newline b s (eqb-true b 10 t))) f
    go false t =
        let rest : (k : ℕ) → NoLf s k → NoLf (b ∷ s) (suc k) = λ k e. other_front b (take k s) (eqb-false b 10 t) ∙ e in
        let one : NoLf (b ∷ s) 1 = rest 0 feeds_none in
        let runs : (p : ℕ → Bool) → p 10 ≡ false → NoLf (b ∷ s) (suc (run p s)) =
        λ p e. rest (run p s) (run_no_lf p s e) in
        let string : (q : ℕ) → (q ≡ 10 → ⊥) → NoLf (b ∷ s) (suc (line_tail q false s)) =
        λ q k. rest (line_tail q false s) (line_no_lf q false s k) in
        by_kind (λ (k : TokenKind). holds_lf k ≡ false → NoLf (b ∷ s) (extent k (b ∷ s))) b (triple b (b ∷ s))
        (λ _ _. one) (λ _ _. one) (λ _ _. one) (λ _ _. one) (λ _ _. one) (λ _ _. one) (λ _ _. one)
        (λ _ _. runs wschar refl) (λ _ _. runs in_comment refl) (λ _ f. not_both refl f)
        (λ _ _. string 39 (λ e. omega arith)) (λ _ _. string 34 (λ e. omega arith))
        (λ _ _ f. not_both refl f) (λ _ _ f. not_both refl f) (λ _. runs in_atom refl)

-- a newline holds an LF where its last byte is one
pub newline_line : (s : List ℕ) → 0 < length s
    → line_feeds (take (suc (newline_tail s)) s) ≡ cond (eqb (get_or s (newline_tail s) 0) 10) 1 0
unfolding newline_tail line_feeds
newline_line [] h = absurd (omega arith)
newline_line (b ∷ s) h =
    let cr = eqb b 13 in
    let lf = stands 10 s in
    cond_case (λ (n : ℕ). line_feeds (b ∷ take n s) ≡ cond (eqb (get_or (b ∷ s) n 0) 10) 1 0) (cr && lf)
    (λ t. crlf s (eqb-true b 13 (both_left cr lf t)) (both_right cr lf t))
    (λ t. refl)
  where
    crlf : (s : List ℕ) → b ≡ 13 → stands 10 s ≡ true → line_feeds (b ∷ take 1 s) ≡ cond (eqb (get_or s 0 0) 10) 1 0
    crlf [] e f = not_both f refl
    crlf (x ∷ s) e f = rw (ne_eqb b 10 (λ z. omega arith), f)

-- n is 1 where the byte is an LF, else 0
abbrev pub OneIfLf : ℕ → ℕ → Type 0
OneIfLf b n = (b ≡ 10 → n ≡ 1) × ((b ≡ 10 → ⊥) → n ≡ 0)

-- so by its last byte
pub newline_token : (doc : List ℕ) (at i : ℕ) → at < length doc
    → kind_of (drop at doc) ≡ Newline → i ≡ at + newline_tail (drop at doc)
    → OneIfLf (get_or doc i 0) (line_feeds (take (token_len (drop at doc)) (drop at doc)))
unfolding token_len extent
newline_token doc at i h k e =
    let s = drop at doc in
    let n = newline_tail s in
    let size : token_len s ≡ suc n = ap (λ (j : TokenKind). extent j s) k in
    let byte : get_or s n 0 ≡ get_or doc i 0 = get_or-drop at doc n 0 ∙ ap (λ (j : ℕ). get_or doc j 0) (sym e) in
    let is : line_feeds (take (token_len s) s) ≡ cond (eqb (get_or doc i 0) 10) 1 0 =
    ap (λ (j : ℕ). line_feeds (take j s)) size ∙ newline_line s (omega (arith, length-drop at doc))
    ∙ ap (λ (b : ℕ). cond (eqb b 10) 1 0) byte in
    (λ f. is ∙ rw (eq-eqb (get_or doc i 0) 10 f), λ f. is ∙ rw (ne_eqb (get_or doc i 0) 10 f))
