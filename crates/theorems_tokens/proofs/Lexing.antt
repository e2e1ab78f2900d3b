-- The theorems of specs/Lexing.antt.
-- Assumes nothing.
use Prim.Native.Nat.{ℕ, zero, suc, ◌+◌, ◌-◌, ◌≤◌, ◌<◌}
use Rattle.std.specs.Prelude.{Ok, Err, Some, None}
use mathlib.Core.Path.{◌≡◌, refl, sym, ap, ◌∙◌, subst}
use mathlib.Core.Logic.{inl, inr}
use mathlib.Core.Bool.{Bool, true, false, ◌||◌}
use mathlib.Core.List.Memᴰ
use mathlib.Core.List.{List, [], ◌∷◌, ◌++◌, append_assoc, append-nil, Memᴰ, map}
use native.Mathlib.Omega.{arith}
use native.Mathlib.Decide.{dec_lt}
use borrow.Author.Tests.{le-ltb, eq-eqb, ne_eqb}
use lib.Dec.{eqb, ltb}
use lib.ListN.{length, get_or, take, drop, length-drop, drop_of_length-le}
use lib.Seq.{drop-drop}
use Rattle.text_refusals.specs.Refusals.{limit}
use Rattle.text_scalars.specs.Utf8.{Utf8, encode_scalar, encodes}
use Rattle.text_scalars.specs.Utf8Read.{scalars}
use Rattle.text_scalars.proofs.ReadLaws.{scalars_char, encodes_of, front}
use Rattle.text_scalars.proofs.CutLaws.{one_utf8, cut, ascii_cut, utf8_append}
use Rattle.lexer_token.specs.declared.TokenKind.TheVariants.{Eof}
use Rattle.lexer_token.specs.declared.Token.{Token}
use Rattle.lexer_token.specs.Records.{token_of, record_of}
use Rattle.lexer.specs.Lines.{line_feeds, line_of}
use Rattle.lexer.specs.Table.{kind_of, extent, token_len}
use Rattle.lexer.specs.Tokens.{token_at, eof_at, line_after, walk, tokens_from, has_bom, start_of, tokens_of}
use Rattle.lexer.specs.Steps.{cursor_of, start_answer, start_cursor, Step, step_within, astray, step_of}
use Rattle.lexer.specs.Whole.{records_of}
use Rattle.lexer.specs.declared.Cursor.{Cursor}
use Rattle.text_classes.proofs.Conds.{cond_case, of_choice}
use Rattle.lexer.proofs.LineLaws.{feeds_none, feeds_split, mark_bytes, start_no_lf, feeds_taken}
use Rattle.lexer.proofs.TokenLaws.{token_fits, token_long, token_fits_at, line_fits_at, tokens_cons, tokens_step, tokens_end, start_fits}
use Rattle.lexer_place.specs.Positions.{position_answer}
use Rattle.theorems_tokens.specs.Lexing.{next_cursor, steps_from, Gives, StepsWhole, TokenLine, OnLines, RecordLines, moved_cursor, moved_step, StepsMoved, Follow, NoGap, NotEmpty, Uncut, Local}
use Rattle.theorems_tokens.specs.Cuts.{Clean, at_end, before, after, further}
use Rattle.theorems_tokens.proofs.CutLaws.{token_clean}
use Rattle.theorems_tokens.proofs.LocalLaws.{token_local}
use Rattle.theorems_tokens.proofs.ByLength.{by_length}

-- ---- steps and whole lexing

module _ (doc : List ℕ) (l : length doc ≤ limit) where
  -- the cursor after the token at a place
  abbrev cursor_past : ℕ → ℕ → Cursor
  cursor_past at line = cursor_of (at + token_len (drop at doc)) (line_after line (drop at doc)) false

  pub step_token : (at line : ℕ) → at < length doc → line ≤ at + 1
      → step_of doc (cursor_of at line false) ≡ Ok (Some (token_at at line (drop at doc), cursor_past at line))
  unfolding step_of
  step_token at line h o =
      let within : at ≤ length doc = omega arith in
      let other : at ≡ length doc → ⊥ = λ e. omega arith in
      simp (le-ltb limit (length doc) l, le-ltb (length doc) at within, le-ltb (at + 1) line o, ne_eqb at (length doc) other)

  pub step_eof : (line : ℕ) → line ≤ length doc + 1
      → step_of doc (cursor_of (length doc) line false) ≡ Ok (Some (eof_at (length doc) line, cursor_of (length doc) line true))
  unfolding step_of
  step_eof line o =
      let n = length doc in
      simp (le-ltb limit n l, le-ltb n n (omega arith), le-ltb (n + 1) line o, eq-eqb n n refl)

  pub step_end : (line : ℕ) → line ≤ length doc + 1 → step_of doc (cursor_of (length doc) line true) ≡ Ok None
  unfolding step_of
  step_end line o =
      let n = length doc in
      simp (le-ltb limit n l, le-ltb n n (omega arith), le-ltb (n + 1) line o, eq-eqb n n refl)

  ended : (k line : ℕ) → line ≤ length doc + 1 → Gives [] (steps_from k doc (cursor_of (length doc) line true))
  unfolding steps_from
  ended zero line o = tt
  ended (suc k) line o = rw (step_end line o) (ended k line o)

  at_the_end : (k line : ℕ) → line ≤ length doc + 1
      → Gives (eof_at (length doc) line ∷ []) (steps_from k doc (cursor_of (length doc) line false))
  unfolding steps_from
  at_the_end zero line o = tt
  at_the_end (suc k) line o = rw (step_eof line o) (refl, ended k line o)

  from_place : (k at line : ℕ) → at ≤ length doc → line ≤ at + 1
      → Gives (tokens_from at line (drop at doc)) (steps_from k doc (cursor_of at line false))
  unfolding steps_from
  from_place zero at line h o = tt
  from_place (suc k) at line h o =
      elim (dec_lt at (length doc)) [
        | yes w ↦
            let next = cursor_past at line in
            let rest = from_place k next.place next.line (token_fits_at doc at h) (line_fits_at doc at line o) in
            rw (tokens_step doc at line w, step_token at line w o) (refl, rest)
        | no w ↦
            let e : at ≡ length doc = omega arith in
            rw (e, tokens_end doc (length doc) line (omega arith)) (at_the_end (suc k) line (omega arith))
      ]

  starts : start_cursor (start_answer doc) ≡ cursor_of (start_of doc) 1 false
  unfolding start_answer
  starts = rw (le-ltb limit (length doc) l)

pub steps_whole : StepsWhole
unfolding tokens_of
steps_whole doc l k = rw (starts doc l) (from_place doc l k (start_of doc) 1 (start_fits doc) (omega arith))

-- ---- a clean place cuts no character

clean_from : {s : List ℕ} {n : ℕ} → Clean s n → (p : List ℕ) → Utf8 (p ++ s) → Utf8 (p ++ take n s) × Utf8 (drop n s)
clean_from at_end p u = (u, ([], tt, refl))
clean_from (before {b} {s} h) p u = let w = cut p (b ∷ s) u (inl h) in (rw (append-nil p) w.0, w.1)
clean_from (after {b} {s} h) p u = let w = ascii_cut p s b h u in (utf8_append p (b ∷ []) w.0 (one_utf8 b h), w.1)
clean_from (further {b} {n} {s} c) p u =
    let w = clean_from c (p ++ (b ∷ [])) (rw (append_assoc p (b ∷ []) s) u) in
    (subst Utf8 (append_assoc p (b ∷ []) (take n s)) w.0, w.1)

pub clean_cut : (s : List ℕ) (n : ℕ) → Clean s n → Utf8 s → Utf8 (take n s) × Utf8 (drop n s)
clean_cut s n c u = clean_from c [] u

-- so the first token of UTF-8 and what follows it are UTF-8
pub token_cut : (s : List ℕ) → Utf8 s → Utf8 (take (token_len s) s) × Utf8 (drop (token_len s) s)
token_cut s u = clean_cut s (token_len s) (token_clean s) u

-- ---- each token of the list is the token that the rules give at its place

pub record TokenWithin (at line : ℕ) (s : List ℕ) (t : Token) : Type 0 where
  pub place : ℕ
  pub within : place ≤ length s
  pub is : t ≡ token_at (at + place) (line + line_feeds (take place s)) (drop place s)
  pub whole : Utf8 s → Utf8 (drop place s)

same_token_at : {a b l m : ℕ} {s t : List ℕ} → a ≡ b → l ≡ m → s ≡ t → token_at a l s ≡ token_at b m t
same_token_at {a} {b} {l} {m} {s} {t} p q e =
    ap (λ (k : ℕ). token_at k l s) p ∙ ap (λ (k : ℕ). token_at b k s) q ∙ ap (token_at b m) e

stands_later : (at line n : ℕ) (s : List ℕ) (t : Token) → n ≤ length s → (Utf8 s → Utf8 (drop n s))
    → TokenWithin (at + n) (line + line_feeds (take n s)) (drop n s) t → TokenWithin at line s t
stands_later at line n s t h u w =
    let e : drop w.place (drop n s) ≡ drop (n + w.place) s = drop-drop w.place n s in
    let same : at + n + w.place ≡ at + (n + w.place) = omega arith in
    let on : line + line_feeds (take n s) + line_feeds (take w.place (drop n s)) ≡ line + line_feeds (take (n + w.place) s) =
    omega (arith, feeds_split n s, feeds_split w.place (drop n s), feeds_split (n + w.place) s, ap line_feeds e) in
    record {
      place = n + w.place;
      within = omega (arith, w.within, length-drop n s);
      is = w.is ∙ same_token_at same on e;
      whole = λ x. subst Utf8 e (w.whole (u x));
    }

stands_here : (at line : ℕ) (s : List ℕ) (t : Token) → t ≡ token_at at line s → TokenWithin at line s t
stands_here at line s t e =
    record {
      place = 0;
      within = omega arith;
      is = e ∙ same_token_at (omega arith) (omega (arith, feeds_none)) refl;
      whole = λ u. u;
    }

nothing_left : (at line : ℕ) → tokens_from at line [] ≡ token_at at line [] ∷ []
unfolding tokens_from walk token_len kind_of extent
nothing_left at line = let same : at ≡ at + 0 = omega arith in ap (λ (k : ℕ). token_of Eof at k line ∷ []) same

last_token : (at line : ℕ) (t : Token) → Memᴰ t (tokens_from at line []) → TokenWithin at line [] t
last_token at line t m = elim (Memᴰ.cases_cons (subst (Memᴰ t) (nothing_left at line) m)) [
  | inl e ↦ stands_here at line [] t e
  | inr k ↦ absurd (Memᴰ.not-nil k)
]

abbrev EachWithin : List ℕ → Type 0
EachWithin s = (at line : ℕ) (t : Token) → Memᴰ t (tokens_from at line s) → TokenWithin at line s t

-- the tokens after the first are those of what is left
each_after : (n : ℕ) → ((s : List ℕ) → length s ≤ n → EachWithin s) → (b : ℕ) (s : List ℕ) → length s ≤ n → EachWithin (b ∷ s)
each_after n ih b s l at line t m =
    let k = token_len (b ∷ s) in
    let long = token_long (b ∷ s) (omega arith) in
    let left = length-drop k (b ∷ s) in
    elim (Memᴰ.cases_cons (subst (Memᴰ t) (tokens_cons at line (b ∷ s) (omega arith)) m)) [
      | inl e ↦ stands_here at line (b ∷ s) t e
      | inr i ↦ stands_later at line k (b ∷ s) t (token_fits (b ∷ s)) (λ u. (token_cut (b ∷ s) u).1)
          (ih (drop k (b ∷ s)) (omega arith) (at + k) (line_after line (b ∷ s)) t i)
    ]

each_token : (s : List ℕ) → EachWithin s
each_token s = by_length EachWithin last_token each_after (length s) s (omega arith)

-- ---- after a byte order mark

bom_rest : (s : List ℕ) → Utf8 (0xEF ∷ 0xBB ∷ 0xBF ∷ s) → Utf8 s
unfolding encode_scalar
bom_rest s u =
    let a : scalars (0xEF ∷ 0xBB ∷ 0xBF ∷ s) ≡ 0xFEFF ∷ scalars s = scalars_char 0xFEFF (inr (omega arith, omega arith)) s in
    let e : 0xEF ∷ 0xBB ∷ 0xBF ∷ encodes (scalars s) ≡ 0xEF ∷ 0xBB ∷ 0xBF ∷ s =
    sym (ap encodes a) ∙ encodes_of (0xEF ∷ 0xBB ∷ 0xBF ∷ s) u in
    let z : encodes (scalars s) ≡ s = cc in
    (scalars s, (front s).each, z)

bom_drop : (s : List ℕ) → get_or s 0 0 ≡ 0xEF → get_or s 1 0 ≡ 0xBB → get_or s 2 0 ≡ 0xBF → Utf8 s → Utf8 (drop 3 s)
bom_drop [] x y z u = absurd (omega arith)
bom_drop (a ∷ []) x y z u = absurd (omega arith)
bom_drop (a ∷ b ∷ []) x y z u = absurd (omega arith)
bom_drop (a ∷ b ∷ c ∷ s) x y z u = bom_rest s (rw (x, y, z) at u)

pub start_cut : (s : List ℕ) → Utf8 s → Utf8 (drop (start_of s) s)
unfolding start_of
start_cut s u =
    cond_case (λ (n : ℕ). Utf8 (drop n s)) (has_bom s)
    (λ t. let m = mark_bytes s t in bom_drop s m.0 m.1 m.2 u) (λ t. u)

-- ---- each token of a document

-- lines counted from the start on are those counted from byte 0 on: a byte order mark holds no LF
line_by : (doc : List ℕ) (n place : ℕ) → place ≡ start_of doc + n
    → 1 + line_feeds (take n (drop (start_of doc) doc)) ≡ line_of doc place
line_by doc n place e =
    let s = drop (start_of doc) doc in
    let rest : drop n s ≡ drop place doc = drop-drop n (start_of doc) doc ∙ ap (λ (k : ℕ). drop k doc) (sym e) in
    omega (arith, feeds_split n s, feeds_split place doc, start_no_lf doc, ap line_feeds rest)

-- the kind, the end and the line of a token are those that the rules give at its start
pub record ByRule (doc : List ℕ) (t : Token) : Type 0 where
  pub within : t.span.start ≤ length doc
  pub kind : t.kind ≡ kind_of (drop t.span.start doc)
  pub end : t.span.end ≡ t.span.start + token_len (drop t.span.start doc)
  pub line : t.line ≡ line_of doc t.span.start
  pub whole : Utf8 doc → Utf8 (drop t.span.start doc)

pub by_rule : (doc : List ℕ) (t : Token) → Memᴰ t (tokens_of doc) → ByRule doc t
unfolding tokens_of
by_rule doc t m =
    let w = each_token (drop (start_of doc) doc) (start_of doc) 1 t m in
    let start : t.span.start ≡ start_of doc + w.place = ap (λ (u : Token). u.span.start) w.is in
    let e : drop w.place (drop (start_of doc) doc) ≡ drop t.span.start doc =
    drop-drop w.place (start_of doc) doc ∙ ap (λ (n : ℕ). drop n doc) (sym start) in
    let is : token_at (start_of doc + w.place) t.line (drop w.place (drop (start_of doc) doc))
    ≡ token_at t.span.start t.line (drop t.span.start doc) = same_token_at (sym start) refl e in
    record {
      within = omega (arith, w.within, length-drop (start_of doc) doc, start_fits doc);
      kind = ap (λ (u : Token). u.kind) w.is ∙ ap kind_of e;
      end = ap (λ (u : Token). u.span.end) w.is ∙ ap (λ (u : Token). u.span.end) is;
      line = ap (λ (u : Token). u.line) w.is ∙ line_by doc w.place t.span.start start;
      whole = λ u. subst Utf8 e (w.whole (start_cut doc u));
    }

-- ---- lines

pub token_line : TokenLine
token_line doc t m = (by_rule doc t m).line

pub record_lines : RecordLines
unfolding records_of position_answer
record_lines doc l = go (tokens_of doc) (λ t m. by_rule doc t m)
  where
    go : (ts : List Token) → ((t : Token) → Memᴰ t ts → ByRule doc t) → OnLines doc (map record_of ts)
    go [] h = tt
    go (t ∷ ts) h =
        let w = h t (Memᴰ.head refl) in (
          w.line ∙ rw (le-ltb limit (length doc) l, le-ltb (length doc) t.span.start w.within),
          go ts (λ u m. h u (Memᴰ.tail m)),
        )

-- one step from a cursor to whose line d is added
step_moved : (doc : List ℕ) (c : Cursor) (d : ℕ) → c.line + d ≤ c.place + 1
    → step_of doc (moved_cursor d c) ≡ moved_step d (step_of doc c)
unfolding step_of
step_moved doc c d h =
    let s = drop c.place doc in
    let on : line_after (c.line + d) s ≡ line_after c.line s + d = omega arith in
    let in_line = le-ltb (c.place + 1) c.line (omega arith) in
    let moved-too = le-ltb (c.place + 1) (c.line + d) h in
    let same : astray doc (moved_cursor d c) ≡ astray doc c =
    ap (λ (x : Bool). ltb (length doc) c.place || x) (moved-too ∙ sym in_line) in
    let token = ap (λ (n : ℕ). Ok (Some (token_at c.place (c.line + d) s, cursor_of (c.place + token_len s) n c.ended))) on in
    let within : step_within doc (moved_cursor d c) ≡ moved_step d (step_within doc c) =
    sym (of_choice (moved_step d) (eqb c.place (length doc)) (of_choice (moved_step d) c.ended refl refl) (sym token)) in
    let moved = of_choice (moved_step d) (astray doc c) refl (sym within) in
    rw same (sym (of_choice (moved_step d) (ltb limit (length doc)) refl moved))

-- the next cursor's place allows d more lines too
still_moved : (doc : List ℕ) (c : Cursor) (d : ℕ) → c.line + d ≤ c.place + 1
    → (next_cursor c (step_of doc c)).line + d ≤ (next_cursor c (step_of doc c)).place + 1
unfolding step_of
still_moved doc c d h =
    let P : Step → Type 0 = λ s. (next_cursor c s).line + d ≤ (next_cursor c s).place + 1 in
    let s = drop c.place doc in
    cond_case P (ltb limit (length doc)) (λ _. h)
    λ _. cond_case P (astray doc c) (λ _. h)
    λ _. cond_case P (eqb c.place (length doc)) (λ _. cond_case P c.ended (λ _. h) (λ _. h))
    (λ _. omega (arith, feeds_taken (token_len s) s))

pub steps_moved : StepsMoved
unfolding steps_from
steps_moved doc c d h zero = refl
steps_moved doc c d h (suc k) =
    let next = next_cursor c (step_of doc c) in
    let rest = steps_moved doc next d (still_moved doc c d h) k in
    rw (step_moved doc c d h, moved_on (step_of doc c)) (ap (λ (r : List Step). moved_step d (step_of doc c) ∷ r) rest)
  where
    moved_on : (s : Step) → next_cursor (moved_cursor d c) (moved_step d s) ≡ moved_cursor d (next_cursor c s)
    moved_on (Ok (Some w)) = refl
    moved_on (Ok None) = refl
    moved_on (Err r) = refl

nothing_kind : kind_of [] ≡ Eof
unfolding kind_of
nothing_kind = refl

pub not_empty : NotEmpty
not_empty doc t m d =
    let w = by_rule doc t m in
    elim (dec_lt t.span.start (length doc)) [
      | yes h ↦
          let long = token_long (drop t.span.start doc) (omega (arith, length-drop t.span.start doc)) in
          omega (arith, w.end)
      | no h ↦
          let beyond : length doc ≤ t.span.start = omega arith in
          absurd (d (w.kind ∙ ap kind_of (drop_of_length-le doc beyond) ∙ nothing_kind))
    ]

pub uncut : Uncut
uncut doc u t m =
    let w = by_rule doc t m in
    let rest = drop t.span.start doc in
    let size : token_len rest ≡ t.span.end - t.span.start = omega (arith, w.end) in
    subst (λ (n : ℕ). Utf8 (take n rest)) size (token_cut rest (w.whole u)).0

-- ---- no gap

nothing_long : token_len [] ≡ 0
unfolding token_len kind_of extent
nothing_long = refl

abbrev Follows : List ℕ → Type 0
Follows s = (at line : ℕ) → Follow at (tokens_from at line s) (at + length s)

follow_end : Follows []
follow_end at line = rw (nothing_left at line) (refl, omega (arith, nothing_long))

follow_after : (n : ℕ) → ((s : List ℕ) → length s ≤ n → Follows s) → (b : ℕ) (s : List ℕ) → length s ≤ n → Follows (b ∷ s)
follow_after n ih b s l at line =
    let k = token_len (b ∷ s) in
    let rest = drop k (b ∷ s) in
    let long = token_long (b ∷ s) (omega arith) in
    let fits = token_fits (b ∷ s) in
    let left = length-drop k (b ∷ s) in
    let same : at + k + length rest ≡ at + length (b ∷ s) = omega arith in
    let on = line_after line (b ∷ s) in
    rw (tokens_cons at line (b ∷ s) (omega arith))
    (refl, subst (Follow (at + k) (tokens_from (at + k) on rest)) same (ih rest (omega arith) (at + k) on))

follow : (s : List ℕ) → Follows s
follow s = by_length Follows follow_end follow_after (length s) s (omega arith)

pub no_gap : NoGap
unfolding tokens_of
no_gap doc =
    let start = start_of doc in
    let s = drop start doc in
    let same : start + length s ≡ length doc = omega (arith, length-drop start doc, start_fits doc) in
    subst (Follow start (tokens_from start 1 s)) same (follow s start 1)

-- ---- how far a token looks

pub local : Local
local = token_local
