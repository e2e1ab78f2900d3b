-- A broken token that a quotation mark follows decodes to some bytes. Of each kind but one every piece gives some, so that a closed
-- string that gives none has none in its body, and no error. A multi-line basic string drops line-ending escapes; but where a
-- quotation mark follows it, two stand in its body, and no escape drops those.
use Prim.Native.Nat.{ℕ, zero, suc, ◌+◌, ◌-◌, ◌≤◌, ◌<◌}
use mathlib.Core.Path.{◌≡◌, refl, sym, ◌∙◌, ap, subst}
use mathlib.Core.Logic.{◌⊎◌, inl, inr, ⊎_elim}
use mathlib.Core.Bool.{Bool, true, false, cond, ◌&&◌}
use mathlib.Core.List.{List, [], ◌∷◌, ◌++◌}
use native.Mathlib.Omega.{arith}
use native.Mathlib.Decide.{dec_lt, ℕ_discrete}
use borrow.Author.Tests.{ne_eqb, eqb-true}
use lib.Dec.{eqb, ltb}
use lib.ListN.{length, take, drop, get_or, length-append, length-take, length-drop}
use lib.Seq.{length-take-le, get_or-take, get_or-drop, get_or-append_seam, drop-append_seam}
use Rattle.text_classes.specs.Classes.{wschar, literal_char, basic_unescaped, hexdig}
use Rattle.text_classes.specs.Runs.{run, first_is, stands, triple}
use Rattle.text_classes.proofs.Conds.{cond_case, by_eq, not_both, both_left, both_right}
use Rattle.text_scalars.specs.Utf8Read.{is_scalar}
use Rattle.text_scalars.proofs.EncodeLaws.{encode_length}
use Rattle.lexer_token.specs.declared.TokenKind.{TokenKind}
use Rattle.lexer_token.specs.declared.TokenKind.TheVariants.{LiteralString, BasicString, MlLiteralString, MlBasicString}
use Rattle.lexer_scans.specs.Extents.{line_tail, ml_tail}
use Rattle.lexer.specs.Table.{kind_by, kind_of, extent, token_len}
use Rattle.lexer.proofs.KindLaws.{by_kind}
use Rattle.decoder_rules.specs.declared.Edition.{Edition}
use Rattle.decoder_rules.specs.declared.Encoding.{Encoding}
use Rattle.decoder_rules.specs.declared.Encoding.TheVariants.{LiteralString as LiteralText, BasicString as BasicText, MlLiteralString as MlLiteralText, MlBasicString as MlBasicText}
use Rattle.decoder_rules.specs.declared.Piece.{Piece}
use Rattle.decoder_rules.specs.declared.Given.{Given}
use Rattle.decoder_rules.specs.declared.Given.TheVariants.{Copy, Char, Nothing}
use Rattle.decoder_rules.specs.declared.Letter.{Letter}
use Rattle.decoder_rules.specs.declared.Letter.TheVariants.{Stands, Asks, Neither}
use Rattle.decoder_rules.specs.Encodings.{mll_plain, mlb_plain, basic_invalid, mlb_invalid}
use Rattle.decoder_rules.specs.Pieces.{given_of, gives, collect}
use Rattle.decoder_rules.specs.Escapes.{letter_at, hex_from, hex_piece, escape_by, escape_piece}
use Rattle.decoder_rules.specs.Bodies.{literal_piece, ml_literal_piece, basic_piece, skips, escaped_nl, escaped_more, mlb_content, ml_basic_piece, piece_of}
use Rattle.decoder_rules.specs.Marks.{line_ends, newline_len, ml_start, ml_closed, ml_end, ml_ends, ends_of, body_of}
use Rattle.decoder_rules.specs.Decoding.{bytes_of, errors_of}
use Rattle.decoder_rules.proofs.Fine.{FineAt}
use Rattle.decoder_rules.proofs.BodyLaws.{piece_fine, collected_step}
use Rattle.decoder_rules.proofs.PlaceForms.{escaped_more_is, content_is, ml_basic_piece_is, escaped_line_is}
use Rattle.decoder_rules.proofs.MarkLaws.{line_both, closed_is}
use Rattle.theorems_tokens.proofs.ByLength.{by_length}
use Rattle.theorems_grammar.proofs.Lexing.{IsToken}
use Rattle.theorems_grammar.proofs.Passing.{triple_yes}
use Rattle.built_mending.specs.Mending.{is_broken}
use Rattle.built_mending.proofs.ChoiceLaws.{Reads}
use Rattle.theorems_mending.proofs.Shut.{line_last, ml_last, ml_five}

-- ---- pieces that give some bytes

abbrev Loud : Given → Type 0
Loud Copy = Unit {0}
Loud (Char c) = Unit {0}
Loud Nothing = ⊥

loud_given : (g : Given) (n : ℕ) (s : List ℕ) → 0 < n → n ≤ length s → Loud g → 0 < length (given_of g n s)
loud_given Copy n s h l loud = omega (arith, length-take-le n s l)
loud_given (Char c) n s h l loud = omega (arith, encode_length c)
loud_given Nothing n s h l loud = absurd loud

loud_some : (p : Piece) (s : List ℕ) → FineAt p s → Loud p.given → 0 < length (gives p s)
unfolding gives
loud_some p s fine loud = loud_given p.given p.take s fine.some fine.fits loud

abbrev L : Piece → Type 0
L p = Loud p.given

literal_loud : (at : ℕ) (s : List ℕ) → L (literal_piece at s)
unfolding literal_piece
literal_loud at s = cond_case L (first_is literal_char s) (λ _. tt) (λ _. tt)

ml_literal_loud : (at : ℕ) (s : List ℕ) → L (ml_literal_piece at s)
unfolding ml_literal_piece
ml_literal_loud at s =
    cond_case L (first_is mll_plain s) (λ _. tt)
    (λ _. cond_case L (stands 0x0D s) (λ _. cond_case L (stands 0x0A (drop 1 s)) (λ _. tt) (λ _. tt)) (λ _. tt))

escape_loud : (v : Edition) (at : ℕ) (s : List ℕ) → L (escape_piece v at s)
unfolding escape_piece hex_piece
escape_loud v at s = go (letter_at v s)
  where
    go : (l : Letter) → L (escape_by l at (drop 1 s))
    go (Stands c) = tt
    go (Asks n) =
        let digits = drop 1 s in
        cond_case L (ltb (run hexdig digits) n) (λ _. tt)
        (λ _. cond_case L (is_scalar (hex_from 0 (take n digits))) (λ _. tt) (λ _. tt))
    go Neither = tt

basic_loud : (v : Edition) (at : ℕ) (s : List ℕ) → L (basic_piece v at s)
unfolding basic_piece
basic_loud v at s =
    cond_case L (first_is basic_unescaped s) (λ _. tt)
    (λ _. cond_case L (stands 0x5C s) (λ _. escape_loud v at (drop 1 s)) (λ _. tt))

-- ---- an encoding all of whose pieces do

abbrev AllLoud : Encoding → Type 0
AllLoud e = (d : Bool) (at : ℕ) (s : List ℕ) → L (piece_of e d at s)

nothing_left : (s : List ℕ) → (0 < length s → ⊥) → s ≡ []
nothing_left [] h = refl
nothing_left (b ∷ s) h = absurd (h (omega arith))

body_none : (e : Encoding) → AllLoud e → (d : Bool) (at : ℕ) (s : List ℕ) → collect (piece_of e) gives 0 d at s ≡ [] → s ≡ []
body_none e loud d at s none = nothing_left s (λ h.
    let p = piece_of e d at s in
    let fine = piece_fine e d at s h in
    let all = ap length (sym (collected_step e gives d at s h) ∙ none) in
    omega (arith, loud_some p s fine (loud d at s), all, length-append (gives p s) (collect (piece_of e) gives 0 p.dropping (at + p.take) (drop p.take s))))

-- a text with both its marks that gives nothing has no error
silent : (e : Encoding) → AllLoud e → (t : List ℕ) → (ends_of e t).opened ≡ true → (ends_of e t).closed ≡ true → bytes_of e t ≡ []
    → errors_of e t ≡ []
unfolding bytes_of errors_of
silent e loud t opened closed none =
    rw (opened, closed, body_none e loud false (ends_of e t).start (body_of (ends_of e t) t) none)

-- ---- the marks of a text that the lexer closed

line_marks : (q : ℕ) (y : List ℕ)
    → ((line_ends q (q ∷ (y ++ (q ∷ [])))).opened ≡ true) × ((line_ends q (q ∷ (y ++ (q ∷ [])))).closed ≡ true)
line_marks q y =
    let t = q ∷ (y ++ (q ∷ [])) in
    let long = length-append y (q ∷ []) in
    let last : length t - 1 ≡ suc (length y) = omega arith in
    let ends : get_or t (length t - 1) 0 ≡ q = rw last (get_or-append_seam y q [] 0) in
    let is = line_both q t (omega arith) refl ends in
    (sym (ap (λ d. d.opened) is), sym (ap (λ d. d.closed) is))

-- a newline at the front does not reach a mark
newline_small : (q : ℕ) → (q ≡ 0x0A → ⊥) → (q ≡ 0x0D → ⊥) → (z m : List ℕ) → newline_len (z ++ (q ∷ m)) ≤ length z
unfolding newline_len
newline_small q lf cr [] m = rw (ne_eqb q 0x0A lf, ne_eqb q 0x0D cr) (omega arith)
newline_small q lf cr (a ∷ []) m = rw (ne_eqb q 0x0A lf) (one (eqb a 0x0A) (eqb a 0x0D))
  where
    one : (u w : Bool) → cond u 1 (cond (w && false) 2 0) ≤ 1
    one true w = omega arith
    one false true = omega arith
    one false false = omega arith
newline_small q lf cr (a ∷ b ∷ z) m = two (eqb a 0x0A) (eqb a 0x0D && eqb b 0x0A)
  where
    two : (u w : Bool) → cond u 1 (cond w 2 0) ≤ suc (suc (length z))
    two true w = omega arith
    two false true = omega arith
    two false false = omega arith

-- three marks q, then z, a mark and m
abbrev fenced : ℕ → List ℕ → List ℕ → List ℕ
fenced q z m = q ∷ (q ∷ (q ∷ (z ++ (q ∷ m))))

fenced_opened : (q : ℕ) (z m : List ℕ) → triple q (fenced q z m) ≡ true
fenced_opened q z m = triple_yes q (z ++ (q ∷ m))

fenced_long : (q : ℕ) (z m : List ℕ) → length (fenced q z m) ≡ 3 + length z + suc (length m)
fenced_long q z m = omega (arith, length-append z (q ∷ m))

module _ (q : ℕ) (lf : q ≡ 0x0A → ⊥) (cr : q ≡ 0x0D → ⊥) where
  fenced_start : (z m : List ℕ) → ml_start (triple q (fenced q z m)) (fenced q z m) ≤ 3 + length z
  unfolding ml_start
  fenced_start z m = rw (fenced_opened q z m) (omega (arith, newline_small q lf cr z m))

  -- three marks at the end close it
  fenced_closed : (trims : Bool) (z : List ℕ)
      → ((ml_ends trims q (fenced q z (q ∷ (q ∷ [])))).opened ≡ true) × ((ml_ends trims q (fenced q z (q ∷ (q ∷ [])))).closed ≡ true)
  unfolding ml_ends
  fenced_closed trims z =
      let m = q ∷ (q ∷ []) in
      let t = fenced q z m in
      let start = ml_start (triple q t) t in
      let long = fenced_long q z m in
      let front = q ∷ (q ∷ (q ∷ z)) in
      let place : length t - 3 ≡ length front = omega arith in
      let last : triple q (drop (length t - 3) t) ≡ true =
      rw (place, drop-append_seam front (q ∷ (q ∷ (q ∷ [])))) (triple_yes q []) in
      (fenced_opened q z m, sym (closed_is q start t (omega (arith, fenced_start z m))) ∙ last)

-- ---- a mark in the body of a multi-line basic string is given

-- no mark stands in the bytes that a piece takes
abbrev Passed : Piece → List ℕ → Type 0
Passed p s = (j : ℕ) → j < p.take → get_or s j 0 ≡ 0x22 → ⊥

run_in : (p : ℕ → Bool) (s : List ℕ) (j : ℕ) → j < run p s → p (get_or s j 0) ≡ true
unfolding run
run_in p [] j = λ h. absurd (omega arith)
run_in p (b ∷ s) zero = cond_case (λ (n : ℕ). 0 < n → p b ≡ true) (p b) (λ e h. e) (λ e h. absurd (omega arith))
run_in p (b ∷ s) (suc j) =
    cond_case (λ (n : ℕ). suc j < n → p (get_or s j 0) ≡ true) (p b) (λ e h. run_in p s j (omega arith)) (λ e h. absurd (omega arith))

blank_no_mark : (b : ℕ) → wschar b ≡ true → b ≡ 0x22 → ⊥
unfolding wschar
blank_no_mark b w e = not_both w (rw e refl)

skip_no_mark : (b : ℕ) → skips b ≡ true → b ≡ 0x22 → ⊥
unfolding skips wschar
skip_no_mark b w e = not_both w (rw e refl)

module _ (s : List ℕ) where
  -- a backslash and the blanks after it
  slash_passed : get_or s 0 0 ≡ 0x5C → (n : ℕ) → n ≡ 1 + run wschar (drop 1 s) → (j : ℕ) → j < n → get_or s j 0 ≡ 0x22 → ⊥
  slash_passed first n size j h mark = elim (dec_lt 0 j) [
    | yes l ↦
        let place : 1 + (j - 1) ≡ j = omega arith in
        let blank : wschar (get_or s j 0) ≡ true =
        rw (get_or-drop 1 s (j - 1) 0, place) at (run_in wschar (drop 1 s) (j - 1) (omega arith)) in
        blank_no_mark (get_or s j 0) blank mark
    | no l ↦
        let none : j ≡ 0 = omega arith in
        omega (arith, first, rw none at mark)
  ]

  -- one byte more that is no mark, and two
  one_more : (n : ℕ) → ((j : ℕ) → j < n → get_or s j 0 ≡ 0x22 → ⊥) → (get_or s n 0 ≡ 0x22 → ⊥) → (j : ℕ) → j < n + 1 → get_or s j 0 ≡ 0x22 → ⊥
  one_more n before here j h mark = elim (ℕ_discrete j n) [
    | yes e ↦ here (rw e at mark)
    | no e ↦ before j (omega arith) mark
  ]

  abbrev Either : Piece → Type 0
  Either p = L p ⊎ Passed p s

  module _ (at : ℕ) where
    line_either : get_or s 0 0 ≡ 0x5C → Either (escaped_nl at (drop 1 s))
    line_either first =
        let n = 1 + run wschar (drop 1 s) in
        let before = slash_passed first n refl in
        rw (escaped_line_is at s n refl)
        (by_eq Either (get_or s n 0) 0x0A (λ e. inr (one_more n before (λ m. omega (arith, e))))
        λ _. by_eq Either (get_or s n 0) 0x0D
        (λ e.
        let after-cr = one_more n before (λ m. omega (arith, e)) in
        by_eq Either (get_or s (n + 1) 0) 0x0A
        (λ f. inr (λ j h. one_more (n + 1) after-cr (λ m. omega (arith, f)) j (omega arith)))
        (λ f. inr after-cr))
        (λ _. inr before))

    more_either : skips (get_or s 0 0) ≡ true → Either (escaped_more at s)
    more_either blank =
        let none : (j : ℕ) → j < 0 → get_or s j 0 ≡ 0x22 → ⊥ = λ j h m. omega arith in
        let first = one_more 0 none (skip_no_mark (get_or s 0 0) blank) in
        rw escaped_more_is
        (by_eq Either (get_or s 0 0) 0x0D
        (λ e. by_eq Either (get_or s 1 0) 0x0A (λ f. inr (one_more 1 first (λ m. omega (arith, f)))) (λ f. inr first))
        (λ e. inr first))

    content_either : (v : Edition) → Either (mlb_content v at s)
    content_either v =
        rw content_is
        (cond_case Either (mlb_plain (get_or s 0 0)) (λ _. inl tt)
        λ _. by_eq Either (get_or s 0 0) 0x5C
        (λ e. cond_case Either (skips (get_or s 1 0)) (λ _. line_either e) (λ _. inl (escape_loud v at (drop 1 s))))
        λ _. by_eq Either (get_or s 0 0) 0x0D (λ _. by_eq Either (get_or s 1 0) 0x0A (λ _. inl tt) (λ _. inl tt)) (λ _. inl tt))

    ml_basic_either : (v : Edition) (d : Bool) → Either (ml_basic_piece v d at s)
    ml_basic_either v d =
        rw ml_basic_piece_is
        (cond_case Either (d && skips (get_or s 0 0)) (λ e. more_either (both_right d _ e)) (λ _. content_either v))

module _ (v : Edition) where
  abbrev GivesMark : List ℕ → Type 0
  GivesMark s = (d : Bool) (at i : ℕ) → i < length s → get_or s i 0 ≡ 0x22 → collect (piece_of (MlBasicText v)) gives 0 d at s ≡ [] → ⊥

  mark_step : (n : ℕ) → ((s : List ℕ) → length s ≤ n → GivesMark s) → (b : ℕ) (s : List ℕ) → length s ≤ n → GivesMark (b ∷ s)
  mark_step n ih b r l d at i h mark none =
      let e = MlBasicText v in
      let s = b ∷ r in
      let some : 0 < length s = omega arith in
      let p = piece_of e d at s in
      let fine = piece_fine e d at s some in
      let rest = drop p.take s in
      let later = collect (piece_of e) gives 0 p.dropping (at + p.take) rest in
      let all = ap length (sym (collected_step e gives d at s some) ∙ none) in
      let both = length-append (gives p s) later in
      let end : later ≡ [] = nothing_left later (λ x. omega (arith, all, both)) in
      ⊎_elim (λ loud. omega (arith, loud_some p s fine loud, all, both))
      (λ passed. elim (dec_lt i p.take) [
        | yes x ↦ passed i x mark
        | no x ↦
            let place : p.take + (i - p.take) ≡ i = omega arith in
            let here : get_or rest (i - p.take) 0 ≡ 0x22 = rw (get_or-drop p.take s (i - p.take) 0, place) mark in
            ih rest (omega (arith, length-drop p.take s, fine.some)) p.dropping (at + p.take) (i - p.take)
            (omega (arith, length-drop p.take s)) here end
      ]) (ml_basic_either s at v d)

  gives_mark : (s : List ℕ) → GivesMark s
  gives_mark s = by_length GivesMark (λ d at i h m none. omega arith) mark_step (length s) s (omega arith)

  -- so a text that ends in five marks gives some bytes
  five_gives : (z : List ℕ) → bytes_of (MlBasicText v) (fenced 0x22 z (0x22 ∷ (0x22 ∷ (0x22 ∷ (0x22 ∷ []))))) ≡ [] → ⊥
  unfolding bytes_of ml_ends ml_end
  five_gives z none =
      let lf : ◌≡◌ {A = ℕ} 0x22 0x0A → ⊥ = λ e. omega arith in
      let cr : ◌≡◌ {A = ℕ} 0x22 0x0D → ⊥ = λ e. omega arith in
      let m : List ℕ = 0x22 ∷ (0x22 ∷ (0x22 ∷ (0x22 ∷ []))) in
      let t = fenced 0x22 z m in
      let d = ml_ends false 0x22 t in
      let start = fenced_start 0x22 lf cr z m in
      let long = fenced_long 0x22 z m in
      let end : length t - 3 ≤ d.end =
      cond_case (λ (n : ℕ). length t - 3 ≤ n) d.closed (λ _. omega arith) (λ _. omega arith) in
      let front : List ℕ = 0x22 ∷ (0x22 ∷ (0x22 ∷ z)) in
      let i = length front - d.start in
      let place : d.start + i ≡ length front = omega arith in
      let inside : i < d.end - d.start = omega arith in
      let mark : get_or (body_of d t) i 0 ≡ 0x22 =
      rw (get_or-take (d.end - d.start) (drop d.start t) i 0 inside, get_or-drop d.start t i 0, place)
      (get_or-append_seam front 0x22 m 0) in
      gives_mark (body_of d t) false d.start i (rw (length-take, length-drop) (omega arith)) mark none

-- ---- a token that a quotation mark follows

-- three marks at the front of a token of three bytes or more, and what they open
three_opened : (f : ℕ) (x : List ℕ) (b : ℕ) (r : List ℕ) → triple f (f ∷ (x ++ (b ∷ r))) ≡ true → 2 ≤ length x
    → (y : List ℕ) × (x ≡ f ∷ (f ∷ y))
unfolding triple
three_opened f [] b r h l = absurd (omega arith)
three_opened f (u ∷ []) b r h l = absurd (omega arith)
three_opened f (u ∷ w ∷ y) b r h l =
    let others = both_right (eqb f f) _ h in
    let second = eqb-true u f (both_left (eqb u f) _ others) in
    let third = eqb-true w f (both_right (eqb u f) _ others) in
    (y, rw (second, third))

tail_size : (q f : ℕ) (x y : List ℕ) (b : ℕ) (r : List ℕ) → x ≡ f ∷ (f ∷ y)
    → suc (suc (suc (ml_tail q false (drop 3 (f ∷ (x ++ (b ∷ r))))))) ≡ suc (length x) → ml_tail q false (y ++ (b ∷ r)) ≡ length y
tail_size q f x y b r e l =
    let m : suc (suc (suc (ml_tail q false (y ++ (b ∷ r))))) ≡ suc (length (f ∷ (f ∷ y))) = rw e at l in
    omega arith

cons_is : {f q : ℕ} {x y : List ℕ} → f ≡ q → x ≡ y → f ∷ x ≡ q ∷ y
cons_is {q = q} {x = x} e h = ap (λ (b : ℕ). b ∷ x) e ∙ ap (λ (l : List ℕ). q ∷ l) h

fence_is : {f q : ℕ} {x y w : List ℕ} → f ≡ q → x ≡ f ∷ (f ∷ y) → y ≡ w → f ∷ x ≡ q ∷ (q ∷ (q ∷ w))
fence_is e h i = cons_is e (h ∙ cons_is e (cons_is e i))

module _ (e : Encoding) (f : ℕ) (x r : List ℕ) where
  abbrev whole : List ℕ
  whole = f ∷ (x ++ (0x22 ∷ r))

  abbrev Q : TokenKind → Type 0
  Q k = Reads k e → extent k whole ≡ suc (length x) → bytes_of e (f ∷ x) ≡ [] → errors_of e (f ∷ x) ≡ []

  literal : f ≡ 0x27 → Q LiteralString
  unfolding extent
  literal q is l none =
      let last = line_last 0x27 false x 0x22 r (λ h. omega arith) (omega arith) in
      let marks = line_marks 0x27 last.0 in
      let text : f ∷ x ≡ 0x27 ∷ (last.0 ++ (0x27 ∷ [])) = cons_is q last.1 in
      rw (is, text) (silent LiteralText (λ d at s. literal_loud at s) _ marks.0 marks.1 (rw (is, text) at none))

  basic : f ≡ 0x22 → Q BasicString
  unfolding extent
  basic q (v, is) l none =
      let last = line_last 0x22 false x 0x22 r (λ h. omega arith) (omega arith) in
      let marks = line_marks 0x22 last.0 in
      let text : f ∷ x ≡ 0x22 ∷ (last.0 ++ (0x22 ∷ [])) = cons_is q last.1 in
      rw (is, text) (silent (BasicText v) (λ d at s. basic_loud v at s) _ marks.0 marks.1 (rw (is, text) at none))

  ml_literal : f ≡ 0x27 → triple f whole ≡ true → Q MlLiteralString
  unfolding extent
  ml_literal q opened is l none =
      let front = three_opened f x 0x22 r opened (omega arith) in
      let y = front.0 in
      let size : ml_tail 0x27 false (y ++ (0x22 ∷ r)) ≡ length y = tail_size 0x27 f x y 0x22 r front.1 l in
      let last = ml_last 0x27 false y 0x22 r size in
      let marks = fenced_closed 0x27 (λ h. omega arith) (λ h. omega arith) true last.0 in
      let text : f ∷ x ≡ fenced 0x27 last.0 (0x27 ∷ (0x27 ∷ [])) = fence_is q front.1 last.1 in
      rw (is, text) (silent MlLiteralText (λ d at s. ml_literal_loud at s) _ marks.0 marks.1 (rw (is, text) at none))

  ml_basic : f ≡ 0x22 → triple f whole ≡ true → Q MlBasicString
  unfolding extent
  ml_basic q opened (v, is) l none =
      let front = three_opened f x 0x22 r opened (omega arith) in
      let y = front.0 in
      let size : ml_tail 0x22 false (y ++ (0x22 ∷ r)) ≡ length y = tail_size 0x22 f x y 0x22 r front.1 l in
      let last = ml_five 0x22 false y r size in
      let text : f ∷ x ≡ fenced 0x22 last.0 (0x22 ∷ (0x22 ∷ (0x22 ∷ (0x22 ∷ [])))) = fence_is q front.1 last.1 in
      absurd (five_gives v last.0 (rw (is, text) at none))

  each : Q (kind_by f (triple f whole))
  each = by_kind Q f (triple f whole)
      (λ _ a l n. absurd a) (λ _ a l n. absurd a) (λ _ a l n. absurd a) (λ _ a l n. absurd a) (λ _ a l n. absurd a)
      (λ _ a l n. absurd a) (λ _ a l n. absurd a) (λ _ a l n. absurd a) (λ _ a l n. absurd a) (λ _ a l n. absurd a)
      literal basic ml_literal ml_basic (λ a l n. absurd a)

-- what it decodes to is not nothing, where it is broken
pub gives_some : (e : Encoding) (k : TokenKind) (text r : List ℕ) → 0 < length text → IsToken k text (0x22 ∷ r) → Reads k e
    → is_broken (errors_of e text) ≡ true → bytes_of e text ≡ [] → ⊥
unfolding token_len kind_of
gives_some e k [] r some is reads broken none = absurd (omega arith)
gives_some e k (f ∷ x) r some (kind, size) reads broken none =
    let reads-it = subst (λ (j : TokenKind). Reads j e) (sym kind) reads in
    not_both broken (ap is_broken (each e f x r reads-it size none))
