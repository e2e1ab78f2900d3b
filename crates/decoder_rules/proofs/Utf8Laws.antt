-- Decoding UTF-8 gives UTF-8. The literal kinds and a key give their body as it stands; of the basic kinds, each piece
-- takes whole characters and gives whole characters.
-- Assumes nothing.
use Rattle.std.specs.Prelude.{Option}
use Prim.Native.Nat.{ℕ, zero, suc, pred, ◌+◌, ◌-◌, ◌≤◌, ◌<◌}
use mathlib.Core.Path.{◌≡◌, refl, sym, ap, ◌∙◌, subst}
use mathlib.Core.Logic.{◌⊎◌, inl, inr, ⊎_elim}
use mathlib.Core.Bool.{Bool, true, false, cond, ◌&&◌}
use mathlib.Core.List.{List, [], ◌∷◌, ◌++◌}
use native.Mathlib.Nat.{add-zero}
use native.Mathlib.Omega.{arith}
use lib.Dec.{eqb, ltb}
use lib.ListN.{length, take, drop, get_or, take-append-drop, length-drop}
use lib.Seq.{take-length, get_or-drop, drop-drop}
use borrow.Author.Tests.{eqb-true, ltb-true}
use Rattle.text_classes.specs.Classes.{wschar, hexdig, literal_char, basic_unescaped, unquoted_char}
use Rattle.text_classes.specs.Runs.{run, first_is, stands, triple}
use Rattle.text_classes.proofs.Conds.{cond_case, by_lt, by_eq, both_left, both_right}
use Rattle.text_scalars.specs.Utf8.{Scalar, Utf8}
use Rattle.text_scalars.specs.Utf8Read.{is_scalar}
use Rattle.text_scalars.proofs.EncodeLaws.{true_scalar}
use Rattle.text_scalars.proofs.CutLaws.{scalar_utf8, utf8_append, cut_at}
use Rattle.decoder_rules.specs.declared.Letter.{Letter}
use Rattle.decoder_rules.specs.declared.Letter.TheVariants.{Stands, Asks, Neither}
use Rattle.decoder_rules.specs.declared.Piece.{Piece}
use Rattle.decoder_rules.specs.declared.Ends.{Ends}
use Rattle.decoder_rules.specs.declared.Given.TheVariants.{Copy, Char, Nothing}
use Rattle.decoder_rules.specs.declared.Wrong.{Wrong}
use Rattle.decoder_rules.specs.declared.Edition.{Edition}
use Rattle.decoder_rules.specs.declared.Encoding.{Encoding}
use Rattle.decoder_rules.specs.declared.Encoding.TheVariants.{LiteralString, BasicString, MlLiteralString, MlBasicString, UnquotedKey}
use Rattle.decoder_rules.specs.Encodings.{mll_plain, mlb_plain, basic_invalid, mlb_invalid}
use Rattle.decoder_rules.specs.Pieces.{gives, Pieces, collect}
use Rattle.decoder_rules.specs.Escapes.{letter_at, hex_from, hex_piece, escape_by, escape_piece}
use Rattle.decoder_rules.specs.Bodies.{literal_piece, ml_literal_piece, basic_piece, skips, escaped_nl, escaped_more, mlb_content, ml_basic_piece, key_piece, piece_of}
use Rattle.decoder_rules.specs.Marks.{line_opened, line_closed, line_ends, newline_len, ml_start, ml_closed, trimmed, ml_end, ml_ends, key_ends, ends_of, body_of}
use Rattle.decoder_rules.specs.Decoding.{bytes_of}
use Rattle.text_classes.proofs.RunLaws.{there}
use Rattle.text_classes.proofs.TripleLaws.{triple_bytes, triple_fits}
use Rattle.decoder_rules.proofs.PlaceForms.{basic_piece_is, line_by, escaped_nl_is, escaped_more_is, content_is, ml_basic_piece_is, newline_len_is}
use Rattle.decoder_rules.proofs.PieceLaws.{gives_copy}
use Rattle.decoder_rules.proofs.Fine.{Fine}
use Rattle.decoder_rules.proofs.EscapeLaws.{stands_fit, asks_fit}
use Rattle.decoder_rules.proofs.BodyLaws.{piece_fine}
use Rattle.decoder_rules.proofs.MarkLaws.{ends_within, closed_long, closed_triple}
use Rattle.decoder_rules.proofs.AsciiLaws.{EndsAt, basic_high, mlb_high, basic_invalid_low, mlb_invalid_low, wschar_low, hexdig_low, skips_low, nil_utf8, front_one, front_add, front_low, front_high, behind_at, between}

-- ---- bodies that are given as they stand

pub collect_copies : (P : Pieces) → Fine P → ((d : Bool) (at : ℕ) (s : List ℕ) → (P d at s).given ≡ Copy)
    → (k : ℕ) (d : Bool) (at : ℕ) (s : List ℕ) → collect P gives k d at s ≡ drop k s
collect_copies P fine copy zero d at [] = refl
collect_copies P fine copy (suc k) d at [] = refl
collect_copies P fine copy zero d at (b ∷ r) =
    let p = P d at (b ∷ r) in
    let i = collect_copies P fine copy (pred p.take) p.dropping (suc at) r in
    rw (gives_copy p (b ∷ r) (copy d at (b ∷ r)), i) (whole p.take (fine d at (b ∷ r) (omega arith)).some)
  where
    whole : (n : ℕ) → 0 < n → take n (b ∷ r) ++ drop (pred n) r ≡ b ∷ r
    whole zero h = absurd (omega arith)
    whole (suc n) h = ap (λ (l : List ℕ). b ∷ l) (take-append-drop n r)
collect_copies P fine copy (suc k) d at (b ∷ r) = collect_copies P fine copy k d (suc at) r

abbrev Copies : Piece → Type 0
Copies p = p.given ≡ Copy

literal_copies : (at : ℕ) (s : List ℕ) → (literal_piece at s).given ≡ Copy
unfolding literal_piece
literal_copies at s = cond_case Copies (first_is literal_char s) (λ e. refl) (λ e. refl)

ml_literal_copies : (at : ℕ) (s : List ℕ) → (ml_literal_piece at s).given ≡ Copy
unfolding ml_literal_piece
ml_literal_copies at s =
    cond_case Copies (first_is mll_plain s) (λ e. refl)
    (λ e. cond_case Copies (stands 0x0D s) (λ e. cond_case Copies (stands 0x0A (drop 1 s)) (λ e. refl) (λ e. refl)) (λ e. refl))

key_copies : (at : ℕ) (s : List ℕ) → (key_piece at s).given ≡ Copy
unfolding key_piece
key_copies at s = cond_case Copies (first_is unquoted_char s) (λ e. refl) (λ e. refl)

-- ---- pieces of the basic kinds

-- what the piece takes is UTF-8, and so is what it gives
abbrev pub Whole : List ℕ → Piece → Type 0
Whole s p = Utf8 (take p.take s) × Utf8 (gives p s)

module _ (s : List ℕ) where
  whole_copy : (n : ℕ) (w : Option Wrong) → Utf8 (take n s) → Whole s (record { take = n; given = Copy; verdict = w; dropping = false })
  unfolding gives
  whole_copy n w u = (u, u)

  whole_char : (n c : ℕ) (w : Option Wrong) → Scalar c → Utf8 (take n s)
      → Whole s (record { take = n; given = Char c; verdict = w; dropping = false })
  unfolding gives
  whole_char n c w h u = (u, scalar_utf8 c h)

  whole_drop : (n : ℕ) (w : Option Wrong) → Utf8 (take n s) → Whole s (record { take = n; given = Nothing; verdict = w; dropping = true })
  unfolding gives
  whole_drop n w u = (u, nil_utf8)

module _ (at : ℕ) (s : List ℕ) (slash : get_or s 0 0 ≡ 0x5C) where
  one : Utf8 (take 1 s)
  one = front_one s (there s 0 (omega arith)) (omega arith)

  -- the backslash, a letter, and k digits
  two : get_or (drop 1 s) 0 0 < 0x80 → 0 < get_or (drop 1 s) 0 0 → Utf8 (take 2 s)
  two l h = front_add 1 1 s one (front_one (drop 1 s) (there (drop 1 s) 0 h) l)

  digits : (k : ℕ) → get_or (drop 1 s) 0 0 < 0x80 → 0 < get_or (drop 1 s) 0 0 → k ≤ run hexdig (drop 1 (drop 1 s))
      → Utf8 (take (2 + k) s)
  digits k l h n =
      let there-2 = subst (λ (r : List ℕ). k ≤ run hexdig r) (drop-drop 1 1 s) n in
      front_add 2 k s (two l h) (front_low hexdig hexdig_low k (drop 2 s) there-2)

  hex_whole : (n : ℕ) → get_or (drop 1 s) 0 0 < 0x80 → 0 < get_or (drop 1 s) 0 0 → Whole s (hex_piece n at (drop 1 (drop 1 s)))
  unfolding hex_piece
  hex_whole n l h =
      let t = drop 1 (drop 1 s) in
      by_lt (Whole s) (run hexdig t) n (λ e. whole_char s _ 0xFFFD _ (inr (omega arith)) (digits (run hexdig t) l h (omega arith)))
      λ e. cond_case (Whole s) (is_scalar (hex_from 0 (take n t)))
      (λ v. whole_char s _ _ _ (true_scalar _ v) (digits n l h e))
      (λ v. whole_char s _ 0xFFFD _ (inr (omega arith)) (digits n l h e))

  escape_whole : (v : Edition) → Whole s (escape_piece v at (drop 1 s))
  unfolding escape_piece
  escape_whole v = go (letter_at v (drop 1 s)) refl
    where
      go : (l : Letter) → letter_at v (drop 1 s) ≡ l → Whole s (escape_by l at (drop 1 (drop 1 s)))
      go (Stands c) e =
          let f = stands_fit v (drop 1 s) c e in
          whole_char s 2 c _ (inl (omega (arith, f.1))) (two f.0.low (omega (arith, f.0.visible)))
      go (Asks n) e =
          let f = asks_fit v (drop 1 s) n e in
          hex_whole n f.0.low (omega (arith, f.0.visible))
      go Neither e = whole_char s 1 0x5C _ (inl (omega arith)) one

  -- the backslash, w blanks, and one or two bytes that are there
  blanks : (w : ℕ) → w ≤ run wschar (drop 1 s) → Utf8 (take (1 + w) s)
  blanks w h = front_add 1 w s one (front_low wschar wschar_low w (drop 1 s) h)

  behind : (w : ℕ) → 0 < get_or (drop 1 s) w 0 → get_or (drop 1 s) w 0 < 0x80 → Utf8 (take (1 + w) s) → Utf8 (take (1 + w + 1) s)
  behind w h l u =
      let e : get_or (drop (1 + w) s) 0 0 ≡ get_or (drop 1 s) w 0 =
      get_or-drop (1 + w) s 0 0 ∙ ap (λ (n : ℕ). get_or s n 0) (add-zero (1 + w)) ∙ sym (get_or-drop 1 s w 0) in
      front_add (1 + w) 1 s u (front_one (drop (1 + w) s) (there (drop (1 + w) s) 0 (omega arith)) (omega arith))

  same_front : (n m : ℕ) → n ≡ m → Utf8 (take n s) → Utf8 (take m s)
  same_front n m e u = subst (λ (k : ℕ). Utf8 (take k s)) e u

  line_whole : (w : ℕ) → w ≤ run wschar (drop 1 s) → Whole s (line_by at w (get_or (drop 1 s) w 0) (get_or (drop 1 s) (w + 1) 0))
  line_whole w h =
      let u = blanks w h in
      let b = get_or (drop 1 s) w 0 in
      let next : 0 < b → b < 0x80 → Utf8 (take (2 + w) s) = λ some low. same_front (1 + w + 1) (2 + w) (omega arith) (behind w some low u) in
      by_eq (Whole s) b 0x0A (λ e. whole_drop s (2 + w) _ (next (omega arith) (omega arith)))
      λ e. by_eq (Whole s) b 0x0D
      (λ f.
      let v = next (omega arith) (omega arith) in
      let x : Utf8 (take (1 + (w + 1)) s) = same_front (2 + w) (1 + (w + 1)) (omega arith) v in
      by_eq (Whole s) (get_or (drop 1 s) (w + 1) 0) 0x0A
      (λ g.
      let y = behind (w + 1) (omega arith) (omega arith) x in
      whole_drop s (3 + w) _ (same_front (1 + (w + 1) + 1) (3 + w) (omega arith) y))
      (λ g. whole_drop s (2 + w) _ v))
      (λ f. whole_drop s (1 + w) _ u)

  nl_whole : Whole s (escaped_nl at (drop 1 s))
  nl_whole = rw escaped_nl_is (line_whole (run wschar (drop 1 s)) (omega arith))

module _ (at : ℕ) (s : List ℕ) (h : 0 < length s) where
  -- CR LF
  crlf : get_or s 0 0 ≡ 0x0D → get_or s 1 0 ≡ 0x0A → Utf8 (take 2 s)
  crlf e f =
      let g : get_or (drop 1 s) 0 0 ≡ 0x0A = get_or-drop 1 s 0 0 ∙ f in
      front_add 1 1 s (front_one s h (omega arith)) (front_one (drop 1 s) (there (drop 1 s) 0 (omega arith)) (omega arith))

  basic_whole : (v : Edition) → Utf8 s → Whole s (basic_piece v at s)
  basic_whole v u =
      rw basic_piece_is
      (cond_case (Whole s) (basic_unescaped (get_or s 0 0)) (λ e. whole_copy s _ _ (front_high basic_unescaped basic_high s u))
      λ e. by_eq (Whole s) (get_or s 0 0) 0x5C (λ f. escape_whole at s f v)
      (λ f. whole_copy s _ _ (front_low basic_invalid basic_invalid_low (run basic_invalid s) s (omega arith))))

  more_whole : skips (get_or s 0 0) ≡ true → Whole s (escaped_more at s)
  more_whole k =
      rw escaped_more_is
      (let low = front_one s h (skips_low (get_or s 0 0) k) in
      by_eq (Whole s) (get_or s 0 0) 0x0D
      (λ e. by_eq (Whole s) (get_or s 1 0) 0x0A (λ f. whole_drop s 2 _ (crlf e f)) (λ f. whole_drop s 1 _ low))
      (λ e. whole_drop s 1 _ low))

  content_whole : (v : Edition) → Utf8 s → Whole s (mlb_content v at s)
  content_whole v u =
      rw content_is
      (cond_case (Whole s) (mlb_plain (get_or s 0 0)) (λ e. whole_copy s _ _ (front_high mlb_plain mlb_high s u))
      λ e. by_eq (Whole s) (get_or s 0 0) 0x5C
      (λ f. cond_case (Whole s) (skips (get_or s 1 0)) (λ g. nl_whole at s f) (λ g. escape_whole at s f v))
      λ f. by_eq (Whole s) (get_or s 0 0) 0x0D
      (λ g. by_eq (Whole s) (get_or s 1 0) 0x0A
      (λ i. whole_copy s 2 _ (crlf g i))
      (λ i. whole_copy s 1 _ (front_one s h (omega arith))))
      (λ g. whole_copy s _ _ (front_low mlb_invalid mlb_invalid_low (run mlb_invalid s) s (omega arith))))

  ml_basic_whole : (v : Edition) (d : Bool) → Utf8 s → Whole s (ml_basic_piece v d at s)
  ml_basic_whole v d u = rw ml_basic_piece_is (cond_case (Whole s) (d && skips (get_or s 0 0)) (λ e. more_whole (both_right d (skips (get_or s 0 0)) e)) (λ e. content_whole v u))

abbrev WholeAll : Pieces → Type 0
WholeAll P = (d : Bool) (at : ℕ) (s : List ℕ) → 0 < length s → Utf8 s → Whole s (P d at s)

collect_utf8 : (P : Pieces) → Fine P → WholeAll P → (k : ℕ) (d : Bool) (at : ℕ) (s : List ℕ) → Utf8 (drop k s) → Utf8 (collect P gives k d at s)
collect_utf8 P fine whole k d at [] u = nil_utf8
collect_utf8 P fine whole zero d at (b ∷ r) u =
    let p = P d at (b ∷ r) in
    let w = whole d at (b ∷ r) (omega arith) u in
    let x = behind_at p.take (b ∷ r) u w.0 in
    utf8_append (gives p (b ∷ r)) (collect P gives (pred p.take) p.dropping (suc at) r) w.1
    (collect_utf8 P fine whole (pred p.take) p.dropping (suc at) r (left p.take (fine d at (b ∷ r) (omega arith)).some x))
  where
    left : (n : ℕ) → 0 < n → Utf8 (drop n (b ∷ r)) → Utf8 (drop (pred n) r)
    left zero h x = absurd (omega arith)
    left (suc n) h x = x
collect_utf8 P fine whole (suc k) d at (b ∷ r) u = collect_utf8 P fine whole k d (suc at) r u

-- ---- the body between the marks

-- at the end, or at a mark
cut_mark : (t : List ℕ) (q k : ℕ) → q < 0x80 → Utf8 t → k < length t → get_or t k 0 ≡ q → Utf8 (take k t)
cut_mark t q k l u h e = (cut_at t k u (inr (h, inl (omega arith)))).0

cut_end : (t : List ℕ) → Utf8 t → Utf8 (take (length t) t)
cut_end t u = rw (take-length t) u

abbrev Body : List ℕ → Ends → Type 0
Body t d = (d.start ≤ d.end) × Utf8 (take d.start t) × Utf8 (take d.end t)

module _ (q : ℕ) (low : q < 0x80) (t : List ℕ) (u : Utf8 t) where
  line_cuts : (o c : Bool) → line_opened q t ≡ o → line_closed (cond o 1 0) q t ≡ c
      → Utf8 (take (cond o 1 0) t) × Utf8 (take (cond c (length t - 1) (length t)) t)
  line_cuts o c eo ec = (first o eo, last o c ec)
    where
      first : (o : Bool) → line_opened q t ≡ o → Utf8 (take (cond o 1 0) t)
      first true e =
          let l = ltb-true 0 (length t) (both_left (ltb 0 (length t)) _ e) in
          front_one t l (omega (arith, eqb-true (get_or t 0 0) q (both_right (ltb 0 (length t)) _ e)))
      first false e = nil_utf8

      last : (o c : Bool) → line_closed (cond o 1 0) q t ≡ c → Utf8 (take (cond c (length t - 1) (length t)) t)
      last o true e =
          let l = ltb-true (cond o 1 0) (length t) (both_left (ltb (cond o 1 0) (length t)) _ e) in
          cut_mark t q (length t - 1) low u (omega arith) (eqb-true _ q (both_right (ltb (cond o 1 0) (length t)) _ e))
      last o false e = cut_end t u

  line_utf8 : Utf8 (take (line_ends q t).start t) × Utf8 (take (line_ends q t).end t)
  unfolding line_ends
  line_utf8 = line_cuts (line_opened q t) (line_closed (cond (line_opened q t) 1 0) q t) refl refl

newline_utf8 : (s : List ℕ) → Utf8 (take (newline_len s) s)
newline_utf8 s =
    rw newline_len_is
    (by_eq (λ (n : ℕ). Utf8 (take n s)) (get_or s 0 0) 0x0A (λ e. front_one s (there s 0 (omega arith)) (omega arith))
    λ e. cond_case (λ (n : ℕ). Utf8 (take n s)) (eqb (get_or s 0 0) 0x0D && eqb (get_or s 1 0) 0x0A)
    (λ f.
    let a = eqb-true (get_or s 0 0) 0x0D (both_left (eqb (get_or s 0 0) 0x0D) _ f) in
    let b = eqb-true (get_or s 1 0) 0x0A (both_right (eqb (get_or s 0 0) 0x0D) _ f) in
    crlf 0 s (there s 0 (omega arith)) a b)
    (λ f. nil_utf8))

module _ (q : ℕ) (low : q < 0x80) where
  -- three marks at the front
  triple_front : (s : List ℕ) → triple q s ≡ true → (get_or s 0 0 ≡ q) × Utf8 (take 3 s)
  triple_front s e =
      let marks = triple_bytes q s e in
      let first = marks.0 in
      let long = triple_fits q s e in
      let second : get_or (drop 1 s) 0 0 ≡ q = get_or-drop 1 s 0 0 ∙ marks.1 in
      let third : get_or (drop 2 s) 0 0 ≡ q = get_or-drop 2 s 0 0 ∙ marks.2 in
      let long-1 : 0 < length (drop 1 s) = omega (arith, length-drop 1 s) in
      let long-2 : 0 < length (drop 2 s) = omega (arith, length-drop 2 s) in
      let two_in = front_add 1 1 s (front_one s (omega arith) (omega arith)) (front_one (drop 1 s) long-1 (omega arith)) in
      (first, front_add 2 1 s two_in (front_one (drop 2 s) long-2 (omega arith)))

  trimmed_ends : (s : List ℕ) → EndsAt (λ b. b ≡ q) s (trimmed q s)
  unfolding trimmed
  trimmed_ends [] = inl refl
  trimmed_ends (b ∷ r) = go (eqb (trimmed q r) 0) (eqb b q) refl refl (trimmed_ends r)
    where
      go : (x y : Bool) → eqb (trimmed q r) 0 ≡ x → eqb b q ≡ y → EndsAt (λ b. b ≡ q) r (trimmed q r)
          → EndsAt (λ b. b ≡ q) (b ∷ r) (cond x (cond y 0 1) (suc (trimmed q r)))
      go true true p m i = inr (omega arith, eqb-true b q m)
      go true false p m (inl i) = inl (omega (arith, eqb-true (trimmed q r) 0 p))
      go true false p m (inr i) =
          let z = eqb-true (trimmed q r) 0 p in
          inr (omega (arith, i.0), ap (λ (n : ℕ). get_or r n 0) (sym z) ∙ i.1)
      go false y p m (inl i) = inl (ap suc i)
      go false y p m (inr i) = inr (omega (arith, i.0), i.1)

  module _ (t : List ℕ) (u : Utf8 t) where
    start_utf8 : (o : Bool) → (o ≡ true → triple q t ≡ true) → Utf8 (take (ml_start o t) t)
    unfolding ml_start
    start_utf8 true h = front_add 3 (newline_len (drop 3 t)) t (triple_front t (h refl)).1 (newline_utf8 (drop 3 t))
    start_utf8 false h = front_add 0 (newline_len t) t nil_utf8 (newline_utf8 t)

    end_utf8 : (trims : Bool) (a : ℕ) (c : Bool) → (c ≡ true → ml_closed q a t ≡ true) → Utf8 (take (ml_end trims q a t c) t)
    unfolding ml_end
    end_utf8 trims a true h =
        let l = closed_long q a t (h refl) in
        let e = (triple_front (drop (length t - 3) t) (closed_triple q a t (h refl))).0 in
        let n = length t - 3 in
        let f : get_or t n 0 ≡ q = ap (λ (n : ℕ). get_or t n 0) (sym (add-zero n)) ∙ sym (get_or-drop n t 0 0) ∙ e in
        cut_mark t q n low u (omega arith) f
    end_utf8 true a false h = ⊎_elim
        (λ e. elim (native.Mathlib.Decide.dec_le a (length t)) [
          | yes l ↦ let same : a + trimmed q (drop a t) ≡ length t = omega (arith, length-drop a t) in rw same (cut_end t u)
          | no l ↦ rw (lib.Seq.take_all (a + trimmed q (drop a t)) t (omega arith)) u
        ])
        (λ e.
        let l : a + trimmed q (drop a t) < length t = omega (arith, e.0, length-drop a t) in
        cut_mark t q (a + trimmed q (drop a t)) low u l (sym (get_or-drop a t (trimmed q (drop a t)) 0) ∙ e.1))
        (trimmed_ends (drop a t))
    end_utf8 false a false h = cut_end t u

    ml_utf8 : (trims : Bool) → Utf8 (take (ml_ends trims q t).start t) × Utf8 (take (ml_ends trims q t).end t)
    unfolding ml_ends
    ml_utf8 trims =
        let a = ml_start (triple q t) t in
        (start_utf8 (triple q t) (λ e. e), end_utf8 trims a (ml_closed q a t) (λ e. e))

key_utf8 : (t : List ℕ) → Utf8 t → Utf8 (take (key_ends t).start t) × Utf8 (take (key_ends t).end t)
unfolding key_ends
key_utf8 t u = (nil_utf8, cut_end t u)

ends_utf8 : (k : Encoding) (t : List ℕ) → Utf8 t → Utf8 (take (ends_of k t).start t) × Utf8 (take (ends_of k t).end t)
ends_utf8 LiteralString t u = line_utf8 0x27 (omega arith) t u
ends_utf8 MlLiteralString t u = ml_utf8 0x27 (omega arith) t u true
ends_utf8 (BasicString v) t u = line_utf8 0x22 (omega arith) t u
ends_utf8 (MlBasicString v) t u = ml_utf8 0x22 (omega arith) t u false
ends_utf8 UnquotedKey t u = key_utf8 t u

pub body_utf8 : (k : Encoding) (t : List ℕ) → Utf8 t → Utf8 (body_of (ends_of k t) t)
body_utf8 k t u =
    let e = ends_utf8 k t u in
    between (ends_of k t).start (ends_of k t).end t (ends_within k t).0 e.0 e.1

-- ---- decoding UTF-8 gives UTF-8

-- what a body that is given as it stands gives
module _ (t : List ℕ) where
  pub literal_is : bytes_of LiteralString t ≡ body_of (line_ends 0x27 t) t
  unfolding bytes_of
  literal_is = collect_copies (piece_of LiteralString) (piece_fine LiteralString) (λ d. literal_copies) 0 false _ _

  pub ml_literal_is : bytes_of MlLiteralString t ≡ body_of (ml_ends true 0x27 t) t
  unfolding bytes_of
  ml_literal_is = collect_copies (piece_of MlLiteralString) (piece_fine MlLiteralString) (λ d. ml_literal_copies) 0 false _ _

  pub key_body : bytes_of UnquotedKey t ≡ body_of (key_ends t) t
  unfolding bytes_of
  key_body = collect_copies (piece_of UnquotedKey) (piece_fine UnquotedKey) (λ d. key_copies) 0 false _ _

pub decoded_utf8 : (k : Encoding) (t : List ℕ) → Utf8 t → Utf8 (bytes_of k t)
unfolding bytes_of
decoded_utf8 LiteralString t u = rw (literal_is t) (body_utf8 LiteralString t u)
decoded_utf8 MlLiteralString t u = rw (ml_literal_is t) (body_utf8 MlLiteralString t u)
decoded_utf8 UnquotedKey t u = rw (key_body t) (body_utf8 UnquotedKey t u)
decoded_utf8 (BasicString n) t u =
    collect_utf8 (piece_of (BasicString n)) (piece_fine (BasicString n)) (λ d at s h v. basic_whole at s h n v) 0 false _ _
    (body_utf8 (BasicString n) t u)
decoded_utf8 (MlBasicString n) t u =
    collect_utf8 (piece_of (MlBasicString n)) (piece_fine (MlBasicString n)) (λ d at s h v. ml_basic_whole at s h n d v) 0 false _ _
    (body_utf8 (MlBasicString n) t u)
