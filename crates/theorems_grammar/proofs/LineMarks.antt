-- A text between two single marks: its errors and its bytes are its body's.
use Prim.Native.Nat.{ℕ, suc, ◌-◌, ◌<◌}
use mathlib.Core.Path.{◌≡◌, refl, sym, ◌∙◌, ap}
use mathlib.Core.Bool.{Bool, true, false}
use mathlib.Core.List.{List, [], ◌∷◌, ◌++◌, cons≢nil, append-eq-nil_iff}
use native.Mathlib.Omega.{arith}
use native.Mathlib.Nat.{add-zero}
use lib.ListN.{length, take, get_or, length-append}
use lib.Seq.{take_at, get_or-append-add}
use lib.Dec.{ltb}
use borrow.Author.Tests.{eqb-true, ltb-true}
use Rattle.text_scalars.specs.Utf8.{Scalar, encodes, All}
use Rattle.text_scalars.proofs.EncodeLaws.{encode_1}
use Rattle.text_scalars.proofs.ReadLaws.{encodes_append}
use Rattle.decoder_rules.specs.declared.Encoding.{Encoding}
use Rattle.decoder_rules.specs.declared.Ends.{Ends}
use Rattle.decoder_rules.specs.declared.DecodeError.{DecodeError}
use Rattle.decoder_rules.specs.Encodings.{mark_error}
use Rattle.decoder_rules.specs.Pieces.{gives, notes_of, notes_at, collect}
use Rattle.decoder_rules.specs.Bodies.{piece_of}
use Rattle.decoder_rules.specs.Marks.{line_closed, line_ends, ends_of, body_of}
use Rattle.decoder_rules.specs.Decoding.{bytes_of, missing, errors_of}
use Rattle.text_classes.proofs.Conds.{both_left, both_right}
use Rattle.decoder_rules.proofs.MarkLaws.{line_both}
use Rattle.decoder_rules.proofs.DecodeLaws.{bytes_is, errors_is}
use Rattle.theorems_grammar.proofs.ListLaws.{last_split}
use Rattle.theorems_grammar.proofs.Encoded.{between}
use Rattle.theorems_grammar.proofs.Reading.{ErrorFree}

-- ---- marks that are there

-- where no error is given for a mark, the mark is there
missing_none : (b : Bool) (e : DecodeError) (at : ℕ) → notes_of (missing b e at) ≡ [] → b ≡ true
missing_none true e at nothing = refl
missing_none false e at nothing = absurd (cons≢nil nothing)

-- a text without error has both its marks
pub both_marks : (e : Encoding) (t : List ℕ) → errors_of e t ≡ [] → ((ends_of e t).opened ≡ true) × ((ends_of e t).closed ≡ true)
unfolding errors_of
both_marks e t clean =
    let opening = (append-eq-nil_iff {p = notes_of (missing (ends_of e t).opened (mark_error e) 0)}).0 clean in
    let closing = (append-eq-nil_iff {p = notes_of (missing (ends_of e t).closed (mark_error e) (length t))}).0 opening.1 in
    (missing_none _ _ _ opening.0, missing_none _ _ _ closing.0)

-- ---- the text

abbrev pub marked : ℕ → List ℕ → List ℕ
marked q m = q ∷ (m ++ (q ∷ []))

pub marked_long : (q : ℕ) (m : List ℕ) → length (marked q m) ≡ suc (suc (length m))
marked_long q m = rw (length-append m (q ∷ [])) (omega arith)

-- the ends of a marked text
abbrev marked_ends_at : List ℕ → Ends
marked_ends_at t = record { opened = true; closed = true; start = 1; end = length t - 1 }

line_at : (q : ℕ) (m : List ℕ) → marked_ends_at (marked q m) ≡ line_ends q (marked q m)
line_at q m =
    let lengths = marked_long q m in
    let last : get_or (marked q m) (suc (length m)) 0 ≡ q =
    ap (λ (i : ℕ). get_or (m ++ (q ∷ [])) i 0) (sym (add-zero (length m))) ∙ get_or-append-add m (q ∷ []) 0 0 in
    let last-place : length (marked q m) - 1 ≡ suc (length m) = omega arith in
    line_both q (marked q m) (omega arith) refl (ap (λ (i : ℕ). get_or (marked q m) i 0) last-place ∙ last)

marked_body : (q : ℕ) (m : List ℕ) → body_of (marked_ends_at (marked q m)) (marked q m) ≡ m
marked_body q m = let lengths = marked_long q m in take_at m (q ∷ []) (length (marked q m) - 1 - 1) (omega arith)

-- a text that has both marks is a body between them
line_inv : (q : ℕ) (t : List ℕ) → (line_ends q t).opened ≡ true → (line_ends q t).closed ≡ true → (m : List ℕ) × (t ≡ marked q m)
unfolding line_ends
line_inv q t opened closed =
    let closed-there : line_closed 1 q t ≡ true = rw opened at closed in
    let first = eqb-true (get_or t 0 0) q (both_right (ltb 0 (length t)) _ opened) in
    let long = ltb-true 1 (length t) (both_left (ltb 1 (length t)) _ closed-there) in
    by_length t first long (eqb-true (get_or t (length t - 1) 0) q (both_right (ltb 1 (length t)) _ closed-there))
  where
    by_length : (t : List ℕ) → get_or t 0 0 ≡ q → 1 < length t → get_or t (length t - 1) 0 ≡ q → (m : List ℕ) × (t ≡ marked q m)
    by_length [] first long last = absurd (omega arith)
    by_length (b ∷ []) first long last = absurd (omega arith)
    by_length (b ∷ (c ∷ s)) first long last =
        let parts : c ∷ s ≡ take (length s) (c ∷ s) ++ (get_or (c ∷ s) (length s) 0 ∷ []) = last_split (c ∷ s) (length s) refl in
        let place : suc (length s) ≡ length (b ∷ (c ∷ s)) - 1 = omega arith in
        let closing : get_or (c ∷ s) (length s) 0 ≡ q = ap (λ i. get_or (b ∷ (c ∷ s)) i 0) place ∙ last in
        (take (length s) (c ∷ s), rw first (ap (q ∷◌) (parts ∙ ap (λ x. take (length s) (c ∷ s) ++ (x ∷ [])) closing)))

-- ---- its code points

pub encodes_marked : (q : ℕ) → q < 0x80 → (s : List ℕ) → encodes (marked q s) ≡ marked q (encodes s)
encodes_marked q h s = rw (encode_1 q h, encodes_append s (q ∷ []), encode_1 q h)

-- ---- from the decoder of a body to the decoder of a text

module _ (e : Encoding) (q : ℕ) (low : q < 0x80) (ends : (t : List ℕ) → ends_of e t ≡ line_ends q t) where
  marked_ends : (m : List ℕ) → marked_ends_at (marked q m) ≡ ends_of e (marked q m)
  marked_ends m = line_at q m ∙ sym (ends (marked q m))

  pub line_errors : (s : List ℕ) → errors_of e (encodes (marked q s)) ≡ collect (piece_of e) notes_at 0 false 1 (encodes s)
  line_errors s =
      ap (errors_of e) (encodes_marked q low s)
      ∙ (errors_is e (marked q (encodes s)) (marked_ends_at (marked q (encodes s))) (marked_ends (encodes s)) (mark_error e) refl
      ∙ ap (collect (piece_of e) notes_at 0 false 1) (marked_body q (encodes s)))

  pub line_bytes : (s : List ℕ) → bytes_of e (encodes (marked q s)) ≡ collect (piece_of e) gives 0 false 1 (encodes s)
  line_bytes s =
      ap (bytes_of e) (encodes_marked q low s)
      ∙ (bytes_is e (marked q (encodes s)) (marked_ends_at (marked q (encodes s))) (marked_ends (encodes s))
      ∙ ap (collect (piece_of e) gives 0 false 1) (marked_body q (encodes s)))

  -- a text without error has a body without error
  pub record LineText (cs : List ℕ) : Type 0 where
    pub body : List ℕ
    pub text : cs ≡ marked q body
    pub each : All Scalar body
    pub clean : ErrorFree (piece_of e) false 1 (encodes body)

  pub line_text : (cs : List ℕ) → All Scalar cs → errors_of e (encodes cs) ≡ [] → LineText cs
  line_text cs scalars clean =
      let marks = both_marks e (encodes cs) clean in
      let body = line_inv q (encodes cs) (rw (ends (encodes cs)) at marks.0) (rw (ends (encodes cs)) at marks.1) in
      let inside = between (q ∷ []) (q ∷ []) cs body.0 (low, tt) (low, tt) scalars body.1 in
      record {
        body = inside.inner;
        text = inside.text;
        each = inside.each;
        clean = sym (line_errors inside.inner) ∙ (ap (λ x. errors_of e (encodes x)) (sym inside.text) ∙ clean);
      }
