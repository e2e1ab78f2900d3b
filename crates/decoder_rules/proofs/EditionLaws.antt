-- A text that is free of error in TOML 1.0 is free of error in TOML 1.1, with the same value. Not the other way round: an
-- example stands at the end.
-- Assumes nothing.
use Rattle.std.specs.Prelude.{Option, None, Result, Ok, Err}
use Prim.Native.Nat.{ℕ, zero, suc, pred}
use mathlib.Core.Path.{◌≡◌, refl, ap}
use mathlib.Core.Logic.{◌⊎◌, inl, inr}
use mathlib.Core.Bool.{Bool, true, false, cond, ◌&&◌}
use mathlib.Core.List.{List, [], ◌∷◌, ◌++◌}
use native.Mathlib.Omega.{arith}
use lib.Dec.{eqb}
use lib.ListN.{length, drop, length-append}
use Rattle.text_classes.specs.Classes.{basic_unescaped}
use Rattle.text_classes.specs.Runs.{run, first_is, stands}
use Rattle.text_scalars.specs.Utf8.{encode_scalar}
use Rattle.text_refusals.specs.declared.Refusal.{Refusal}
use Rattle.text_refusals.specs.declared.Refusal.TheVariants.{NoKind}
use Rattle.decoder_rules.specs.declared.Edition.{Edition}
use Rattle.decoder_rules.specs.declared.Edition.TheVariants.{Toml10, Toml11}
use Rattle.decoder_rules.specs.declared.Encoding.{Encoding}
use Rattle.decoder_rules.specs.declared.Encoding.TheVariants.{LiteralString, BasicString, MlLiteralString, MlBasicString, UnquotedKey}
use Rattle.decoder_rules.specs.declared.Letter.{Letter}
use Rattle.decoder_rules.specs.declared.Letter.TheVariants.{Stands, Asks, Neither}
use Rattle.decoder_rules.specs.declared.Piece.{Piece}
use Rattle.decoder_rules.specs.Encodings.{mlb_plain, choice_in, choice_by, mark_error}
use Rattle.decoder_rules.specs.Pieces.{gives, notes, notes_at, collect}
use Rattle.decoder_rules.specs.Escapes.{new_letter, letter_of, letter_at, escape_by, escape_piece}
use Rattle.decoder_rules.specs.Bodies.{basic_piece, skips, mlb_content, ml_basic_piece, piece_of}
use Rattle.decoder_rules.specs.Marks.{line_ends, ends_of, body_of}
use Rattle.decoder_rules.specs.Decoding.{bytes_of, errors_of, bytes_by, errors_by}
use Rattle.decoder_rules.proofs.PieceLaws.{wrong≢none, notes_clean}

-- ---- letters: those of 1.0 mean the same in 1.1

same_letter : (b : ℕ) → (letter_of Toml10 b ≡ Neither) ⊎ (letter_of Toml11 b ≡ letter_of Toml10 b)
unfolding letter_of
same_letter b =
    go (eqb b 0x22) (eqb b 0x5C) (eqb b 0x62) (eqb b 0x66) (eqb b 0x6E) (eqb b 0x72) (eqb b 0x74) (eqb b 0x75) (eqb b 0x55)
    (new_letter Toml11 b)
  where
    table : (p q r s t u v w x : Bool) → Letter → Letter
    table p q r s t u v w x l =
        cond p (Stands 0x22) (cond q (Stands 0x5C) (cond r (Stands 0x08) (cond s (Stands 0x0C) (cond t (Stands 0x0A)
        (cond u (Stands 0x0D) (cond v (Stands 0x09) (cond w (Asks 4) (cond x (Asks 8) l))))))))

    go : (p q r s t u v w x : Bool) (l : Letter)
        → (table p q r s t u v w x Neither ≡ Neither) ⊎ (table p q r s t u v w x l ≡ table p q r s t u v w x Neither)
    go true q r s t u v w x l = inr refl
    go false true r s t u v w x l = inr refl
    go false false true s t u v w x l = inr refl
    go false false false true t u v w x l = inr refl
    go false false false false true u v w x l = inr refl
    go false false false false false true v w x l = inr refl
    go false false false false false false true w x l = inr refl
    go false false false false false false false true x l = inr refl
    go false false false false false false false false true l = inr refl
    go false false false false false false false false false l = inl refl

same_letter_at : (s : List ℕ) → (letter_at Toml10 s ≡ Neither) ⊎ (letter_at Toml11 s ≡ letter_at Toml10 s)
same_letter_at [] = inl refl
same_letter_at (b ∷ s) = same_letter b

-- ---- pieces: one without an error under 1.0 is the same under 1.1

-- the piece r is p, unless p has an error
abbrev Stays : Piece → Piece → Type 0
Stays r p = p.verdict ≡ None → r ≡ p

escape_same : (at : ℕ) (s : List ℕ) → Stays (escape_piece Toml11 at s) (escape_piece Toml10 at s)
unfolding escape_piece
escape_same at s = go (letter_at Toml10 s) (same_letter_at s)
  where
    go : (l : Letter) → (l ≡ Neither) ⊎ (letter_at Toml11 s ≡ l) → Stays (escape_by (letter_at Toml11 s) at (drop 1 s)) (escape_by l at (drop 1 s))
    go l (inl e) h = absurd (wrong≢none (rw e at h))
    go l (inr e) h = rw e

stays_self : (p : Piece) → Stays p p
stays_self p e = refl

stays_cond : (x : Bool) {p q r s : Piece} → Stays p r → Stays q s → Stays (cond x p q) (cond x r s)
stays_cond true f g = f
stays_cond false f g = g

basic_same : (at : ℕ) (s : List ℕ) → Stays (basic_piece Toml11 at s) (basic_piece Toml10 at s)
unfolding basic_piece
basic_same at s =
    stays_cond (first_is basic_unescaped s) (stays_self _)
    (stays_cond (stands 0x5C s) (escape_same at (drop 1 s)) (stays_self _))

content_same : (at : ℕ) (s : List ℕ) → Stays (mlb_content Toml11 at s) (mlb_content Toml10 at s)
unfolding mlb_content
content_same at s =
    stays_cond (first_is mlb_plain s) (stays_self _)
    (stays_cond (stands 0x5C s) (stays_cond (first_is skips (drop 1 s)) (stays_self _) (escape_same at (drop 1 s))) (stays_self _))

ml_basic_same : (d : Bool) (at : ℕ) (s : List ℕ) → Stays (ml_basic_piece Toml11 d at s) (ml_basic_piece Toml10 d at s)
unfolding ml_basic_piece
ml_basic_same d at s = stays_cond (d && first_is skips s) (stays_self _) (content_same at s)

-- the same encoding in TOML 1.1
abbrev pub later : Encoding → Encoding
later LiteralString = LiteralString
later (BasicString v) = BasicString Toml11
later MlLiteralString = MlLiteralString
later (MlBasicString v) = MlBasicString Toml11
later UnquotedKey = UnquotedKey

piece_same : (e : Encoding) (d : Bool) (at : ℕ) (s : List ℕ) → Stays (piece_of (later e) d at s) (piece_of e d at s)
piece_same LiteralString d at s = stays_self _
piece_same (BasicString Toml10) d at s = basic_same at s
piece_same (BasicString Toml11) d at s = stays_self _
piece_same MlLiteralString d at s = stays_self _
piece_same (MlBasicString Toml10) d at s = ml_basic_same d at s
piece_same (MlBasicString Toml11) d at s = stays_self _
piece_same UnquotedKey d at s = stays_self _

-- ---- bodies and texts

module _ {A : Type 0} (e : Encoding) (g : Piece → List ℕ → List A) where
  collect_same : (k : ℕ) (d : Bool) (at : ℕ) (s : List ℕ) → length (collect (piece_of e) notes_at k d at s) ≡ 0
      → collect (piece_of (later e)) g k d at s ≡ collect (piece_of e) g k d at s
  collect_same k d at [] h = refl
  collect_same zero d at (b ∷ r) h =
      let p = piece_of e d at (b ∷ r) in
      let n = rw length-append at h in
      rw (piece_same e d at (b ∷ r) (notes_clean p (omega (arith, n))))
      (ap (λ (l : List A). g p (b ∷ r) ++ l) (collect_same (pred p.take) p.dropping (suc at) r (omega (arith, n))))
  collect_same (suc k) d at (b ∷ r) h = collect_same k d (suc at) r h

ends_same : (e : Encoding) (t : List ℕ) → ends_of (later e) t ≡ ends_of e t
ends_same LiteralString t = refl
ends_same (BasicString v) t = refl
ends_same MlLiteralString t = refl
ends_same (MlBasicString v) t = refl
ends_same UnquotedKey t = refl

mark_same : (e : Encoding) → mark_error (later e) ≡ mark_error e
mark_same LiteralString = refl
mark_same (BasicString v) = refl
mark_same MlLiteralString = refl
mark_same (MlBasicString v) = refl
mark_same UnquotedKey = refl

module _ (e : Encoding) (t : List ℕ) (free : errors_of e t ≡ []) where
  -- a text without errors has none in its body
  body_free : length (collect (piece_of e) notes_at 0 false (ends_of e t).start (body_of (ends_of e t) t)) ≡ 0
  unfolding errors_of
  body_free = let n = rw (length-append, length-append) at (ap length free) in omega (arith, n)

  pub same_bytes : bytes_of (later e) t ≡ bytes_of e t
  unfolding bytes_of
  same_bytes = rw (ends_same e t) (collect_same e gives 0 false (ends_of e t).start (body_of (ends_of e t) t) body_free)

  pub same_errors : errors_of (later e) t ≡ []
  unfolding errors_of
  same_errors = rw (ends_same e t, mark_same e, collect_same e notes_at 0 false (ends_of e t).start (body_of (ends_of e t) t) body_free) free

-- ---- the call

abbrev later_choice : Result Encoding Refusal → Result Encoding Refusal
later_choice (Ok e) = Ok (later e)
later_choice (Err r) = Err r

chosen_later : (kind : ℕ) → choice_in Toml11 kind ≡ later_choice (choice_in Toml10 kind)
unfolding choice_in
chosen_later kind = go (eqb kind 39) (eqb kind 34) (eqb kind 1) (eqb kind 2) (eqb kind 3) (NoKind kind)
  where
    pick : Edition → (p q r s t : Bool) → Refusal → Result Encoding Refusal
    pick v p q r s t n =
        cond p (Ok LiteralString)
        (cond q (Ok (BasicString v))
        (cond r (Ok MlLiteralString)
        (cond s (Ok (MlBasicString v))
        (cond t (Ok UnquotedKey) (Err n)))))

    go : (p q r s t : Bool) (n : Refusal) → pick Toml11 p q r s t n ≡ later_choice (pick Toml10 p q r s t n)
    go true q r s t n = refl
    go false true r s t n = refl
    go false false true s t n = refl
    go false false false true t n = refl
    go false false false false true n = refl
    go false false false false false n = refl

-- what the call makes of a text, its errors and its bytes, in the edition of that number
pub record SameIn (t : List ℕ) (kind : ℕ) : Type 0 where
  pub errors : errors_by (choice_by 11 kind) t ≡ []
  pub bytes : bytes_by (choice_by 11 kind) t ≡ bytes_by (choice_by 10 kind) t

pub same_value : (t : List ℕ) (kind : ℕ) → errors_by (choice_by 10 kind) t ≡ [] → SameIn t kind
unfolding choice_by
same_value t kind free =
    let s = go (choice_in Toml10 kind) free in
    record { errors = rw (chosen_later kind) s.0; bytes = rw (chosen_later kind) s.1 }
  where
    go : (c : Result Encoding Refusal) → errors_by c t ≡ [] → (errors_by (later_choice c) t ≡ []) × (bytes_by (later_choice c) t ≡ bytes_by c t)
    go (Ok e) h = (same_errors e t h, same_bytes e t h)
    go (Err r) h = (refl, refl)

-- ---- not the other way round: "\e" and "\x41" are strings of TOML 1.1 alone

abbrev escape_e : List ℕ
escape_e = 0x22 ∷ 0x5C ∷ 0x65 ∷ 0x22 ∷ []

pub later_only : (errors_by (choice_by 11 34) escape_e ≡ []) × (bytes_by (choice_by 11 34) escape_e ≡ 0x1B ∷ [])
    × (errors_by (choice_by 10 34) escape_e ≡ (8 ∷ 2 ∷ 2 ∷ []) ∷ [])
unfolding choice_by choice_in errors_of bytes_of line_ends notes gives basic_piece run basic_unescaped escape_piece letter_of encode_scalar
later_only = (refl, refl, refl)
