-- The escape that is read off at the front of a body: its cases, and that the rule's piece there is this one.
-- Assumes nothing.
pub use Rattle.decoder_pieces.specs.EngineLaws.{few_piece}
use Rattle.std.proofs.Common.{Option, Some, None, subst, IfSome, ◌≡◌, ℕ, ◌+◌, ◌<◌, ◌≤◌, Bool, true, false, ◌&&◌, leb, List, get_or, take, drop, sym, refl, ◌∙◌, arith, get_or-drop, eq-eqb, ne_eqb, le-leb, leb-true}
use borrow.Author.Tests.{lt-leb}
use Rattle.text_classes.specs.Classes.{wschar, basic_unescaped, mlb_unescaped, hexdig}
use Rattle.text_classes.specs.Runs.{run}
use Rattle.text_classes.proofs.Conds.{cond_case, by_eq, both_left, both_right}
use Rattle.text_scalars.specs.Utf8Read.{is_scalar}
use Rattle.decoder_rules.specs.declared.Edition.{Edition}
use Rattle.decoder_rules.specs.declared.Letter.{Letter}
use Rattle.decoder_rules.specs.declared.Letter.TheVariants.{Stands, Asks, Neither}
use Rattle.decoder_rules.specs.declared.Encoding.{Encoding}
use Rattle.decoder_rules.specs.declared.Encoding.TheVariants.{LiteralString, BasicString, MlLiteralString, MlBasicString, UnquotedKey}
use Rattle.decoder_rules.specs.Encodings.{mlb_plain}
use Rattle.decoder_rules.specs.Pieces.{char_piece}
use Rattle.decoder_rules.specs.Escapes.{letter_at, hex_from, escape_piece}
use Rattle.decoder_rules.specs.Bodies.{basic_piece, skips, ml_basic_piece, piece_of}
use Rattle.decoder_rules.proofs.PlaceForms.{basic_piece_is, content_is, ml_basic_piece_is}
use Rattle.decoder_rules.proofs.EscapeLaws.{stands_fit, asks_fit, hex_char, escape_hex, escape_simple}
use Rattle.decoder_pieces.specs.declared.string.Escape.{Escape}
use Rattle.decoder_pieces.specs.GoodEscapes.{escape_to, good_hex, good_by, good_escape, escape_in, escape_at}

-- ---- escapes, case by case

-- n digits
module _ (n : ℕ) (s : List ℕ) where
  pub good_few : (k : ℕ) → k ≡ run hexdig s → k < n → None ≡ good_hex n s
  unfolding good_hex
  good_few k e h =
      let l : run hexdig s < n = omega arith in
      rw (lt-leb _ _ l)

  pub good_char : (v : ℕ) → n ≤ run hexdig s → v ≡ hex_from 0 (take n s) → is_scalar v ≡ true → escape_to (2 + n) v ≡ good_hex n s
  unfolding good_hex
  good_char v h e t = rw (le-leb _ _ h, ← e, t)

  pub good_no_char : (v : ℕ) → n ≤ run hexdig s → v ≡ hex_from 0 (take n s) → is_scalar v ≡ false → None ≡ good_hex n s
  unfolding good_hex
  good_no_char v h e t = rw (le-leb _ _ h, ← e, t)

-- after the backslash, by what its letter is for
module _ (v : Edition) (s : List ℕ) where
  pub good_simple : (c : ℕ) → letter_at v s ≡ Stands c → escape_to 2 c ≡ good_escape v s
  unfolding good_escape
  good_simple c e = rw e

  pub good_digits : (n : ℕ) → letter_at v s ≡ Asks n → good_hex n (drop 1 s) ≡ good_escape v s
  unfolding good_escape
  good_digits n e = rw e

  pub good_neither : letter_at v s ≡ Neither → None ≡ good_escape v s
  unfolding good_escape
  good_neither e = rw e

-- at the front
module _ (e : Encoding) (s : List ℕ) where
  pub escape_here : get_or s 0 0 ≡ 0x5C → escape_in e s ≡ escape_at e s
  unfolding escape_at
  escape_here h = rw (eq-eqb _ 0x5C h)

  pub escape_absent : (get_or s 0 0 ≡ 0x5C → ⊥) → None ≡ escape_at e s
  unfolding escape_at
  escape_absent h = rw (ne_eqb _ 0x5C h)

-- ---- the piece at a backslash

basic_stops : basic_unescaped 0x5C ≡ false
unfolding basic_unescaped
basic_stops = refl

mlb_stops : mlb_plain 0x5C ≡ false
unfolding mlb_plain mlb_unescaped
mlb_stops = refl

not_skipped : skips 0x5C ≡ false
unfolding skips wschar
not_skipped = refl

and_false : (x : Bool) → (x && false) ≡ false
and_false true = refl
and_false false = refl

module _ (v : Edition) (at : ℕ) (s : List ℕ) (backslash : get_or s 0 0 ≡ 0x5C) where
  pub basic_escape : escape_piece v at (drop 1 s) ≡ basic_piece v at s
  basic_escape = rw (basic_piece_is, backslash, basic_stops)

  ml_basic_escape : (d : Bool) → skips (get_or s 1 0) ≡ false → escape_piece v at (drop 1 s) ≡ ml_basic_piece v d at s
  ml_basic_escape d h = rw (ml_basic_piece_is, content_is, backslash, not_skipped, and_false d, mlb_stops, h)

-- ---- an escape that is found is the rule's

letter_kept : (b : ℕ) → 0x22 ≤ b → skips b ≡ false
unfolding skips wschar
letter_kept b h =
    rw (
      ne_eqb b 0x20 (λ e. omega arith),
      ne_eqb b 0x09 (λ e. omega arith),
      ne_eqb b 0x0A (λ e. omega arith),
      ne_eqb b 0x0D (λ e. omega arith),
    )

if_some : {A : Type 0} {P Q : A → Type 0} (r : Option A) → ((x : A) → P x → Q x) → IfSome r P → IfSome r Q
if_some None f h = tt
if_some (Some x) f h = f x h

-- after the backslash: its letter is none that a line-ending escape drops, and its piece is the rule's
record Found (v : Edition) (at : ℕ) (s : List ℕ) (x : Escape) : Type 0 where
  letter : 0x22 ≤ get_or s 0 0
  piece : char_piece x.take x.char ≡ escape_piece v at s

module _ (v : Edition) (at : ℕ) (s : List ℕ) where
  abbrev IfFound : Option Escape → Type 0
  IfFound r = IfSome r (Found v at s)

  good_hex_found : (n : ℕ) → letter_at v s ≡ Asks n → IfFound (good_hex n (drop 1 s))
  unfolding good_hex
  good_hex_found n e =
      let c = hex_from 0 (take n (drop 1 s)) in
      let enough = leb n (run hexdig (drop 1 s)) in
      cond_case IfFound (enough && is_scalar c)
      (λ t.
      let all = leb-true _ _ (both_left enough (is_scalar c) t) in
      record {
        letter = (asks_fit v s n e).0.visible;
        piece = hex_char n at (drop 1 s) c all refl (both_right enough (is_scalar c) t) ∙ escape_hex v at s n e;
      })
      (λ _. tt)

  good_found : IfFound (good_escape v s)
  unfolding good_escape
  good_found = go (letter_at v s) refl
    where
      go : (l : Letter) → letter_at v s ≡ l → IfFound (good_by l (drop 1 s))
      go (Stands c) e = record { letter = (stands_fit v s c e).0.visible; piece = escape_simple v at s c e }
      go (Asks n) e = good_hex_found n e
      go Neither e = tt

module _ (d : Bool) (at : ℕ) (s : List ℕ) (backslash : get_or s 0 0 ≡ 0x5C) where
  piece_in : (e : Encoding) → IfSome (escape_in e s) (λ x. piece_of e d at s ≡ char_piece x.take x.char)
  unfolding escape_in
  piece_in LiteralString = tt
  piece_in MlLiteralString = tt
  piece_in (BasicString v) =
      if_some (good_escape v (drop 1 s)) (λ x found. sym (found.piece ∙ basic_escape v at s backslash)) (good_found v at (drop 1 s))
  piece_in (MlBasicString v) =
      if_some (good_escape v (drop 1 s))
      (λ x found.
      let letter : 0x22 ≤ get_or s 1 0 = rw get_or-drop at found.letter in
      sym (found.piece ∙ ml_basic_escape v at s backslash d (letter_kept _ letter)))
      (good_found v at (drop 1 s))
  piece_in UnquotedKey = tt

pub good_escape_piece : (e : Encoding) (d : Bool) (at : ℕ) (s : List ℕ) (x : Escape) → Some x ≡ escape_at e s
    → piece_of e d at s ≡ char_piece x.take x.char
unfolding escape_at
good_escape_piece e d at s x h = subst P (sym h) (by_eq P (get_or s 0 0) 0x5C (λ b. piece_in d at s b e) (λ b. tt))
  where
    P : Option Escape → Type 0
    P r = IfSome r (λ (x : Escape). piece_of e d at s ≡ char_piece x.take x.char)
