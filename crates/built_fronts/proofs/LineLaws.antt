-- What going over a string on one line keeps: each byte that stands for itself, and each escape of one letter, leaves its end where it
-- was, and is no error.
-- Assumes nothing.
use Rattle.std.proofs.Common.{◌≡◌, ℕ, zero, suc, Option, Some, None, IfSome, ◌+◌, ◌-◌, ◌%◌, ◌^◌, ◌<◌, ◌≤◌, Bool, true, false, not, ◌&&◌, eqb, ltb, leb, List, [], ◌∷◌, length, get_or, take, drop, refl, ap, ◌∙◌, inl, inr, add-zero, zero-add, arith, length-drop, drop-cons, ltb-true, ne_eqb, leb-true}
use borrow.Author.Tests.{eqb-false, not-true}
use Rattle.text_classes.specs.Classes.{literal_char, basic_unescaped}
use Rattle.text_classes.specs.Runs.{run}
use Rattle.text_classes.proofs.ByteTable.{classes_agree}
use Rattle.text_classes.proofs.Conds.{not_both, both_left, both_right}
use Rattle.text_classes.proofs.RunLaws.{run_le, run_step, run_stop}
use Rattle.text_characters.specs.Lead.{WideAt}
use Rattle.text_characters.proofs.CharLaws.{along_ascii, along_whole, wide_high}
use Rattle.lexer_scans.specs.Extents.{hides, closes, line_tail}
use Rattle.lexer_scans.proofs.TailLaws.{line_step, line_escaped}
use Rattle.decoder_rules.specs.declared.Edition.{Edition}
use Rattle.decoder_rules.specs.declared.Edition.TheVariants.{Toml10}
use Rattle.decoder_rules.specs.Encodings.{plain}
use Rattle.decoder_rules.proofs.AsciiLaws.{basic_high, literal_high}
use Rattle.decoder_rules.proofs.EscapeLaws.{stands_fit}
use Rattle.decoder_rules.proofs.PlainLaws.{Clear, line_of, clear_plain}
use Rattle.decoder_short.specs.Letters.{letter_char}
use Rattle.decoder_short.proofs.ShortLaws.{own_errors, letter_stands, letter_errors}
use Rattle.built_fronts.specs.Fronts.{encoding_in, mark_of, stop_of, plain_of, clear_byte, Goes, Sound}
use Rattle.built_fronts.specs.declared.Line.{Line}
use Rattle.built_fronts.specs.declared.Line.TheVariants.{Literal, Basic}

-- ---- bytes

-- one that stands for itself neither closes the string nor hides the byte after it, and is no LF
pub record OnLine (line : Line) (b : ℕ) : Type 0 where
  pub unclosed : closes (mark_of line) false b ≡ false
  pub no_lf : eqb b 0x0A ≡ false
  pub hides_none : hides (mark_of line) false b ≡ false

not_this : (p : ℕ → Bool) (b x : ℕ) → p b ≡ true → p x ≡ false → eqb b x ≡ false
not_this p b x h stops = ne_eqb b x (λ e. not_both (rw e at h) stops)

on_line : (line : Line) (b : ℕ) → plain_of line b ≡ true → OnLine line b
unfolding literal_char basic_unescaped
on_line Literal b h =
    record { unclosed = not_this literal_char b 0x27 h refl; no_lf = not_this literal_char b 0x0A h refl; hides_none = refl }
on_line Basic b h =
    record {
      unclosed = not_this basic_unescaped b 0x22 h refl;
      no_lf = not_this basic_unescaped b 0x0A h refl;
      hides_none = not_this basic_unescaped b 0x5C h refl;
    }

-- all beyond ASCII do
plain_high : (line : Line) (b : ℕ) → 0x80 ≤ b → plain_of line b ≡ true
plain_high Literal b h = literal_high b h
plain_high Basic b h = basic_high b h

-- it is so in every edition
plain_in : (v : Edition) (line : Line) (b : ℕ) → plain_of line b ≡ true → plain (encoding_in v line) b ≡ true
plain_in v Literal b h = h
plain_in v Basic b h = h

-- the tests by which such ASCII is found: a sum says that it is printable
pub clear_sum : (b sum : ℕ) → b < 2 ^ 8 → sum ≡ (b + 0x81) % 2 ^ 8 → leb 0xA1 sum ≡ (leb 0x20 b && ltb b 0x7F)
clear_sum b sum byte is =
    ap (leb 0xA1) is ∙ classes_agree (λ n. leb 0xA1 ((n + 0x81) % 2 ^ 8)) (λ n. leb 0x20 n && ltb n 0x7F) 0 256 tt b (omega arith) byte

clear_is : (q z b : ℕ) → clear_byte q z b ≡ true → Clear q z b
clear_is q z b c =
    let printable = both_left (leb 0x20 b && ltb b 0x7F) (not (eqb b q) && not (eqb b z)) c in
    let other = both_right (leb 0x20 b && ltb b 0x7F) (not (eqb b q) && not (eqb b z)) c in
    record {
      low = leb-true 0x20 b (both_left (leb 0x20 b) (ltb b 0x7F) printable);
      high = ltb-true b 0x7F (both_right (leb 0x20 b) (ltb b 0x7F) printable);
      no_first = eqb-false b q (not-true _ (both_left (not (eqb b q)) (not (eqb b z)) other));
      no_second = eqb-false b z (not-true _ (both_right (not (eqb b q)) (not (eqb b z)) other));
    }

clear_plain_in : (line : Line) (b : ℕ) → Clear (mark_of line) (stop_of line) b → plain_of line b ≡ true
unfolding line_of
clear_plain_in Literal b c = clear_plain {q = 0x27} {z = 0x27} (inl (refl, refl)) b c
clear_plain_in Basic b c = clear_plain {q = 0x22} {z = 0x5C} (inr (refl, refl)) b c

-- ---- going on

module _ (line : Line) (doc : List ℕ) where
  pub goes_start : (i : ℕ) → i ≤ length doc → Goes line doc i i
  goes_start i h =
      let none : i - i ≡ 0 = omega arith in
      record { same = (h, refl); clean = λ v at n. rw (none, add-zero, zero-add) }

  pub goes_join : (a i r : ℕ) → a ≤ i → i ≤ r → Goes line doc a i → Goes line doc i r → Goes line doc a r
  goes_join a i r h l to on =
      record {
        same = (on.same.0, omega (arith, to.same, on.same));
        clean = λ v at n.
            let size : r - a + n ≡ i - a + (r - i + n) = omega arith in
            let place : at + (r - a) ≡ at + (i - a) + (r - i) = omega arith in
            rw (size, place) (to.clean v at (r - i + n) ∙ on.clean v (at + (i - a)) n);
      }

  -- over a byte that stands for itself
  goes_byte : (i : ℕ) → i < length doc → plain_of line (get_or doc i 0) ≡ true → Goes line doc i (i + 1)
  goes_byte i h own =
      let b = get_or doc i 0 in
      let on = on_line line b own in
      let step = line_step (mark_of line) false doc i h on.unclosed on.no_lf in
      let one : i + 1 - i ≡ 1 = omega arith in
      record {
        same = (omega arith, omega (arith, step, ap (λ (x : Bool). line_tail (mark_of line) x (drop (i + 1) doc)) on.hides_none));
        clean = λ v at n.
            let size : 1 + n ≡ suc n = omega arith in
            let next : i + 1 ≡ suc i = omega arith in
            let after : at + 1 ≡ suc at = omega arith in
            rw (one, size, drop-cons doc i 0 h, after, next) (own_errors (encoding_in v line) at b (take n (drop (suc i) doc)) (plain_in v line b own));
      }

  -- over n of them
  pub goes_over : (n i : ℕ) → i + n ≤ length doc → ((k : ℕ) → k < n → plain_of line (get_or doc (i + k) 0) ≡ true) → Goes line doc i (i + n)
  goes_over zero i h own = rw add-zero (goes_start i (omega arith))
  goes_over (suc n) i h own =
      let place : i + suc n ≡ i + 1 + n = omega arith in
      let first = goes_byte i (omega arith) (rw add-zero at (own 0 (omega arith))) in
      let rest = goes_over n (i + 1) (omega arith) (λ k l. let next : i + suc k ≡ i + 1 + k = omega arith in rw next at (own (suc k) (omega arith))) in
      rw place (goes_join i (i + 1) (i + 1 + n) (omega arith) (omega arith) first rest)

-- over an escape of one letter
drop_two : (doc : List ℕ) (i : ℕ) → i + 1 < length doc → get_or doc i 0 ≡ 0x5C → drop i doc ≡ 0x5C ∷ get_or doc (i + 1) 0 ∷ drop (i + 2) doc
drop_two doc i h is =
    let place : suc i ≡ i + 1 = omega arith in
    let next : suc (i + 1) ≡ i + 2 = omega arith in
    drop-cons doc i 0 (omega arith) ∙ rw (is, place, drop-cons doc (i + 1) 0 h, next)

goes_letter : (doc : List ℕ) (i : ℕ) → i + 1 < length doc → get_or doc i 0 ≡ 0x5C → (x : ℕ) → letter_char (get_or doc (i + 1) 0) ≡ Some x → Goes Basic doc i (i + 2)
unfolding letter_char
goes_letter doc i h is x letter =
    let b = get_or doc (i + 1) 0 in
    let no_lf : b ≡ 0x0A → ⊥ = λ e. let z : letter_char 0x0A ≡ Some x = rw e at letter in cc in
    let two : i + 2 - i ≡ 2 = omega arith in
    record {
      same = (omega arith, omega (arith, line_escaped doc i h is no_lf));
      clean = λ v at n.
          let size : 2 + n ≡ suc (suc n) = omega arith in
          rw (two, size, drop_two doc i h is) (letter_errors v at b x (take n (drop (i + 2) doc)) letter);
    }

-- ---- over whole characters

module _ (line : Line) (doc : List ℕ) where
  pub sound_start : (i : ℕ) → i ≤ length doc → Sound line doc i i
  sound_start i h = record { along = (omega arith, h, refl); goes = goes_start line doc i h }

  pub sound_join : (a i r : ℕ) → Sound line doc a i → Sound line doc i r → Sound line doc a r
  sound_join a i r to on =
      record {
        along = (omega (arith, to.along, on.along), on.along.1, omega (arith, to.along, on.along));
        goes = goes_join line doc a i r to.along.0 on.along.0 to.goes on.goes;
      }

  pub sound_plain : (i : ℕ) → i < length doc → get_or doc i 0 < 0x80 → plain_of line (get_or doc i 0) ≡ true → Sound line doc i (i + 1)
  sound_plain i h low own =
      record { along = along_ascii doc i i h low (omega arith, omega arith, refl); goes = goes_byte line doc i h own }

  pub sound_wide : (i n : ℕ) → WideAt doc i (Some n) → Sound line doc i (i + n)
  sound_wide i n wide =
      let fits = wide.0 in
      let char = wide.1 in
      record {
        along = along_whole doc i i n fits char (omega arith, omega arith, refl);
        goes = goes_over line doc n i fits (λ k l. plain_high line (get_or doc (i + k) 0) (wide_high doc i n k char l));
      }

  -- where one may be answered
  pub sound_wide_if : (i : ℕ) (n : Option ℕ) → WideAt doc i n → IfSome n (λ size. Sound line doc i (i + size))
  sound_wide_if i (Some n) wide = sound_wide i n wide
  sound_wide_if i None wide = tt

  -- over n bytes of such ASCII
  abbrev clear : ℕ → Bool
  clear = clear_byte (mark_of line) (stop_of line)

  pub sound_over : (n i : ℕ) → i ≤ length doc → n ≤ run (clear_byte (mark_of line) (stop_of line)) (drop i doc) → Sound line doc i (i + n)
  sound_over zero i h l = rw add-zero (sound_start i h)
  sound_over (suc n) i h l = go (clear (get_or doc i 0)) refl (sound_over n (i + 1))
    where
      here : i < length doc
      here = omega (arith, run_le clear (drop i doc), length-drop i doc)

      go : (x : Bool) → clear (get_or doc i 0) ≡ x
          → (i + 1 ≤ length doc → n ≤ run clear (drop (i + 1) doc) → Sound line doc (i + 1) (i + 1 + n)) → Sound line doc i (i + suc n)
      go true own more =
          let place : i + suc n ≡ i + 1 + n = omega arith in
          let c = clear_is (mark_of line) (stop_of line) (get_or doc i 0) own in
          let first = sound_plain i here (omega (arith, c.high)) (clear_plain_in line (get_or doc i 0) c) in
          rw place (sound_join i (i + 1) (i + 1 + n) first (more (omega arith) (omega (arith, run_step clear doc i here own))))
      go false own more = absurd (omega (arith, run_stop clear doc i here own))

-- up to a place that its run reaches
pub sound_to : (line : Line) (doc : List ℕ) (q z start r : ℕ) → q ≡ mark_of line → z ≡ stop_of line → start ≤ length doc → start ≤ r
    → r ≤ start + run (clear_byte q z) (drop start doc) → Sound line doc start r
sound_to line doc q z start r e f h l reached =
    let place : start + (r - start) ≡ r = omega arith in
    rw place at (sound_over line doc (r - start) start h (omega (arith, rw (e, f) at reached)))

pub sound_letter : (doc : List ℕ) (i : ℕ) → i + 1 < length doc → get_or doc i 0 ≡ 0x5C → (x : ℕ) → letter_char (get_or doc (i + 1) 0) ≡ Some x → Sound Basic doc i (i + 2)
sound_letter doc i h is x letter =
    let b = get_or doc (i + 1) 0 in
    let place : i + 1 + 1 ≡ i + 2 = omega arith in
    let low : b < 0x80 = (stands_fit Toml10 (b ∷ []) x (letter_stands Toml10 b x letter)).0.low in
    let one = along_ascii doc i i (omega arith) (omega arith) (omega arith, omega arith, refl) in
    record { along = rw place at (along_ascii doc i (i + 1) h low one); goes = goes_letter doc i h is x letter }
