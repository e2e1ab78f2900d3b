-- What is known of a token that was gone over to its end: an atom of ASCII, and a string on one line, which is UTF-8 and has no error.
-- Assumes nothing.
use Prim.Native.Nat.{ℕ, zero, suc, ◌+◌, ◌-◌, ◌≤◌, ◌<◌}
use mathlib.Core.Path.{◌≡◌, refl, ap, ◌∙◌}
use mathlib.Core.Bool.{Bool, true, false}
use mathlib.Core.List.{List, [], ◌∷◌}
use native.Mathlib.Nat.{add-zero}
use native.Mathlib.Omega.{arith}
use borrow.Author.Tests.{lt-ltb, ltb-true}
use lib.Dec.{ltb}
use lib.ListN.{length, get_or, take, drop, length-drop}
use lib.Seq.{take-take, length-take-le, get_or-take, get_or-drop, drop-drop}
use Rattle.text_classes.specs.Runs.{run, stands}
use Rattle.text_classes.proofs.Conds.{not_both, both_right}
use Rattle.text_classes.proofs.FirstLaws.{stands_there}
use Rattle.text_scalars.specs.Utf8.{Utf8}
use Rattle.text_scalars.specs.Utf8Read.{Along}
use Rattle.text_characters.proofs.CharLaws.{along_ascii}
use Rattle.lexer_scans.specs.Extents.{in_atom, line_tail}
use Rattle.lexer_scans.proofs.TailLaws.{line_closed}
use Rattle.lexer_comments.proofs.FrontLaws.{along_cut}
use Rattle.decoder_rules.specs.declared.Edition.{Edition}
use Rattle.decoder_rules.specs.declared.Ends.{Ends}
use Rattle.decoder_rules.specs.Marks.{line_ends, ends_of}
use Rattle.decoder_rules.specs.Decoding.{errors_of}
use Rattle.decoder_rules.proofs.AsciiLaws.{Low, front_one, front_add}
use Rattle.decoder_rules.proofs.MarkLaws.{line_both}
use Rattle.decoder_rules.proofs.DecodeLaws.{errors_is}
use Rattle.built_fronts.specs.Fronts.{ascii_atom, encoding_in, mark_of, Sound}
use Rattle.built_fronts.specs.declared.Line.{Line}
use Rattle.built_fronts.specs.declared.Line.TheVariants.{Literal, Basic}

-- ---- an atom of ASCII

pub ascii_low : Low ascii_atom
ascii_low b e = ltb-true b 0x80 (both_right (in_atom b) (ltb b 0x80) e)

-- where its ASCII ends before ASCII, or at the end, the atom ends
pub ascii_ends : (s : List ℕ) → get_or s (run ascii_atom s) 0 < 0x80 → run in_atom s ≡ run ascii_atom s
unfolding run
ascii_ends [] low = refl
ascii_ends (b ∷ s) low = go (in_atom b) (ltb b 0x80) refl refl (ascii_ends s)
  where
    go : (x y : Bool) → in_atom b ≡ x → ltb b 0x80 ≡ y → (get_or s (run ascii_atom s) 0 < 0x80 → run in_atom s ≡ run ascii_atom s)
        → run in_atom (b ∷ s) ≡ run ascii_atom (b ∷ s)
    go true true e f rest = rw (e, f) (ap suc (rest (rw (e, f) at low)))
    go true false e f rest = absurd (not_both (lt-ltb b 0x80 (rw (e, f) at low)) f)
    go false y e f rest = rw e

-- ---- a string on one line

-- the body of a part that begins with a mark
inner : (n m : ℕ) (s : List ℕ) → m < n → take m (drop 1 (take n s)) ≡ take m (drop 1 s)
inner zero m s h = absurd (omega arith)
inner (suc n) m [] h = refl
inner (suc n) m (b ∷ s) h = take-take m n s (omega arith)

mark_low : (line : Line) → mark_of line < 0x80
mark_low Literal = omega arith
mark_low Basic = omega arith

ends_in : (v : Edition) (line : Line) (t : List ℕ) → line_ends (mark_of line) t ≡ ends_of (encoding_in v line) t
ends_in v Literal t = refl
ends_in v Basic t = refl

module _ (line : Line) (doc : List ℕ) (at r : ℕ) where
  pub line_long : Sound line doc (at + 1) r → stands (mark_of line) (drop r doc) ≡ true
      → r + 1 ≡ at + 1 + line_tail (mark_of line) false (drop (at + 1) doc)
  line_long to closed = omega (arith, to.goes.same.1, line_closed (mark_of line) doc r closed)

module _ (line : Line) (doc : List ℕ) (at r : ℕ) (h : at < length doc) (opens : get_or doc at 0 ≡ mark_of line) (to : Sound line doc (at + 1) r)
    (closed : stands (mark_of line) (drop r doc) ≡ true) where
  -- its text
  abbrev t : List ℕ
  t = take (r - at + 1) (drop at doc)

  mark_there : (r < length doc) × (get_or doc r 0 ≡ mark_of line)
  mark_there = stands_there (mark_of line) doc r closed

  behind : at + 1 ≤ r
  behind = to.along.0

  back : at + (r - at) ≡ r
  back = omega (arith, behind)

  pub line_utf8 : Utf8 (take (r - at + 1) (drop at doc))
  line_utf8 =
      let low = mark_low line in
      let one = along_ascii doc at at h (omega arith) (omega arith, omega arith, refl) in
      let all : Along doc at r = (omega (arith, behind), omega (arith, mark_there), omega (arith, one, to.along)) in
      let rest : drop (r - at) (drop at doc) ≡ drop r doc = rw back at (drop-drop (r - at) at doc) in
      let here : r + 0 ≡ r = omega arith in
      let last : get_or (drop r doc) 0 0 < 0x80 = omega (arith, get_or-drop r doc 0 0, ap (λ (k : ℕ). get_or doc k 0) here, mark_there) in
      front_add (r - at) 1 (drop at doc) (along_cut doc at r all (omega (arith, mark_there)))
      (rw rest (front_one (drop r doc) (omega (arith, length-drop r doc, mark_there)) last))

  long : length t ≡ r - at + 1
  long = length-take-le (r - at + 1) (drop at doc) (omega (arith, length-drop at doc, mark_there, behind))

  first : get_or t 0 0 ≡ mark_of line
  first = get_or-take (r - at + 1) (drop at doc) 0 0 (omega arith) ∙ get_or-drop at doc 0 0 ∙ rw add-zero opens

  final : get_or t (length t - 1) 0 ≡ mark_of line
  final =
      let place : length t - 1 ≡ r - at = omega (arith, long) in
      rw place (get_or-take (r - at + 1) (drop at doc) (r - at) 0 (omega arith) ∙ get_or-drop at doc (r - at) 0 ∙ rw back mark_there.1)

  pub line_errors : (v : Edition) → errors_of (encoding_in v line) (take (r - at + 1) (drop at doc)) ≡ []
  line_errors v =
      let e = encoding_in v line in
      let d : Ends = record { opened = true; closed = true; start = 1; end = length t - 1 } in
      let ends : d ≡ ends_of e t = line_both (mark_of line) t (omega (arith, long, behind)) first final ∙ ends_in v line t in
      let size : length t - 1 - 1 ≡ r - (at + 1) + 0 = omega (arith, long, behind) in
      let place : at + 1 ≡ 1 + at = omega arith in
      let body : take (length t - 1 - 1) (drop 1 t) ≡ take (r - (at + 1) + 0) (drop (at + 1) doc) =
      inner (r - at + 1) (length t - 1 - 1) (drop at doc) (omega (arith, long, behind)) ∙ rw (size, drop-drop) in
      errors_is e t d ends _ refl ∙ rw body (to.goes.clean v 1 0)
