-- How much a token, and a document, can become and report: no byte becomes more than six bytes, nor has more than one error.
-- Assumes nothing.
use Prim.Native.Nat.{ℕ, zero, suc, pred, ◌+◌, ◌-◌, ◌*◌, ◌≤◌, ◌<◌}
use mathlib.Core.Path.{◌≡◌, refl, ◌∙◌, ap}
use mathlib.Core.Bool.{Bool, true, false}
use mathlib.Core.List.{List, [], ◌∷◌, ◌++◌, map}
use native.Mathlib.Omega.{arith}
use native.Mathlib.Decide.{dec_lt}
use lib.ListN.{length, take, drop, length-append, length-take, length-drop, length-map}
use lib.Seq.{length-take-le}
use Rattle.text_classes.proofs.Conds.{cond_case, not_both}
use Rattle.lexer.specs.Table.{kind_of, token_len}
use Rattle.lexer.specs.Tokens.{start_of, tokens_of}
use Rattle.lexer.proofs.TokenLaws.{token_fits_at, token_long_at, start_fits}
use Rattle.decoder_rules.specs.declared.Encoding.{Encoding}
use Rattle.std.specs.Prelude.{Result, Ok, Err}
use Rattle.text_refusals.specs.declared.Refusal.{Refusal}
use Rattle.decoder_rules.specs.Encodings.{mark_error}
use Rattle.decoder_rules.specs.Pieces.{gives, notes_at, Pieces, collect}
use Rattle.decoder_rules.specs.Bodies.{piece_of}
use Rattle.decoder_rules.specs.Marks.{ends_of, body_of}
use Rattle.decoder_rules.specs.Decoding.{bytes_of, missing, errors_of, bytes_by, errors_by}
use Rattle.decoder_rules.proofs.PieceLaws.{verdict_few, notes_few}
use Rattle.decoder_rules.proofs.BodyLaws.{piece_fine}
use Rattle.decoder_rules.proofs.MarkLaws.{ends_within}
use Rattle.built_mending.specs.Mending.{respelt, replacement, Part, read_as, reported, decoded, is_broken, gap, becomes, ends_quoted, mend, mended, record_at, list, listed}
use Rattle.built_mending.specs.Passes.{tokens_at, parts_at}
use Rattle.built_mending.proofs.SpellLaws.{respelt_none, respelt_append}
use Rattle.built_mending.proofs.PieceLaws.{gives_six}
use Rattle.built_mending.proofs.ChoiceLaws.{reads_of, Opens, token_opens}
use Rattle.built_mending.proofs.TokenLaws.{part_here, end_here, line_there, part_long, mend_step, list_step, mend_end, list_end}

-- ---- a body

module _ (e : Encoding) where
  abbrev P : Pieces
  P = piece_of e

  body_spelt : (k : ℕ) (d : Bool) (at : ℕ) (s : List ℕ) → k ≤ length s
      → length (respelt (collect P gives k d at s)) ≤ 6 * (length s - k)
  body_spelt k d at [] h = rw respelt_none (omega arith)
  body_spelt zero d at (b ∷ r) h =
      let p = P d at (b ∷ r) in
      let f = piece_fine e d at (b ∷ r) (omega arith) in
      let on = body_spelt (pred p.take) p.dropping (suc at) r (omega (arith, f.fits)) in
      rw (respelt_append, length-append) (omega (arith, gives_six p (b ∷ r) f.some, f.some, f.fits, on))
  body_spelt (suc k) d at (b ∷ r) h = omega (arith, body_spelt k d (suc at) r (omega arith))

  body_noted : (k : ℕ) (d : Bool) (at : ℕ) (s : List ℕ) → k ≤ length s
      → length (collect P notes_at k d at s) ≤ length s - k
  body_noted k d at [] h = omega arith
  body_noted zero d at (b ∷ r) h =
      let p = P d at (b ∷ r) in
      let f = piece_fine e d at (b ∷ r) (omega arith) in
      let on = body_noted (pred p.take) p.dropping (suc at) r (omega (arith, f.fits)) in
      rw length-append (omega (arith, notes_few p, f.some, f.fits, on))
  body_noted (suc k) d at (b ∷ r) h = omega (arith, body_noted k d (suc at) r (omega arith))

-- ---- any text

pub text_most : (e : Encoding) (t : List ℕ) → length (respelt (bytes_of e t)) ≤ 6 * length t
unfolding bytes_of
text_most e t =
    let d = ends_of e t in
    let less : length (body_of d t) ≤ length t = rw (length-take, length-drop) (omega arith) in
    omega (arith, body_spelt e 0 false d.start (body_of d t) (omega arith))

-- ---- a text that has its opening mark, which is not part of the body

module _ (e : Encoding) (t : List ℕ) (opens : Opens e t) where
  body_less : length (body_of (ends_of e t) t) + 1 ≤ length t
  body_less =
      let w = ends_within e t in
      rw (length-take, length-drop) (omega (arith, opens.1, w.0, w.1))

  text_spelt : length (respelt (bytes_of e t)) + 6 ≤ 6 * length t
  unfolding bytes_of
  text_spelt = omega (arith, body_spelt e 0 false (ends_of e t).start (body_of (ends_of e t) t) (omega arith), body_less)

  text_noted : length (errors_of e t) ≤ length t
  unfolding errors_of
  text_noted =
      rw (opens.0, length-append, length-append)
      (omega (
        arith,
        verdict_few (missing (ends_of e t).closed (mark_error e) (length t)),
        body_noted e 0 false (ends_of e t).start (body_of (ends_of e t) t) (omega arith),
        body_less,
      ))

-- ---- a token

gap_one : (quoted : Bool) → length (gap quoted) ≤ 1
gap_one true = omega arith
gap_one false = omega arith

pub replacement_long : (value : List ℕ) → length (replacement value) ≡ length (respelt value) + 2
replacement_long value = omega (arith, length-append (respelt value) (0x22 ∷ []))

pub new_long : (quoted : Bool) (value : List ℕ)
    → length (gap quoted ++ replacement value) ≡ length (gap quoted) + (length (respelt value) + 2)
new_long quoted value =
    length-append (gap quoted) (replacement value) ∙ ap (λ (n : ℕ). length (gap quoted) + n) (replacement_long value)

-- a token's text by the encoding that is chosen for it, if one is
choice_noted : (choice : Result Encoding Refusal) (t : List ℕ) → ((e : Encoding) → choice ≡ Ok e → Opens e t) → length (errors_by choice t) ≤ length t
choice_noted (Ok e) t opens = text_noted e t (opens e refl)
choice_noted (Err r) t opens = omega arith

choice_spelt : (choice : Result Encoding Refusal) (t : List ℕ) → ((e : Encoding) → choice ≡ Ok e → Opens e t)
    → is_broken (errors_by choice t) ≡ true → length (respelt (bytes_by choice t)) + 6 ≤ 6 * length t
choice_spelt (Ok e) t opens h = text_spelt e t (opens e refl)
choice_spelt (Err r) t opens h = not_both h refl

module _ (edition : ℕ) (doc : List ℕ) (at line : ℕ) (h : at < length doc) where
  abbrev p : Part
  p = part_here doc at line

  opens : (e : Encoding) → read_as edition p ≡ Ok e → Opens e p.text
  opens e chosen =
      let s = drop at doc in
      let size : at + token_len s - at ≡ token_len s = omega arith in
      rw size (token_opens s (omega (arith, length-drop at doc)) e (reads_of edition (kind_of s) e chosen))

  text_long : length p.text ≡ token_len (drop at doc)
  text_long =
      let fits = token_fits_at doc at (omega arith) in
      omega (arith, part_long doc at (end_here doc at line) (omega arith) fits)

  token_few : length (reported edition p) ≤ token_len (drop at doc)
  token_few = omega (arith, choice_noted (read_as edition p) p.text opens, text_long)

  token_most : (quoted : Bool) → length (becomes edition quoted p) ≤ 6 * token_len (drop at doc)
  unfolding becomes
  token_most quoted =
      let value = decoded edition p in
      cond_case (λ (w : List ℕ). length w ≤ 6 * token_len (drop at doc)) (is_broken (reported edition p))
      (λ b.
      let spelt = choice_spelt (read_as edition p) p.text opens b in
      omega (arith, length-append (gap quoted) (replacement value), gap_one quoted, replacement_long value, spelt, text_long))
      (λ b. omega (arith, text_long))

-- ---- the tokens from a place on, and all of them

module _ (edition : ℕ) (doc : List ℕ) where
  abbrev Most : ℕ → ℕ → Type 0
  Most at line =
      ((quoted : Bool) → length (mend edition quoted (parts_at doc at line)) ≤ 6 * (length doc - at))
      × (length (list edition doc (tokens_at doc at line)) ≤ length doc - at)

  most_end : (at line : ℕ) → length doc ≤ at → Most at line
  most_end at line h = (
    λ quoted. omega (arith, ap length (mend_end doc at line edition quoted h)),
    omega (arith, ap length (list_end doc at line edition h)),
  )

  most_step : (at line : ℕ) → at < length doc → Most (end_here doc at line) (line_there doc at line) → Most at line
  most_step at line h on =
      let p = part_here doc at line in
      let rest = parts_at doc (end_here doc at line) (line_there doc at line) in
      let more = tokens_at doc (end_here doc at line) (line_there doc at line) in
      let records = map (record_at at (end_here doc at line)) (reported edition p) in
      let fits = token_fits_at doc at (omega arith) in (
        λ quoted.
            let text = becomes edition quoted p in
            let ends = ends_quoted quoted text in
            omega (
              arith,
              ap length (mend_step doc at line edition quoted h),
              length-append text (mend edition ends rest),
              token_most edition doc at line h quoted,
              on.0 ends,
            ),
        omega (
          arith,
          ap length (list_step doc at line edition h),
          length-append records (list edition doc more),
          length-map (reported edition p) (record_at at (end_here doc at line)),
          token_few edition doc at line h,
          on.1,
        ),
      )

  most_from : (n at line : ℕ) → length doc ≤ at + n → Most at line
  most_from zero at line far = most_end at line (omega arith)
  most_from (suc n) at line far = elim (dec_lt at (length doc)) [
    | yes h ↦ most_step at line h
        (most_from n (end_here doc at line) (line_there doc at line) (omega (arith, token_long_at doc at h)))
    | no h ↦ most_end at line (omega arith)
  ]

  all_most : Most (start_of doc) 1
  all_most = most_from (length doc) (start_of doc) 1 (omega arith)

  -- a document of n bytes becomes at most 6n bytes, and gives at most n records
  pub mended_most : length (mended edition doc) ≤ 6 * length doc
  unfolding mended tokens_of
  mended_most =
      let start = take (start_of doc) doc in
      let fits = start_fits doc in
      omega (
        arith,
        length-append start (mend edition false (parts_at doc (start_of doc) 1)),
        length-take-le (start_of doc) doc fits,
        all_most.0 false,
      )

  pub listed_few : length (listed edition doc) ≤ length doc
  unfolding tokens_of
  listed_few = omega (arith, all_most.1)
