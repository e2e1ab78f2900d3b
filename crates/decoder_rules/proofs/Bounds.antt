-- How long what is decoded can be, and how many errors there can be.
-- Assumes nothing.
use Prim.Native.Nat.{ℕ, zero, suc, pred, ◌+◌, ◌-◌, ◌*◌, ◌≤◌}
use mathlib.Core.Path.{◌≡◌, ap}
use mathlib.Core.Bool.{Bool, false}
use mathlib.Core.List.{List, [], ◌∷◌}
use native.Mathlib.Omega.{arith}
use lib.ListN.{length, length-append, length-take, length-drop}
use Rattle.decoder_rules.specs.declared.Encoding.{Encoding}
use Rattle.decoder_rules.specs.Encodings.{mark_error}
use Rattle.decoder_rules.specs.Pieces.{gives, notes_at, Pieces, collect}
use Rattle.decoder_rules.specs.Bodies.{piece_of}
use Rattle.decoder_rules.specs.Marks.{ends_of, body_of}
use Rattle.decoder_rules.specs.Decoding.{bytes_of, missing, errors_of}
use Rattle.decoder_rules.proofs.PieceLaws.{verdict_few, notes_few, notes_clean}
use Rattle.decoder_rules.proofs.Fine.{Fine}
use Rattle.decoder_rules.proofs.BodyLaws.{piece_fine}

module _ (P : Pieces) (fine : Fine P) where
  collect_most : (k : ℕ) (d : Bool) (at : ℕ) (s : List ℕ) → k ≤ length s
      → 2 * length (collect P gives k d at s) ≤ 3 * (length s - k)
  collect_most k d at [] h = omega arith
  collect_most zero d at (b ∷ r) h =
      let p = P d at (b ∷ r) in
      let f = fine d at (b ∷ r) (omega arith) in
      let on = collect_most (pred p.take) p.dropping (suc at) r (omega (arith, f.fits)) in
      rw length-append (omega (arith, f.small, f.some, f.fits, on))
  collect_most (suc k) d at (b ∷ r) h = omega (arith, collect_most k d (suc at) r (omega arith))

  collect_quiet : (k : ℕ) (d : Bool) (at : ℕ) (s : List ℕ) → k ≤ length s → length (collect P notes_at k d at s) ≡ 0
      → length (collect P gives k d at s) ≤ length s - k
  collect_quiet k d at [] h e = omega arith
  collect_quiet zero d at (b ∷ r) h e =
      let p = P d at (b ∷ r) in
      let f = fine d at (b ∷ r) (omega arith) in
      let n = rw length-append at e in
      let q = f.quiet (notes_clean p (omega (arith, n))) in
      let on = collect_quiet (pred p.take) p.dropping (suc at) r (omega (arith, f.fits)) (omega (arith, n)) in
      rw length-append (omega (arith, q, f.some, f.fits, on))
  collect_quiet (suc k) d at (b ∷ r) h e = omega (arith, collect_quiet k d (suc at) r (omega arith) e)

  collect_few : (k : ℕ) (d : Bool) (at : ℕ) (s : List ℕ) → k ≤ length s → length (collect P notes_at k d at s) ≤ length s - k
  collect_few k d at [] h = omega arith
  collect_few zero d at (b ∷ r) h =
      let p = P d at (b ∷ r) in
      let f = fine d at (b ∷ r) (omega arith) in
      let on = collect_few (pred p.take) p.dropping (suc at) r (omega (arith, f.fits)) in
      rw length-append (omega (arith, notes_few p, f.some, f.fits, on))
  collect_few (suc k) d at (b ∷ r) h = omega (arith, collect_few k d (suc at) r (omega arith))

body_le : (k : Encoding) (t : List ℕ) → length (body_of (ends_of k t) t) ≤ length t
body_le k t = rw (length-take, length-drop) (omega arith)

module _ (k : Encoding) (t : List ℕ) where
  -- twice the decoded length is at most three times the text's
  pub bytes_most : 2 * length (bytes_of k t) ≤ 3 * length t
  unfolding bytes_of
  bytes_most =
      let d = ends_of k t in
      omega (arith, collect_most (piece_of k) (piece_fine k) 0 false d.start (body_of d t) (omega arith), body_le k t)

  -- and without an error the decoded length is at most the text's
  pub bytes_quiet : errors_of k t ≡ [] → length (bytes_of k t) ≤ length t
  unfolding bytes_of errors_of
  bytes_quiet e =
      let n = simp length-append at (ap length e) in
      let d = ends_of k t in
      let body = collect_quiet (piece_of k) (piece_fine k) 0 false d.start (body_of d t) (omega arith) (omega (arith, n)) in
      omega (arith, body, body_le k t)

  -- errors number at most the text's length plus two
  pub errors_few : length (errors_of k t) ≤ length t + 2
  unfolding errors_of
  errors_few =
      rw (length-append, length-append)
      (omega (
        arith,
        verdict_few (missing (ends_of k t).opened (mark_error k) 0),
        verdict_few (missing (ends_of k t).closed (mark_error k) (length t)),
        collect_few (piece_of k) (piece_fine k) 0 false (ends_of k t).start (body_of (ends_of k t) t) (omega arith),
        body_le k t,
      ))
