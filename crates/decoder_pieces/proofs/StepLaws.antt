-- A step's two answers, and what is left to be read after it: so a walk over a body says what `collect` says; and what is left after
-- a run of bytes that stand for themselves.
-- Assumes nothing.
use Rattle.std.proofs.Common.{Option, Some, None, ◌≡◌, ℕ, zero, suc, ◌+◌, ◌-◌, ◌^◌, ◌<◌, ◌≤◌, min, false, List, [], ◌∷◌, ◌++◌, length, take, drop, sym, refl, ap, ◌∙◌, arith, length-drop, length-take, take_all}
use Rattle.text_classes.specs.Runs.{run}
use Rattle.text_classes.proofs.RunLaws.{run_le}
use Rattle.decoder_rules.specs.declared.Encoding.{Encoding}
use Rattle.decoder_rules.specs.Encodings.{plain}
use Rattle.decoder_rules.specs.declared.Piece.{Piece}
use Rattle.decoder_rules.specs.Pieces.{gives, notes, notes_at, copy_piece}
use Rattle.decoder_rules.specs.Bodies.{piece_of}
use Rattle.decoder_rules.proofs.Fine.{rest, rest_is, Turn, turn_fine, turn_said}
use Rattle.decoder_rules.proofs.BodyLaws.{piece_fine}
use Rattle.decoder_rules.proofs.FrontLaws.{front_bytes, front_errors, part_rest}
use Rattle.decoder_pieces.specs.declared.body.Body.{Body}
use Rattle.decoder_pieces.specs.Steps.{body_bytes, body_after, body_past, step_over, body_step, bytes_left, errors_left}
use Rattle.decoder_pieces.specs.Walks.{AtPiece, AtEnd, Walk, ended, stepped, Walked}

-- bytes that stand for themselves are a piece that copies
pub past_fits : (b : Body) (n : ℕ) → b.at + n < 2 ^ 64 → body_past b n ≡ body_after b (copy_piece n)
past_fits b n h =
    let at : min (b.at + n) 0xFFFF_FFFF_FFFF_FFFF ≡ b.at + n = omega arith in
    rw at

-- ---- the two answers, by the bytes s of the body

-- what is in an answer, or d
abbrev or_else : {A : Type 0} → A → Option A → A
or_else d None = d
or_else d (Some x) = x

module _ (e : Encoding) (b : Body) where
  over_none : (s : List ℕ) → length s ≤ 0 → None ≡ step_over e b s
  over_none [] h = refl
  over_none (x ∷ s) h = absurd (omega arith)

  over_some : (s : List ℕ) → 0 < length s → (p : Piece) → p ≡ piece_of e b.dropping b.at s
      → Some (p, body_after b p) ≡ step_over e b s
  over_some [] h p f = absurd (omega arith)
  over_some (x ∷ s) h p f = rw f

  none_over : (s : List ℕ) → step_over e b s ≡ None → s ≡ []
  none_over [] h = refl
  none_over (x ∷ s) h = absurd (let z : ◌≡◌ {A = ℕ} 0 1 = cc in omega arith)

  some_over : (s : List ℕ) (p : Piece) (n : Body) → step_over e b s ≡ Some (p, n)
      → Turn (piece_of e) b.dropping b.at s p × (n ≡ body_after b p)
  some_over [] p n h = absurd (let z : ◌≡◌ {A = ℕ} 0 1 = cc in omega arith)
  some_over (x ∷ s) p n h =
      let is : p ≡ piece_of e b.dropping b.at (x ∷ s) = sym (ap (λ (o : Option (Piece × Body)). (or_else (p, n) o).0) h) in
      let next : n ≡ body_after b (piece_of e b.dropping b.at (x ∷ s)) = sym (ap (λ (o : Option (Piece × Body)). (or_else (p, n) o).1) h) in
      (record { more = omega arith; reads = is }, rw is next)

module _ (e : Encoding) (t : List ℕ) (b : Body) where
  pub step_none : length (body_bytes b t) ≤ 0 → None ≡ body_step e t b
  unfolding body_step
  step_none h = over_none e b (body_bytes b t) h

  pub step_some : 0 < length (body_bytes b t) → (p : Piece) → p ≡ piece_of e b.dropping b.at (body_bytes b t)
      → Some (p, body_after b p) ≡ body_step e t b
  unfolding body_step
  step_some h p f = over_some e b (body_bytes b t) h p f

  -- and back: at the end no byte is left
  pub none_left : body_step e t b ≡ None → body_bytes b t ≡ []
  unfolding body_step
  none_left h = none_over e b (body_bytes b t) h

  -- else the piece is the rule's, and the next body is what follows it
  pub step_turn : (p : Piece) (n : Body) → body_step e t b ≡ Some (p, n)
      → Turn (piece_of e) b.dropping b.at (body_bytes b t) p × (n ≡ body_after b p)
  unfolding body_step
  step_turn p n h = some_over e b (body_bytes b t) p n h

-- ---- the bytes of a body whose place or end is not within the text

module _ (b : Body) (t : List ℕ) where
  pub ended_none : b.end ≤ b.at → body_bytes b t ≡ []
  ended_none h = let none : b.end - b.at ≡ 0 = omega arith in rw none

  pub to_the_end : length t ≤ b.end → body_bytes b t ≡ rest t b.at
  to_the_end h = take_all (b.end - b.at) (drop b.at t) (omega (arith, length-drop b.at t)) ∙ sym (rest_is t b.at)

-- ---- after a piece

module _ (e : Encoding) (t : List ℕ) (b : Body) (p : Piece) (turn : Turn (piece_of e) b.dropping b.at (body_bytes b t) p) where
  pub turn_fits : (0 < p.take) × (p.take ≤ length (body_bytes b t)) × (b.at + p.take ≤ b.end) × (b.at + p.take ≤ length t)
  turn_fits =
      let fine = turn_fine (piece_fine e) turn in
      let within = simp (length-take, length-drop) at fine.fits in
      (fine.some, fine.fits, omega (arith, fine.some, within), omega (arith, fine.some, within))

  -- the bytes that are left are those after it
  pub left_is : body_bytes (body_after b p) t ≡ drop p.take (body_bytes b t)
  left_is = sym (part_rest t b.at b.end p.take (omega (arith, turn_fits)))

  -- and fewer
  pub shorter : length (body_bytes (body_after b p) t) < length (body_bytes b t)
  shorter = rw left_is (omega (arith, turn_fits, length-drop p.take (body_bytes b t)))

-- ---- a walk

module _ (e : Encoding) (t : List ℕ) where
  pub at_piece : (b : Body) (p : Piece) (n : Body) → body_step e t b ≡ Some (p, n) → AtPiece e t b p n
  at_piece b p n h =
      let turn = (step_turn e t b p n h).0 in
      let next = (step_turn e t b p n h).1 in
      let left = left_is e t b p turn in
      let fits = turn_fits e t b p turn in
      record {
        bytes = rw (next, left) (turn_said (piece_fine e) turn gives);
        errors = rw (next, left) (turn_said (piece_fine e) turn notes_at);
        some = fits.0;
        fewer = rw (next, left) (omega (arith, fits.1, length-drop p.take (body_bytes b t)));
      }

  pub at_end : (b : Body) → body_step e t b ≡ None → AtEnd e t b
  at_end b h = let none = none_left e t b h in record { bytes = rw none; errors = rw none }

  -- whatever walk is taken, it says what was left, in at most as many pieces as there are bytes
  pub walk_said : {b : Body} {bytes : List ℕ} {errors : List (List ℕ)} {count : ℕ} → Walk e t b bytes errors count
      → (bytes ≡ bytes_left e t b) × (errors ≡ errors_left e t b) × (count ≤ length (body_bytes b t))
  walk_said {b = b} (ended h) = let end = at_end b h in (sym end.bytes, sym end.errors, omega arith)
  walk_said {b = b} (stepped {n = n} {p = p} h w) =
      let step = at_piece b p n h in
      let rest = walk_said w in
      (rw rest.0 (sym step.bytes), rw rest.1 (sym step.errors), omega (arith, rest.2, step.some, step.fewer))

  walk_by : (b : Body) → ((n : Body) → length (body_bytes n t) < length (body_bytes b t) → Walked e t n)
      → (r : Option (Piece × Body)) → body_step e t b ≡ r → Walked e t b
  walk_by b on None h = record { bytes = []; errors = []; count = 0; walk = ended h }
  walk_by b on (Some (p, n)) h =
      let step = at_piece b p n h in
      let rest = on n (omega (arith, step.some, step.fewer)) in
      record {
        bytes = gives p (body_bytes b t) ++ rest.bytes;
        errors = notes p ++ rest.errors;
        count = suc rest.count;
        walk = stepped h rest.walk;
      }

  walk_within : (k : ℕ) (b : Body) → length (body_bytes b t) ≤ k → Walked e t b
  walk_within zero b h = walk_by b (λ n l. absurd (omega arith)) (body_step e t b) refl
  walk_within (suc k) b h = walk_by b (λ n l. walk_within k n (omega arith)) (body_step e t b) refl

  pub walk_ends : (b : Body) → Walked e t b
  walk_ends b = walk_within (length (body_bytes b t)) b (omega arith)

-- ---- a body that is not within a line-ending escape, and k bytes at the front of it that stand for themselves

module _ (e : Encoding) (t : List ℕ) (b : Body) (outside : b.dropping ≡ false) (fits : b.at ≤ b.end) (k : ℕ)
    (is : k ≡ run (plain e) (body_bytes b t)) where
  pub plain_fits : (k ≤ length (body_bytes b t)) × (b.at + k ≤ b.end)
  plain_fits =
      let within : k ≤ length (body_bytes b t) = omega (arith, run_le (plain e) (body_bytes b t)) in
      (within, omega (arith, simp (length-take, length-drop) at within))

  -- the bytes after them
  after_is : drop k (body_bytes b t) ≡ body_bytes (body_after b (copy_piece k)) t
  after_is = part_rest t b.at b.end k (omega (arith, plain_fits))

  pub bytes_after : bytes_left e t b ≡ take k (body_bytes b t) ++ bytes_left e t (body_after b (copy_piece k))
  bytes_after = rw outside (front_bytes e (body_bytes b t) b.at k is ∙ rw after_is)

  pub errors_after : errors_left e t b ≡ errors_left e t (body_after b (copy_piece k))
  errors_after = rw outside (front_errors e (body_bytes b t) b.at k is ∙ rw after_is)
