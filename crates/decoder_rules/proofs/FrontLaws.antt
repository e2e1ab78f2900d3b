-- What the run at the front of a body that stands for itself comes to: its own bytes and no error, and the rest of the body is
-- decoded as if it stood alone.
-- Assumes nothing.
use Prim.Native.Nat.{ℕ, zero, suc, ◌+◌, ◌-◌, ◌≤◌, ◌<◌}
use mathlib.Core.Path.{◌≡◌, refl, sym, ap, ◌∙◌}
use mathlib.Core.Bool.{false}
use mathlib.Core.List.{List, [], ◌∷◌, ◌++◌}
use native.Mathlib.Decide.{dec_lt}
use native.Mathlib.Nat.{add-zero, zero-add, suc-add}
use native.Mathlib.Omega.{arith}
use lib.ListN.{length, take, drop}
use lib.Seq.{drop-drop}
use Rattle.text_classes.specs.Runs.{run}
use Rattle.text_classes.proofs.RunLaws.{run_le, run_first}
use Rattle.decoder_rules.specs.declared.Encoding.{Encoding}
use Rattle.decoder_rules.specs.Encodings.{plain}
use Rattle.decoder_rules.specs.Pieces.{gives, notes_at, copy_piece}
use Rattle.decoder_rules.specs.Bodies.{piece_of}
use Rattle.decoder_rules.proofs.PieceLaws.{collect_step, notes_none}
use Rattle.decoder_rules.proofs.PlainLaws.{plain_piece}
use Rattle.decoder_rules.proofs.LoopLaws.{bytes, errors}

module _ (e : Encoding) (s : List ℕ) (base k : ℕ) (is : k ≡ run (plain e) s) where
  within : k ≤ length s
  within = omega (arith, run_le (plain e) s)

  -- where there is one, it is the first piece
  first : 0 < k → piece_of e false base s ≡ copy_piece k
  first h =
      let plain-first = run_first (plain e) s (omega (arith, within)) k is h in
      plain_piece e base s plain-first ∙ ap copy_piece (sym is)

  given : gives (copy_piece k) s ≡ take k s
  unfolding gives
  given = refl

  pub front_bytes : bytes (piece_of e) false base s ≡ take k s ++ bytes (piece_of e) false (base + k) (drop k s)
  front_bytes = go (dec_lt 0 k)
    where
      go : Dec (0 < k) → bytes (piece_of e) false base s ≡ take k s ++ bytes (piece_of e) false (base + k) (drop k s)
      go (yes h) =
          let p = first h in
          let some : 0 < (piece_of e false base s).take = rw p h in
          collect_step (piece_of e) gives false base s (omega (arith, within)) some ∙ rw (p, given)
      go (no h) = let none : k ≡ 0 = omega arith in rw (none, add-zero)

  pub front_errors : errors (piece_of e) false base s ≡ errors (piece_of e) false (base + k) (drop k s)
  front_errors = go (dec_lt 0 k)
    where
      go : Dec (0 < k) → errors (piece_of e) false base s ≡ errors (piece_of e) false (base + k) (drop k s)
      go (yes h) =
          let p = first h in
          let some : 0 < (piece_of e false base s).take = rw p h in
          collect_step (piece_of e) notes_at false base s (omega (arith, within)) some
          ∙ rw (p, notes_none (copy_piece k) refl)
      go (no h) = let none : k ≡ 0 = omega arith in rw (none, add-zero)

-- the rest of a part, as a part
take_nil : (n : ℕ) → take {A = ℕ} n [] ≡ []
take_nil zero = refl
take_nil (suc n) = refl

drop_take : (n m : ℕ) (l : List ℕ) → drop n (take (n + m) l) ≡ take m (drop n l)
drop_take zero m l = rw zero-add
drop_take (suc n) m [] = rw (suc-add, take_nil m)
drop_take (suc n) m (x ∷ l) = rw suc-add (drop_take n m l)

pub part_rest : (t : List ℕ) (a z k : ℕ) → k + a ≤ z → drop k (take (z - a) (drop a t)) ≡ take (z - (a + k)) (drop (a + k) t)
part_rest t a z k h =
    let size : z - a ≡ k + (z - (a + k)) = omega arith in
    rw (size, drop_take k (z - (a + k)) (drop a t), drop-drop k a t)
