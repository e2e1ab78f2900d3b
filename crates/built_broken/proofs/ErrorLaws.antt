-- The first error of a text: that of the first part that has one, its opening, its closing or a piece of its body.
-- Assumes nothing.
use Prim.Native.Nat.{ℕ, ◌<◌}
use mathlib.Core.Path.{◌≡◌, refl, sym, ap, ◌∙◌}
use mathlib.Core.Bool.{false}
use mathlib.Core.List.{List, [], ◌∷◌, ◌++◌}
use native.Mathlib.Omega.{arith}
use Rattle.std.specs.Prelude.{Option, Some, None}
use Rattle.std.specs.Option.{option_or}
use lib.ListN.{length, take, length-take}
use Rattle.text_classes.specs.Runs.{run}
use Rattle.text_classes.proofs.RunLaws.{run_le}
use Rattle.decoder_rules.specs.declared.Encoding.{Encoding}
use Rattle.decoder_rules.specs.declared.Piece.{Piece}
use Rattle.decoder_rules.specs.declared.Wrong.{Wrong}
use Rattle.decoder_rules.specs.Pieces.{notes_of, notes_at, copy_piece, char_piece}
use Rattle.decoder_rules.specs.Encodings.{plain}
use Rattle.decoder_rules.specs.Bodies.{piece_of}
use Rattle.decoder_rules.proofs.PieceLaws.{notes_none}
use Rattle.decoder_rules.proofs.Fine.{Turn, turn_said}
use Rattle.decoder_rules.proofs.BodyLaws.{piece_fine}
use Rattle.decoder_pieces.specs.declared.body.Body.{Body}
use Rattle.decoder_pieces.specs.Steps.{body_bytes, body_after, errors_left}
use Rattle.decoder_pieces.specs.GoodEscapes.{escape_at}
use Rattle.decoder_pieces.specs.declared.string.Escape.{Escape}
use Rattle.decoder_pieces.proofs.EscapeAtLaws.{few_piece, good_escape_piece}
use Rattle.decoder_pieces.proofs.StepLaws.{left_is}
use Rattle.built_broken.specs.Walk.{CleanFront}

-- ---- the first of some errors

pub first_none : {A : Type 0} (l : List A) → take 1 l ≡ [] → l ≡ []
first_none [] e = refl
first_none (x ∷ l) e = absurd (omega (arith, ap length e))

pub first_some : {A : Type 0} (l : List A) (x : A) → take 1 l ≡ x ∷ [] → (more : List A) × (l ≡ x ∷ more)
first_some [] x e = absurd (omega (arith, ap length e))
first_some (y ∷ l) x e = let same : y ≡ x = cc in (l, ap (λ (z : _). z ∷ l) same)

-- an error that is there is the first of it and what follows
pub wrong_first : (w : Wrong) (v : Option Wrong) (more : List (List ℕ)) → v ≡ Some w → notes_of (Some w) ≡ take 1 (notes_of v ++ more)
wrong_first w v more e = rw e

-- of two verdicts, the first that is an error is the first error; where neither is one they add nothing
pub either_first : (w : Wrong) (a b : Option Wrong) (more : List (List ℕ)) → option_or a b ≡ Some w
    → notes_of (Some w) ≡ take 1 (notes_of a ++ (notes_of b ++ more))
either_first w None b more e = wrong_first w b more e
either_first w (Some x) b more e = wrong_first w (Some x) (notes_of b ++ more) e

pub either_clean : (a b : Option Wrong) (more : List (List ℕ)) → option_or a b ≡ None → notes_of a ++ (notes_of b ++ more) ≡ more
either_clean None b more e = rw e
either_clean (Some x) b more e = cc

-- ---- a body

module _ (e : Encoding) (t : List ℕ) (b : Body) where
  -- a piece without an error leaves all errors
  pub passed_over : (p : Piece) → Turn (piece_of e) b.dropping b.at (body_bytes b t) p → p.verdict ≡ None
      → errors_left e t (body_after b p) ≡ errors_left e t b
  passed_over p turn clean =
      sym (turn_said (piece_fine e) turn notes_at ∙ rw (notes_none p clean, ← left_is e t b p turn))

  -- a front without an error is such a piece
  pub front_turn : (n : ℕ) (f : CleanFront e b (body_bytes b t) n) → 0 < length (body_bytes b t)
      → Turn (piece_of e) b.dropping b.at (body_bytes b t) f.piece
  front_turn n f h = record { more = h; reads = f.reads }

  pub front_after : (n : ℕ) (f : CleanFront e b (body_bytes b t) n) → body_after b (copy_piece n) ≡ body_after b f.piece
  front_after n f = rw (f.takes, f.outside)

  -- where no byte is left, no error is
  pub none_left_over : body_bytes b t ≡ [] → errors_left e t b ≡ []
  none_left_over h = rw h

-- ---- fronts without an error

-- a run of bytes that stand for themselves, which ends before its eighth
pub few_front : (e : Encoding) (b : Body) (s : List ℕ) (n : ℕ) → b.dropping ≡ false → n ≡ run (plain e) (take 8 s) → 0 < n
    → (n ≡ 8 → ⊥) → CleanFront e b s n
few_front e b s n off is some short =
    let small : n < 8 = omega (arith, run_le (plain e) (take 8 s), length-take 8 s) in
    record {
      piece = copy_piece n;
      reads = rw off (sym (few_piece e b.at s n is some small));
      takes = refl;
      clean = refl;
      outside = refl;
    }

-- an escape that is read off
pub escape_front : (e : Encoding) (b : Body) (s : List ℕ) (x : Escape) → Some x ≡ escape_at e s → CleanFront e b s x.take
escape_front e b s x is =
    record {
      piece = char_piece x.take x.char;
      reads = sym (good_escape_piece e b.dropping b.at s x is);
      takes = refl;
      clean = refl;
      outside = refl;
    }
