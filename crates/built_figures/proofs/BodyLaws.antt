-- A body, from piece to piece: what is passed without making a piece has no error, and what is left makes the whole with what
-- was counted.
-- Assumes nothing.
use Prim.Native.Nat.{ℕ, ◌+◌, ◌≤◌, ◌<◌}
use mathlib.Core.Path.{◌≡◌, refl, sym, ap, ◌∙◌}
use mathlib.Core.Bool.{Bool, false}
use mathlib.Core.List.{List, [], ◌++◌, map-append}
use native.Mathlib.Omega.{arith}
use lib.ListN.{length, get_or}
use Rattle.std.specs.Prelude.{Some}
use Rattle.text_classes.specs.Runs.{run}
use Rattle.text_classes.proofs.RunLaws.{run_le, run_first}
use Rattle.decoder_rules.specs.declared.Encoding.{Encoding}
use Rattle.decoder_rules.specs.declared.Piece.{Piece}
use Rattle.decoder_rules.specs.Encodings.{plain}
use Rattle.decoder_rules.specs.Pieces.{notes, notes_at, copy_piece, char_piece}
use Rattle.decoder_rules.specs.Bodies.{piece_of}
use Rattle.decoder_rules.proofs.Fine.{Turn, turn_said}
use Rattle.decoder_rules.proofs.PieceLaws.{notes_none}
use Rattle.decoder_rules.proofs.BodyLaws.{piece_fine}
use Rattle.decoder_rules.proofs.PlainLaws.{plain_piece}
use Rattle.decoder_pieces.specs.declared.body.Body.{Body}
use Rattle.decoder_pieces.specs.Steps.{body_bytes, body_after, errors_left}
use Rattle.decoder_pieces.proofs.StepLaws.{turn_fits, left_is, shorter}
use Rattle.decoder_pieces.specs.declared.string.Escape.{Escape}
use Rattle.decoder_pieces.specs.GoodEscapes.{escape_at}
use Rattle.decoder_pieces.proofs.EscapeAtLaws.{good_escape_piece}
use Rattle.built_figures.specs.Figures.{added, figures_for, numbers_of}
use Rattle.built_figures.specs.Counting.{Room, error_figures, SoundAt}
use Rattle.built_figures.proofs.AddLaws.{added_assoc}
use Rattle.built_figures.proofs.FigureLaws.{figures_joined, figures_long, none_added, room_first, room_rest}

-- ---- errors that are joined

pub errors_joined : (a b : List (List ℕ)) → error_figures (a ++ b) ≡ added (error_figures a) (error_figures b)
errors_joined a b =
    ap (λ (r : List ℕ). figures_for [] r) (map-append (λ (r : List ℕ). get_or r 0 0) a b)
    ∙ figures_joined [] [] (numbers_of a) (numbers_of b)

-- room for all is room for those in front, and then for the rest
module _ (counts : List ℕ) (all a b : List (List ℕ)) (is : all ≡ a ++ b) (room : Room counts (error_figures all)) where
  split : Room counts (added (error_figures a) (error_figures b))
  split = rw (ap error_figures is ∙ errors_joined a b) at room

  pub front_room : Room counts (error_figures a)
  front_room = room_first counts (error_figures a) (error_figures b) (figures_long [] _) split

  pub rest_room : Room (added counts (error_figures a)) (error_figures b)
  rest_room = room_rest counts (error_figures a) (error_figures b) (figures_long [] _) split

  pub both_added : added (added counts (error_figures a)) (error_figures b) ≡ added counts (error_figures all)
  both_added =
      added_assoc counts (error_figures a) (error_figures b)
      ∙ ap (λ (r : List ℕ). added counts r) (sym (ap error_figures is ∙ errors_joined a b))

-- ---- what is passed without a piece

pub plain_sound : (e : Encoding) (s : List ℕ) (n : ℕ) → n ≡ run (plain e) s → 0 < n → SoundAt e false s n
plain_sound e s n is some =
    let first = run_first (plain e) s (omega (arith, run_le (plain e) s)) n is some in
    record {
      piece = copy_piece n;
      reads = λ at. plain_piece e at s first ∙ ap copy_piece (sym is);
      takes = refl;
      clean = refl;
      outside = refl;
    }

pub escape_sound : (e : Encoding) (d : Bool) (s : List ℕ) (x : Escape) → Some x ≡ escape_at e s → SoundAt e d s x.take
escape_sound e d s x is =
    record {
      piece = char_piece x.take x.char;
      reads = λ at. good_escape_piece e d at s x is;
      takes = refl;
      clean = refl;
      outside = refl;
    }

-- ---- a body, from piece to piece

module _ (e : Encoding) (t : List ℕ) where
  abbrev Reads : Body → Piece → Type 0
  Reads b p = Turn (piece_of e) b.dropping b.at (body_bytes b t) p

  pub errors_turn : (b : Body) (p : Piece) → Reads b p → errors_left e t b ≡ notes p ++ errors_left e t (body_after b p)
  errors_turn b p turn = rw (left_is e t b p turn) (turn_said (piece_fine e) turn notes_at)

  -- a sound piece is the rule's, and the body after it that of a plain run
  module _ (b : Body) (n : ℕ) (more : 0 < length (body_bytes b t)) (sound : SoundAt e b.dropping (body_bytes b t) n) where
    sound_turn : Reads b sound.piece
    sound_turn = record { more = more; reads = sym (sound.reads b.at) }

    sound_after : body_after b (copy_piece n) ≡ body_after b sound.piece
    sound_after = rw (sound.takes, sound.outside)

    sound_errors : errors_left e t b ≡ errors_left e t (body_after b (copy_piece n))
    sound_errors =
        errors_turn b sound.piece sound_turn
        ∙ ap (λ (r : List (List ℕ)). r ++ errors_left e t (body_after b sound.piece)) (notes_none sound.piece sound.clean)
        ∙ ap (λ (x : Body). errors_left e t x) (sym sound_after)

    pub sound_shorter : length (body_bytes (body_after b (copy_piece n)) t) < length (body_bytes b t)
    sound_shorter =
        let same = ap (λ (x : Body). length (body_bytes x t)) sound_after in
        omega (arith, shorter e t b sound.piece sound_turn)

    pub sound_fits : b.at + n ≤ length t
    sound_fits = omega (arith, (turn_fits e t b sound.piece sound_turn).3, sound.takes)

  -- the counts that held `old` hold `counts`, and the body b is left of the body `start`
  pub record CountedTo (old : List ℕ) (start : Body) (counts : List ℕ) (b : Body) : Type 0 where
    pub within : b.end ≤ length t
    pub room : Room counts (error_figures (errors_left e t b))
    pub whole : added counts (error_figures (errors_left e t b)) ≡ added old (error_figures (errors_left e t start))

  module _ {old : List ℕ} {start : Body} {counts : List ℕ} {b : Body} (so : CountedTo old start counts b) where
    pub count_on : (p : Piece) → Reads b p → (new : List ℕ) → new ≡ added counts (error_figures (notes p))
        → CountedTo old start new (body_after b p)
    count_on p turn new is =
        let left = errors_turn b p turn in
        record {
          within = so.within;
          room = rw is (rest_room counts _ (notes p) _ left so.room);
          whole = rw is (both_added counts _ (notes p) _ left so.room ∙ so.whole);
        }

    pub count_sound : (n : ℕ) → 0 < length (body_bytes b t) → SoundAt e b.dropping (body_bytes b t) n
        → CountedTo old start counts (body_after b (copy_piece n))
    count_sound n more sound =
        let left = ap error_figures (sound_errors b n more sound) in
        record { within = so.within; room = rw left at so.room; whole = rw left at so.whole }

    -- where nothing is left, all is counted
    pub count_end : body_bytes b t ≡ [] → counts ≡ added old (error_figures (errors_left e t start))
    count_end none = sym (none_added counts so.room.long) ∙ rw none at so.whole
