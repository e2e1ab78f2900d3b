-- A text that is opened has all its bytes and errors in its marks and its body.
-- Assumes nothing.
use Prim.Native.Nat.{ℕ, ◌≤◌}
use mathlib.Core.Path.{◌≡◌, refl, sym, ◌∙◌}
use mathlib.Core.Bool.{false}
use mathlib.Core.List.{List, ◌++◌}
use native.Mathlib.Omega.{arith}
use lib.ListN.{length, length-take, length-drop}
use Rattle.decoder_rules.specs.declared.Encoding.{Encoding}
use Rattle.decoder_rules.specs.Pieces.{notes_of}
use Rattle.decoder_rules.specs.Marks.{ends_of}
use Rattle.decoder_rules.specs.Decoding.{bytes_of, errors_of}
use Rattle.decoder_rules.proofs.MarkLaws.{ends_fit}
use Rattle.decoder_pieces.specs.Steps.{body_bytes, bytes_left, errors_left}
use Rattle.decoder_pieces.proofs.StepLaws.{walk_said, walk_ends}
use Rattle.decoder_marks.specs.declared.Opened.{Opened}
use Rattle.decoder_marks.specs.Opening.{opened_of}
use Rattle.decoder_marks.specs.Texts.{TextRead}

module _ (e : Encoding) (t : List ℕ) (o : Opened) (is : o ≡ opened_of e t) where
  pub opened_bytes : bytes_of e t ≡ bytes_left e t o.body
  unfolding bytes_of opened_of
  opened_bytes = rw is

  pub opened_errors : errors_of e t ≡ notes_of o.opening ++ (notes_of o.closing ++ errors_left e t o.body)
  unfolding errors_of opened_of
  opened_errors = rw is

  -- the body lies within the text, and begins outside a line-ending escape
  pub opened_fits : (o.body.at ≤ o.body.end) × (o.body.end ≤ length t)
  unfolding opened_of
  opened_fits = rw is (ends_fit e t (ends_of e t) refl)

  pub opened_outside : o.body.dropping ≡ false
  unfolding opened_of
  opened_outside = rw is

pub text_read : (e : Encoding) (t : List ℕ) → TextRead e t
text_read e t =
    let o = opened_of e t in
    record {
      walked = walk_ends e t o.body;
      said = λ bytes errors count w.
          let whole = walk_said e t w in
          let size : length (body_bytes o.body t) ≤ length t = rw (length-take, length-drop) (omega arith) in
          record {
            bytes_are = whole.0 ∙ sym (opened_bytes e t o refl);
            errors_are = rw whole.1 (sym (opened_errors e t o refl));
            few = omega (arith, whole.2);
          };
    }
