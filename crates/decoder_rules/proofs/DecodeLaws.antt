-- The bytes and the errors of a text whose ends are known, and the call's answer case by case.
-- Assumes nothing.
use Rattle.std.specs.Prelude.{Ok, Err}
use Prim.Native.Nat.{ℕ, ◌≤◌, ◌<◌}
use mathlib.Core.Path.{◌≡◌}
use mathlib.Core.Bool.{false}
use mathlib.Core.List.{List, ◌++◌}
use native.Mathlib.Omega.{arith}
use lib.ListN.{length}
use borrow.Author.Tests.{lt-ltb, le-ltb}
use Rattle.text.specs.CheckMeans.{check_of}
use Rattle.text_refusals.specs.declared.Refusal.{Refusal}
use Rattle.text_refusals.specs.declared.Refusal.TheVariants.{ShortOutput, FewErrors}
use Rattle.decoder_rules.specs.declared.Encoding.{Encoding}
use Rattle.decoder_rules.specs.declared.Ends.{Ends}
use Rattle.decoder_rules.specs.declared.DecodeError.{DecodeError}
use Rattle.decoder_rules.specs.Encodings.{choice_by, mark_error}
use Rattle.decoder_rules.specs.Pieces.{gives, notes_of, notes_at, collect}
use Rattle.decoder_rules.specs.Bodies.{piece_of}
use Rattle.decoder_rules.specs.Marks.{ends_of, body_of}
use Rattle.decoder_rules.specs.Decoding.{bytes_of, missing, errors_of, written, fitted, decoded_by, decode_in}

module _ (k : Encoding) (t : List ℕ) (d : Ends) (e : d ≡ ends_of k t) where
  pub bytes_is : bytes_of k t ≡ collect (piece_of k) gives 0 false d.start (body_of d t)
  unfolding bytes_of
  bytes_is = rw e

  pub errors_is : (n : DecodeError) → n ≡ mark_error k
      → errors_of k t
      ≡ notes_of (missing d.opened n 0)
      ++ (notes_of (missing d.closed n (length t)) ++ collect (piece_of k) notes_at 0 false d.start (body_of d t))
  unfolding errors_of
  errors_is n h = rw (e, h)

-- ---- refusals 4 and 5

module _ (bytes : List ℕ) (errors : List (List ℕ)) (o e : ℕ) where
  pub fitted_short : (n : ℕ) → n ≡ length bytes → o < n → Err (ShortOutput n) ≡ fitted bytes errors o e
  unfolding fitted
  fitted_short n h l = rw h (simp (lt-ltb o (length bytes) (omega arith)))

  pub fitted_few : (n m : ℕ) → n ≡ length bytes → m ≡ length errors → n ≤ o → e < m → Err (FewErrors m) ≡ fitted bytes errors o e
  unfolding fitted
  fitted_few n m h k l r = rw k (simp (le-ltb o (length bytes) (omega arith), lt-ltb e (length errors) (omega arith)))

  pub fitted_written : (n m : ℕ) → n ≡ length bytes → m ≡ length errors → n ≤ o → m ≤ e → written n m ≡ fitted bytes errors o e
  unfolding fitted
  fitted_written n m h k l r =
      rw (h, k) (simp (le-ltb o (length bytes) (omega arith), le-ltb e (length errors) (omega arith)))

-- ---- refusals 2 and 1, then 7 and 9

module _ (t : List ℕ) (edition kind o e : ℕ) where
  pub decode_invalid : (r : Refusal) → Err r ≡ check_of t → Err r ≡ decode_in t edition kind o e
  unfolding decode_in
  decode_invalid r h = rw (← h)

  pub decode_valid : Ok tt ≡ check_of t → decoded_by (Ok tt) (choice_by edition kind) t o e ≡ decode_in t edition kind o e
  unfolding decode_in
  decode_valid h = rw (← h)
