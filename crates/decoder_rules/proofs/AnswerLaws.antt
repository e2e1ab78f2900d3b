-- A call of `decode` that answered gave UTF-8, within the bounds of the text's length.
-- Assumes nothing.
use Rattle.std.specs.Prelude.{Result, Ok, Err, ⊤}
use Prim.Native.Nat.{ℕ, ◌≤◌}
use mathlib.Core.Path.{◌≡◌, refl, sym, ap}
use mathlib.Core.Bool.{Bool, true, false, cond}
use mathlib.Core.List.{List, [], ◌∷◌}
use native.Mathlib.Omega.{arith}
use lib.Dec.{ltb}
use lib.ListN.{length}
use borrow.Author.Tests.{ltb-false}
use Rattle.text.specs.CheckMeans.{check_of}
use Rattle.text_refusals.specs.declared.Refusal.TheVariants.{ShortOutput, FewErrors}
use Rattle.text.proofs.AnswerLaws.{checked}
use Rattle.text_refusals.specs.declared.Refusal.{Refusal}
use Rattle.decoder_rules.specs.declared.Encoding.{Encoding}
use Rattle.decoder_rules.specs.Encodings.{choice_by}
use Rattle.decoder_rules.specs.Decoding.{bytes_of, errors_of, written, fitted, decoded_by, decode_in}
use Rattle.decoder_rules.specs.Told.{decoded_value, decoded_errors}
use Rattle.decoder_rules.specs.Answered.{Answered}
use Rattle.decoder_rules.proofs.Bounds.{bytes_most, bytes_quiet, errors_few}
use Rattle.decoder_rules.proofs.Utf8Laws.{decoded_utf8}

pub nil : {A : Type 0} (l : List A) → length l ≡ 0 → l ≡ []
nil [] h = refl
nil (x ∷ l) h = absurd (omega arith)

fitted_answered : (bs : List ℕ) (es : List (List ℕ)) (o e n m : ℕ) → fitted bs es o e ≡ written n m
    → (n ≡ length bs) × (m ≡ length es) × (n ≤ o) × (m ≤ e)
unfolding fitted
fitted_answered bs es o e n m h = go (ltb o (length bs)) (ltb e (length es)) refl refl h
  where
    go : (x y : Bool) → ltb o (length bs) ≡ x → ltb e (length es) ≡ y
        → cond x (Err (ShortOutput (length bs))) (cond y (Err (FewErrors (length es))) (written (length bs) (length es)))
        ≡ written n m
        → (n ≡ length bs) × (m ≡ length es) × (n ≤ o) × (m ≤ e)
    go true y p q f = let z : ◌≡◌ {A = ℕ} 0 1 = cc in absurd (omega arith)
    go false true p q f = let z : ◌≡◌ {A = ℕ} 0 1 = cc in absurd (omega arith)
    go false false p q f =
        let a : length bs ≡ n = ap decoded_value f in
        let b : length es ≡ m = ap decoded_errors f in
        (sym a, sym b, omega (arith, ltb-false o (length bs) p), omega (arith, ltb-false e (length es) q))

pub decode_answered : (t : List ℕ) (edition kind o e n m : ℕ) → decode_in t edition kind o e ≡ written n m
    → Answered t edition kind o e n m
unfolding decode_in
decode_answered t edition kind o e n m h = go (check_of t) (choice_by edition kind) refl refl h
  where
    go : (x : Result ⊤ Refusal) (y : Result Encoding Refusal) → check_of t ≡ x → choice_by edition kind ≡ y → decoded_by x y t o e ≡ written n m
        → Answered t edition kind o e n m
    go (Err r) y p q f = let z : ◌≡◌ {A = ℕ} 0 1 = cc in absurd (omega arith)
    go (Ok tt) (Err r) p q f = let z : ◌≡◌ {A = ℕ} 0 1 = cc in absurd (omega arith)
    go (Ok tt) (Ok k) p q f =
        let w = fitted_answered (bytes_of k t) (errors_of k t) o e n m f in
        let c = checked t p in
        record {
          check = c;
          encoding = k;
          chosen = q;
          bytes = w.0;
          errors = w.1;
          room = (w.2, w.3);
          utf8 = decoded_utf8 k t c.1;
          most = omega (arith, bytes_most k t, w.0);
          quiet = λ z. omega (arith, bytes_quiet k t (nil (errors_of k t) (omega (arith, w.1))), w.0);
          few = omega (arith, errors_few k t, w.1);
        }
