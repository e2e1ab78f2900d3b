-- What the call answers: refused by the check or for its edition, for a text or records that do not fit, or written.
-- Assumes nothing.
use Prim.Native.Nat.{ℕ, ◌≤◌, ◌<◌}
use mathlib.Core.Path.{◌≡◌, refl}
use mathlib.Core.Bool.{true, false}
use mathlib.Core.List.{List}
use native.Mathlib.Omega.{arith}
use borrow.Author.Tests.{lt-ltb, le-ltb}
use lib.ListN.{length}
use Rattle.text_refusals.specs.Refusals.{limit}
use Rattle.text_refusals.specs.declared.Refusal.{Refusal}
use Rattle.text_refusals.specs.declared.Refusal.TheVariants.{TooLong, ShortOutput, FewErrors, NoEdition}
use Rattle.text.specs.CheckMeans.{check_of}
use Rattle.std.specs.Prelude.{Result, Ok, Err, ⊤}
use Rattle.decoder_rules.specs.Encodings.{is_edition}
use Rattle.decoder_rules.proofs.StoreLaws.{Stored, overwritten}
use Rattle.built_mending.specs.declared.Mended.{Mended}
use Rattle.built_mending.specs.Mending.{mended, listed, fit_both, mend_in, mended_after}
use Rattle.built_mending.specs.Passes.{WroteBoth}

-- ---- a text of n bytes and m records, for memory that held `out` and `recs`

module _ (text : List ℕ) (new : List (List ℕ)) (out : List ℕ) (recs : List (List ℕ)) (n m : ℕ) (is : n ≡ length text) where
  pub wrote_long : limit < n → WroteBoth text new out recs (Err TooLong) out recs
  unfolding fit_both
  wrote_long h = record { answer = rw (← is, lt-ltb limit n h); output = refl; records = refl }

  module _ (within : n ≤ limit) where
    pub wrote_short : length out < n → WroteBoth text new out recs (Err (ShortOutput n)) out recs
    unfolding fit_both
    wrote_short h =
        record { answer = rw (← is, le-ltb limit n within, lt-ltb (length out) n h); output = refl; records = refl }

    module _ (fits : n ≤ length out) (are : m ≡ length new) where
      pub wrote_few : length recs < m → WroteBoth text new out recs (Err (FewErrors m)) out recs
      unfolding fit_both
      wrote_few h =
          record {
            answer = rw (← is, ← are, le-ltb limit n within, le-ltb (length out) n fits, lt-ltb (length recs) m h);
            output = refl;
            records = refl;
          }

      pub wrote_both : m ≤ length recs → {held : List ℕ} {list : List (List ℕ)} → Stored out 0 text n held
          → Stored recs 0 new m list → WroteBoth text new out recs (Ok (record { bytes = n; records = m })) held list
      unfolding fit_both
      wrote_both h stored Listed-in =
          record {
            answer = rw (← is, ← are, le-ltb limit n within, le-ltb (length out) n fits, le-ltb (length recs) m h);
            output = overwritten stored (omega arith);
            records = overwritten Listed-in (omega arith);
          }

-- ---- the call

-- a call that is refused leaves the memory as it was
pub untouched : {A : Type 0} (r : Result Mended Refusal) (x : Refusal) → r ≡ Err x → (new old : List A) → old ≡ mended_after r new old
untouched r x e new old = rw e refl

module _ (doc : List ℕ) (edition o m : ℕ) where
  pub answer_refused : (r : Refusal) → Err r ≡ check_of doc → Err r ≡ mend_in doc edition o m
  unfolding mend_in
  answer_refused r e = rw (← e)

  pub answer_unnamed : Ok tt ≡ check_of doc → is_edition edition ≡ false → Err (NoEdition edition) ≡ mend_in doc edition o m
  unfolding mend_in
  answer_unnamed e f = rw (← e, f)

  pub answer_mended : Ok tt ≡ check_of doc → is_edition edition ≡ true
      → fit_both (mended edition doc) (listed edition doc) o m ≡ mend_in doc edition o m
  unfolding mend_in
  answer_mended e f = rw (← e, f)
