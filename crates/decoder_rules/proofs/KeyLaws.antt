-- A plain key decodes to itself: it is ASCII, so it passes the check, and all of it stands for itself.
-- Assumes nothing.
use Prim.Native.Nat.{ℕ, zero, suc, ◌-◌, ◌≤◌, ◌<◌}
use mathlib.Core.Path.{◌≡◌, refl, sym, ap, ◌∙◌}
use mathlib.Core.Logic.{inl, inr}
use mathlib.Core.Bool.{Bool, true, false}
use mathlib.Core.List.{List, [], ◌∷◌, ◌++◌}
use Rattle.std.specs.Prelude.{Option, MatchOption, Ok}
use native.Mathlib.Omega.{arith}
use borrow.Author.Tests.{lt-ltb}
use lib.ListN.{length, take, drop, get_or}
use lib.Seq.{take_all}
use Rattle.text_classes.specs.Runs.{run}
use Rattle.text_classes.proofs.Conds.{cond_case}
use Rattle.text_classes.proofs.RunLaws.{run_step, run_first}
use Rattle.text_refusals.specs.Refusals.{limit}
use Rattle.text_scalars.specs.Utf8Read.{ascii}
use Rattle.text.specs.CheckMeans.{check_of}
use Rattle.text.proofs.AnswerLaws.{answer_ascii}
use Rattle.decoder_rules.specs.declared.Encoding.TheVariants.{UnquotedKey}
use Rattle.decoder_rules.specs.Encodings.{plain, choice_in, choice_by}
use Rattle.decoder_rules.specs.Marks.{key_ends}
use Rattle.decoder_rules.specs.Decoding.{bytes_of, errors_of}
use Rattle.decoder_rules.proofs.AsciiLaws.{unquoted_low}
use Rattle.decoder_rules.proofs.PlainLaws.{run_all, plain_text, Named, Decodes}

-- where the run is the whole, every byte passes the test
run_each : (p : ℕ → Bool) (s : List ℕ) → run p s ≡ length s → (k : ℕ) → k < length s → p (get_or s k 0) ≡ true
run_each p [] e k h = absurd (omega arith)
run_each p (b ∷ s) e zero h = run_first p (b ∷ s) (omega arith) (suc (length s)) (sym e) (omega arith)
run_each p (b ∷ s) e (suc k) h =
    let first = run_first p (b ∷ s) (omega arith) (suc (length s)) (sym e) (omega arith) in
    run_each p s (omega (arith, run_step p (b ∷ s) 0 (omega arith) first)) k (omega arith)

-- a key within the limit, all of which stands for itself
pub record PlainKey (t : List ℕ) : Type 0 where
  pub few : length t ≤ limit
  pub some : 0 < length t
  pub all : run (plain UnquotedKey) t ≡ length t

module _ (t : List ℕ) (key : PlainKey t) where
  key_ascii : (k : ℕ) → k < length t → ascii (get_or t k 0) ≡ true
  key_ascii k h = lt-ltb (get_or t k 0) 0x80 (unquoted_low (get_or t k 0) (run_each (plain UnquotedKey) t key.all k h))

  key_valid : Ok tt ≡ check_of t
  key_valid = answer_ascii t key.few (run_all ascii t key_ascii)

  -- its body is all of it
  whole : take (length t - 0) (drop 0 t) ≡ t
  whole = take_all (length t - 0) t (omega arith)

  key_ends_lem : record { opened = true; closed = true; start = 0; end = length t } ≡ key_ends t
  unfolding key_ends
  key_ends_lem = rw (lt-ltb 0 (length t) key.some)

  chosen_key : (edition kind : ℕ) → Named edition → kind ≡ 3 → choice_by edition kind ≡ Ok UnquotedKey
  unfolding choice_by choice_in
  chosen_key edition kind (inl e) k = simp (e, k)
  chosen_key edition kind (inr e) k = simp (e, k)

  pub key_decodes : (edition kind : ℕ) → Named edition → kind ≡ 3 → Decodes t edition kind t
  key_decodes edition kind named k =
      let r = plain_text UnquotedKey t 0 (length t) key_ends_lem (rw whole key.all) in
      record { valid = key_valid; encoding = UnquotedKey; chosen = chosen_key edition kind named k; bytes = r.0 ∙ whole; errors = r.1 }

-- ---- what is copied of it

-- t is a plain key, and all of it, n bytes, is copied to the front of memory that held `old`, which has room
pub record WholeCopied (t old out : List ℕ) (n : ℕ) : Type 0 where
  pub key : PlainKey t
  pub size : n ≡ length t
  pub room : n ≤ length old
  pub holds : out ≡ t ++ drop n old
