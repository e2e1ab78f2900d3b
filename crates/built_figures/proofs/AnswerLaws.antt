-- What a document adds and what becomes of it, by its length and by the check; and what is answered, by whether the sums fit.
-- Assumes nothing.
use Prim.Native.Nat.{ℕ, ◌≤◌, ◌<◌}
use mathlib.Core.Path.{◌≡◌}
use mathlib.Core.Bool.{true, false}
use mathlib.Core.List.{List}
use borrow.Author.Tests.{lt-ltb, le-ltb}
use lib.ListN.{length}
use Rattle.text_refusals.specs.declared.Refusal.TheVariants.{TotalFull}
use Rattle.text.specs.CheckMeans.{check_of}
use Rattle.std.specs.Prelude.{Result, Err, ⊤}
use Rattle.text_refusals.specs.declared.Refusal.{Refusal}
use Rattle.built_figures.specs.declared.NotAdded.{NotAdded}
use Rattle.built_figures.specs.declared.NotAdded.TheVariants.{TooLong, Refused}
use Rattle.built_figures.specs.declared.Tallied.{Tallied}
use Rattle.built_figures.specs.Figures.{most, refused_figures, figures_by, figures_of, verdict_by, verdict_on, added, all_fit, tallied}

module _ (doc : List ℕ) where
  -- a document that is too long
  pub long : most < length doc → record { verdict : verdict_on doc ≡ Err TooLong; figures : figures_of doc ≡ refused_figures 0 1 }
  unfolding verdict_on figures_of
  long h = let e = lt-ltb most (length doc) h in record { verdict = rw e; figures = rw e }

  -- any other, by the check's answer
  pub short : length doc ≤ most → (u : Result ⊤ Refusal) → check_of doc ≡ u → record { verdict : verdict_on doc ≡ verdict_by u; figures : figures_of doc ≡ figures_by u doc }
  unfolding verdict_on figures_of
  short h u is = let e = le-ltb most (length doc) h in record { verdict = rw (e, is); figures = rw (e, is) }

  -- the answer
  abbrev pub outcome : Result ⊤ NotAdded → List ℕ → Tallied
  outcome answer totals = record { answer = answer; totals = totals }

  module _ (totals : List ℕ) (verdict : Result ⊤ NotAdded) (figures : List ℕ) (is : record { verdict : verdict ≡ verdict_on doc; figures : figures ≡ figures_of doc }) where
    pub answered : all_fit (added totals figures) ≡ true → outcome verdict (added totals figures) ≡ tallied doc totals
    unfolding tallied
    answered fit = rw (← is.verdict, ← is.figures, fit)

    pub refused : all_fit (added totals figures) ≡ false → outcome (Err (Refused TotalFull)) totals ≡ tallied doc totals
    unfolding tallied
    refused full = rw (← is.figures, full)
