-- STATEMENT. What the length that is returned with a refusal tells. Proved in proofs/MendLaws.antt.
-- Assumes nothing.
use Rattle.std.specs.Prelude.{ℕ, ◌≤◌, Err}
use mathlib.Core.{Path.◌≡◌, Logic.◌↔◌, List.List, List.◌++◌}
use Rattle.text_refusals.specs.{Refusals.refusal_number, Refusals.refusal_length}
use Rattle.text_scalars.specs.{Utf8.Utf8}
use Rattle.text.specs.{CheckMeans.CheckMeans}
use Rattle.text_refusals.specs.declared.{Refusal.Refusal, Refusal.TheVariants.NotUtf8}

-- some further bytes would mend the text
abbrev pub Mendable : List ℕ → Type 0
Mendable s = (more : List ℕ) × Utf8 (s ++ more)

-- `length_tells`: with refusal 1 the length is at most 3, and 0 exactly where some further bytes would mend the text
abbrev pub LengthTells : Type 0
LengthTells = (s : List ℕ) (n r : ℕ) → CheckMeans s (Err (NotUtf8 n r)) → (r ≤ 3) × ((r ≡ 0) ↔ Mendable s)

-- `length_else`: with every other refusal the length is 0
abbrev pub LengthElse : Type 0
LengthElse = (r : Refusal) → (refusal_number r ≡ 1 → ⊥) → refusal_length r ≡ 0
