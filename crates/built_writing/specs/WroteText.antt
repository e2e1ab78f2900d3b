-- What the helpers of `write_value` say of a text that they are to write. Not to be believed: no promise of a public
-- function cites it.
-- Assumes nothing.
use Rattle.std.specs.Prelude.{◌≡◌, ℕ, List, length, Result}
use Rattle.text_refusals.specs.declared.Refusal.{Refusal}
use Rattle.built_writing.specs.Writing.{fit_text, written_after}

-- the answer r for the text and an output that held `old`, and what the output then holds
pub record WroteText (text old : List ℕ) (r : Result ℕ Refusal) (held : List ℕ) : Type 0 where
  pub answer : r ≡ fit_text text (length old)
  pub output : held ≡ written_after r text old
