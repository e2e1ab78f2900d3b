-- What the helpers of `write_value` say of a value that is measured before it is written. Not to be believed: no promise of
-- a public function cites it.
-- Assumes nothing.
use Rattle.std.specs.Prelude.{◌≡◌, ℕ, ◌+◌, ◌<◌, ◌≤◌, Bool, not, ◌&&◌, cond, List, length, ◌==◌, ◌≢◌, nat_lt, Result, Ok, Err}
use Rattle.text_classes.specs.Classes.{literal_char}
use Rattle.text_classes.specs.Runs.{run}
use Rattle.text_refusals.specs.declared.Refusal.{Refusal}
use Rattle.text_refusals.specs.declared.Refusal.TheVariants.{ShortOutput}
use Rattle.built_writing.specs.Writing.{spelt, written}
use Rattle.built_writing.specs.declared.weigh.Front.{Front}
use Rattle.built_writing.specs.declared.Plan.{Plan}
use Rattle.built_writing.specs.declared.Plan.TheVariants.{Literal, Basic}

-- a control character but the tab
abbrev pub control : ℕ → Bool
control b = nat_lt b 0x20 && not (b == 0x09)

-- bytes that a literal string could hold are passed over, and counted: what is counted and what is left are as many bytes in
-- a basic string, and the run of such bytes ends where it did
pub record Passed (rest : List ℕ) (n : ℕ) (rest' : List ℕ) (n' : ℕ) : Type 0 where
  pub left : n' + length (spelt rest') ≡ n + length (spelt rest)
  pub same : run literal_char rest + length rest' ≡ length rest + run literal_char rest'

abbrev pub Onward : Front → Front → Type 0
Onward a b = Passed a.rest.now a.bytes b.rest.now b.bytes

-- the plan, where the n bytes that it writes fit into so many
abbrev pub fitting : Plan → ℕ → ℕ → Result Plan Refusal
fitting plan n room = cond (nat_lt room n) (Err (ShortOutput n)) (Ok plan)

-- what is to be written into so many bytes: each kind where it is the kind, and fits
abbrev pub Planned : List ℕ → ℕ → Result Plan Refusal → Type 0
Planned value room (Ok Literal) = (run literal_char value ≡ length value) × (length value + 2 ≤ room)
Planned value room (Ok Basic) = (run literal_char value ≢ length value) × (length (spelt value) + 2 ≤ room)
Planned value room (Err r) = (r ≡ ShortOutput (length (written value))) × (room < length (written value))
