-- What the helpers promise: whether records suffice for a part. None of it is a rule: no promise of a public function cites it.
-- Assumes nothing.
use Rattle.std.specs.Prelude.{ℕ, ◌≤◌, ◌<◌, ◌≡◌, ⊤, Result, Ok, Err}
use Rattle.built_lexing.specs.declared.NotLexed.{NotLexed}
use Rattle.built_lexing.specs.declared.NotLexed.TheVariants.{Few}

-- `room` records suffice for n tokens, or they are fewer, and the refusal says how many there are
abbrev pub RoomFor : ℕ → ℕ → Result ⊤ NotLexed → Type 0
RoomFor n room (Ok t) = n ≤ room
RoomFor n room (Err r) = (room < n) × (r ≡ Few n)
