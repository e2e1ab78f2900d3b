-- What the helpers promise: where a leap over the token in progress arrives. None of it is a rule: no promise of a public function
-- cites it.
-- Assumes nothing.
use Rattle.std.specs.Prelude.{ℕ, ◌+◌, ◌-◌, ◌≤◌, ◌≡◌, List, ◌++◌, length, drop}
use Rattle.built_lexing.specs.declared.ahead.Leapt.{Leapt}
use Rattle.built_lexing.specs.declared.states.Lexing.{Lexing}
use Rattle.built_lexing.specs.States.{tokens_in, given_by, state_after}

-- from the place i on and from the place after a leap on, the same is given and the same state comes after it, but for the
-- token that was taken whole
pub record LeaptTo (l : Lexing) (s : List ℕ) (i : ℕ) (r : Leapt) : Type 0 where
  pub forward : i ≤ r.place
  pub within : r.place ≤ length s
  pub at : r.next.at ≡ l.at + (r.place - i)
  pub low : r.next.line ≤ r.next.at + 1
  pub gives : given_by l (drop i s) ≡ tokens_in r.given ++ given_by r.next (drop r.place s)
  pub after : state_after l (drop i s) ≡ state_after r.next (drop r.place s)
