-- What the helpers promise: the tokens that are whole within a part. None of it is a rule: no promise of a public function
-- cites it.
-- Assumes nothing.
use Rattle.std.specs.Prelude.{ℕ, ◌+◌, ◌-◌, ◌≤◌, ◌≡◌, List, map, length, drop}
use Rattle.std.proofs.lemmas.List.Edits.{sets}
use Rattle.lexer_token.specs.Records.{record_of}
use Rattle.built_lexing.specs.declared.whole.Passed.{Passed}
use Rattle.built_lexing.specs.declared.states.Lexing.{Lexing}
use Rattle.built_lexing.specs.States.{given_by, state_after}

-- from the place i on with n tokens stored, and from the place j on with k: the same tokens are stored in the end, and the same
-- state comes after them
pub record Onward (l : Lexing) (s : List ℕ) (i n : ℕ) (old : List (List ℕ)) (m : Lexing) (j k : ℕ) (new : List (List ℕ)) : Type 0 where
  pub forward : i ≤ j
  pub within : j ≤ length s
  pub at : m.at ≡ l.at + (j - i)
  pub low : m.line ≤ m.at + 1
  pub count : k + length (given_by m (drop j s)) ≡ n + length (given_by l (drop i s))
  pub room : length new ≡ length old
  pub stores : sets new k (map record_of (given_by m (drop j s))) ≡ sets old n (map record_of (given_by l (drop i s)))
  pub after : state_after l (drop i s) ≡ state_after m (drop j s)

abbrev pub PassedTo : Lexing → List ℕ → ℕ → ℕ → List (List ℕ) → Passed → List (List ℕ) → Type 0
PassedTo l s i n old r new = Onward l s i n old r.next r.place r.count new
