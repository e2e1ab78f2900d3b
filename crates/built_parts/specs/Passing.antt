-- What the helpers promise: what the check of whole documents says of the characters from a place on, and what a call answers by
-- what it came to. None of it is a rule: no
-- promise of a public function cites it.
-- Assumes nothing.
use Rattle.std.specs.Prelude.{ℕ, ◌+◌, ◌-◌, ◌≤◌, ◌≡◌, cond, List, length, drop, eqb, Result, Ok, Err}
use Rattle.text_refusals.specs.declared.Refusal.{Refusal}
use Rattle.text_refusals.specs.declared.Refusal.TheVariants.{NotUtf8, TooLong}
use Rattle.built_characters.specs.declared.Character.{Character}
use Rattle.built_parts.specs.Checking.{checked, bad}
use Rattle.built_parts.specs.Feeding.{closed, fed}
use Rattle.built_parts.specs.declared.checks.Faulty.{Faulty}
use Rattle.built_parts.specs.declared.Parts.{Parts}
use Rattle.built_parts.specs.declared.Fed.{Fed}

-- where the check stopped, by the length that it returns: 0 where the bytes end inside a character
abbrev pub stopped_at : ℕ → ℕ → Result ℕ Faulty
stopped_at place len = cond (eqb len 0) (Ok place) (Err (record { valid = place; length = len }))

-- from the place i on, whole characters stand up to a place, or a faulty sequence after them
abbrev pub PassedMeans : Character → List ℕ → ℕ → Result ℕ Faulty → Type 0
PassedMeans c s i (Ok e) =
    (i ≤ e) × (e ≤ length s) × ((valid at : ℕ) → checked c valid at (drop i s) ≡ checked c valid (at + (e - i)) (drop e s))
PassedMeans c s i (Err f) =
    (i ≤ f.valid) × (f.valid ≤ length s) × ((valid at : ℕ) → checked c valid at (drop i s) ≡ bad (at + (f.valid - i)) f.length)

-- the state after a refusal: 2 and 1 close it
abbrev pub after_refusal : Parts → Refusal → Parts
after_refusal p TooLong = closed p
after_refusal p (NotUtf8 valid len) = closed p
after_refusal p r = p

-- a call that came to a count and the state after it, or to a refusal
abbrev pub answered_by : Parts → Result (ℕ × Parts) Refusal → Fed
answered_by p (Ok x) = fed (Ok x.0) x.1
answered_by p (Err r) = fed (Err r) (after_refusal p r)
