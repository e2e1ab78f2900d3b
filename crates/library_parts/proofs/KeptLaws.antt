-- A state's numbers stand for that state: of each mode by computing, of a character in progress because more than none of its
-- bytes are still to come and the bounds of the next are bytes, which holds from the first call on.
use Prim.Native.Nat.{ℕ, ◌+◌, ◌-◌}
use Rattle.std.specs.Prelude.{Option, Some, None, Result, Ok, Err}
use native.Mathlib.Omega.{arith}
use mathlib.Core.Path.{◌≡◌, refl}
use mathlib.Core.Bool.{Bool, true, false, cond}
use mathlib.Core.List.{List, [], ◌∷◌}
use lib.Dec.{eqb, ltb}
use lib.ListN.{length, get_or}
use borrow.Author.Tests.{ne_eqb, ltb-false}
use Rattle.text_classes.proofs.Conds.{cond_case}
use Rattle.text_refusals.specs.Refusals.{limit}
use Rattle.text_characters.specs.Lead.{lead_of}
use Rattle.lexer.specs.Told.{bit_of}
use Rattle.built_bytes.specs.declared.Quote.TheVariants.{Apostrophe, Quotation}
use Rattle.built_bytes.specs.declared.Mode.{Mode}
use Rattle.built_bytes.specs.declared.Mode.TheVariants.{Start, Bom1, Bom2, Idle, Blanks, Remark, Word, Return, One, Two, Line, Ml, MlOne, MlTwo, Shut, ShutOne}
use Rattle.built_characters.specs.Characters.{led, led_by, as_asked, character_turn}
use Rattle.built_characters.specs.declared.Character.{Character}
use Rattle.built_characters.specs.declared.Character.TheVariants.{Whole, Begun}
use Rattle.built_lexing.specs.States.{given_by, last_tokens}
use Rattle.built_parts.specs.Checking.{checked_by, on_good, valid_at, checked}
use Rattle.built_parts.specs.Feeding.{no_parts, closed, is_over, checked_from, feed_checked, feed_of, close_checked, close_of}
use Rattle.built_parts.specs.declared.checks.Checked.{Checked}
use Rattle.built_parts.specs.declared.checks.Faulty.{Faulty}
use Rattle.built_parts.specs.declared.Parts.{Parts}
use Rattle.built_parts.specs.declared.Fed.{Fed}
use Rattle.library_parts.specs.Numbers.{mode_number, mode_of, left_of, low_of, high_of, byte_from, character_from, is_ended, state_numbers, parts_from}
use Rattle.library_parts.specs.Kept.{Kept, StatesKept}

-- ---- modes

pub mode_kept : (m : Mode) → mode_of (mode_number m) ≡ m
unfolding mode_of mode_number
mode_kept Start = refl
mode_kept Bom1 = refl
mode_kept Bom2 = refl
mode_kept Idle = refl
mode_kept Blanks = refl
mode_kept Remark = refl
mode_kept Word = refl
mode_kept Return = refl
mode_kept (One Apostrophe) = refl
mode_kept (One Quotation) = refl
mode_kept (Two Apostrophe) = refl
mode_kept (Two Quotation) = refl
mode_kept (Line Apostrophe false) = refl
mode_kept (Line Quotation false) = refl
mode_kept (Line Apostrophe true) = refl
mode_kept (Line Quotation true) = refl
mode_kept (Ml Apostrophe false) = refl
mode_kept (Ml Quotation false) = refl
mode_kept (Ml Apostrophe true) = refl
mode_kept (Ml Quotation true) = refl
mode_kept (MlOne Apostrophe) = refl
mode_kept (MlOne Quotation) = refl
mode_kept (MlTwo Apostrophe) = refl
mode_kept (MlTwo Quotation) = refl
mode_kept (Shut Apostrophe) = refl
mode_kept (Shut Quotation) = refl
mode_kept (ShutOne Apostrophe) = refl
mode_kept (ShutOne Quotation) = refl

-- the number of a mode is none that ends a state
pub mode_known : (m : Mode) → ltb 27 (mode_number m) ≡ false
unfolding mode_number
mode_known Start = refl
mode_known Bom1 = refl
mode_known Bom2 = refl
mode_known Idle = refl
mode_known Blanks = refl
mode_known Remark = refl
mode_known Word = refl
mode_known Return = refl
mode_known (One Apostrophe) = refl
mode_known (One Quotation) = refl
mode_known (Two Apostrophe) = refl
mode_known (Two Quotation) = refl
mode_known (Line Apostrophe false) = refl
mode_known (Line Quotation false) = refl
mode_known (Line Apostrophe true) = refl
mode_known (Line Quotation true) = refl
mode_known (Ml Apostrophe false) = refl
mode_known (Ml Quotation false) = refl
mode_known (Ml Apostrophe true) = refl
mode_known (Ml Quotation true) = refl
mode_known (MlOne Apostrophe) = refl
mode_known (MlOne Quotation) = refl
mode_known (MlTwo Apostrophe) = refl
mode_known (MlTwo Quotation) = refl
mode_known (Shut Apostrophe) = refl
mode_known (Shut Quotation) = refl
mode_known (ShutOne Apostrophe) = refl
mode_known (ShutOne Quotation) = refl

ended_kept : (b : Bool) (m : Mode) → is_ended (bit_of b) (mode_number m) ≡ b
ended_kept true m = refl
ended_kept false m = mode_known m

-- ---- characters in progress

abbrev IsByte : ℕ → Type 0
IsByte n = ltb n 256 ≡ true

-- bytes are still to come, and the bounds of the next are bytes
abbrev Asks : Character → Type 0
Asks Whole = Unit {0}
Asks (Begun left low high) = (eqb left 0 ≡ false) × IsByte low × IsByte high

character_kept : (c : Character) → Asks c → character_from (left_of c) (low_of c) (high_of c) ≡ c
character_kept Whole h = refl
character_kept (Begun left low high) h = simp (h.0, h.1, h.2)

byte_from_lem : (n : ℕ) → IsByte (byte_from n)
byte_from_lem n = cond_case IsByte (ltb n 256) (λ e. e) (λ _. refl)

from_asks : (left low high : ℕ) → Asks (character_from left low high)
from_asks left low high = cond_case Asks (eqb left 0) (λ _. tt) (λ e. (e, byte_from_lem low, byte_from_lem high))

-- a byte more leaves it so
abbrev TurnAsks : Option Character → Type 0
TurnAsks (Some c) = Asks c
TurnAsks None = Unit {0}

by_test : {P : Type 0} (t : Bool) → (t ≡ true → P) → (t ≡ false → P) → P
by_test true f g = f refl
by_test false f g = g refl

lead_bytes : (b : ℕ) → IsByte (lead_of b).1 × IsByte (lead_of b).2
unfolding lead_of
lead_bytes b =
    by_test (ltb b 0x80) (λ e0. simp e0 (refl, refl))
    (λ e0. by_test (ltb b 0xC2) (λ e1. simp (e0, e1) (refl, refl))
    (λ e1. by_test (ltb b 0xE0) (λ e2. simp (e0, e1, e2) (refl, refl))
    (λ e2. by_test (ltb b 0xE1) (λ e3. simp (e0, e1, e2, e3) (refl, refl))
    (λ e3. by_test (ltb b 0xED) (λ e4. simp (e0, e1, e2, e3, e4) (refl, refl))
    (λ e4. by_test (ltb b 0xEE) (λ e5. simp (e0, e1, e2, e3, e4, e5) (refl, refl))
    (λ e5. by_test (ltb b 0xF0) (λ e6. simp (e0, e1, e2, e3, e4, e5, e6) (refl, refl))
    (λ e6. by_test (ltb b 0xF1) (λ e7. simp (e0, e1, e2, e3, e4, e5, e6, e7) (refl, refl))
    (λ e7. by_test (ltb b 0xF4) (λ e8. simp (e0, e1, e2, e3, e4, e5, e6, e7, e8) (refl, refl))
    (λ e8. by_test (ltb b 0xF5) (λ e9. simp (e0, e1, e2, e3, e4, e5, e6, e7, e8, e9) (refl, refl))
    (λ e9. simp (e0, e1, e2, e3, e4, e5, e6, e7, e8, e9) (refl, refl)))))))))))

-- one fewer than two or more is not none
one_fewer : (n : ℕ) → ltb n 2 ≡ false → eqb (n - 1) 0 ≡ false
one_fewer n e = ne_eqb (n - 1) 0 (λ z. omega (arith, ltb-false n 2 e, z))

led_asks : (b : ℕ) → TurnAsks (led_by b)
unfolding led_by
led_asks b =
    cond_case TurnAsks (ltb (lead_of b).0 1) (λ _. tt)
    (λ _. cond_case TurnAsks (ltb (lead_of b).0 2) (λ _. tt) (λ e. (one_fewer (lead_of b).0 e, (lead_bytes b).0, (lead_bytes b).1)))

turn_asks : (c : Character) (b : ℕ) → TurnAsks (character_turn c b)
unfolding character_turn
turn_asks Whole b = led_asks b
turn_asks (Begun left low high) b =
    cond_case TurnAsks (ltb b low) (λ _. tt)
    (λ _. cond_case TurnAsks (ltb high b) (λ _. tt)
    (λ _. cond_case Asks (ltb left 2) (λ _. tt) (λ e. (one_fewer left e, refl, refl))))

-- and so do the bytes of a part
abbrev CheckedAsks : Result Checked Faulty → Type 0
CheckedAsks (Ok g) = Asks g.character
CheckedAsks (Err b) = Unit {0}

then_asks : (t : Option Character) (valid at : ℕ) (f : Character → ℕ → Result Checked Faulty) → TurnAsks t
    → ((c : Character) (v : ℕ) → Asks c → CheckedAsks (f c v)) → CheckedAsks (on_good (checked_by t valid at) f)
then_asks (Some c) valid at f h g = g c valid h
then_asks None valid at f h g = tt

checked_asks : (s : List ℕ) (c : Character) (valid at : ℕ) → Asks c → CheckedAsks (checked c valid at s)
unfolding checked
checked_asks [] c valid at h = h
checked_asks (b ∷ s) c valid at h =
    then_asks (character_turn c b) (valid_at c valid at) at (λ d v. checked d v (at + 1) s) (turn_asks c b)
    (λ d v k. checked_asks s d v (at + 1) k)

-- ---- states

abbrev PartsAsk : Parts → Type 0
PartsAsk p = Asks p.character

abbrev FedAsks : Fed → Type 0
FedAsks f = PartsAsk f.parts

parts_kept : (p : Parts) → PartsAsk p → Kept p
unfolding state_numbers parts_from
parts_kept p h =
    rw (
      mode_kept p.lexing.mode,
      character_kept p.character h,
      ended_kept p.ended p.lexing.mode,
    )

parts_ask : (numbers : List ℕ) → PartsAsk (parts_from numbers)
unfolding parts_from
parts_ask numbers = from_asks (get_or numbers 5 0) (get_or numbers 6 0) (get_or numbers 7 0)

part_asks : (k : Result Checked Faulty) (p : Parts) (s : List ℕ) (room : ℕ) → PartsAsk p → CheckedAsks k → FedAsks (feed_checked k p s room)
part_asks (Err b) p s room h k = h
part_asks (Ok g) p s room h k = cond_case FedAsks (ltb room (length (given_by p.lexing s))) (λ _. h) (λ _. k)

feed_asks : (p : Parts) (s : List ℕ) (room : ℕ) → PartsAsk p → FedAsks (feed_of p s room)
unfolding feed_of
feed_asks p s room h =
    cond_case FedAsks (is_over p) (λ _. h)
    (λ _. cond_case FedAsks (ltb limit (p.lexing.at + length s)) (λ _. h)
    (λ _. part_asks (checked_from p s) p s room h (checked_asks s p.character p.valid p.lexing.at h)))

last_asks : (c : Character) (p : Parts) (room : ℕ) → PartsAsk p → FedAsks (close_checked c p room)
last_asks (Begun left low high) p room h = h
last_asks Whole p room h = cond_case FedAsks (ltb room (length (last_tokens p.lexing))) (λ _. h) (λ _. h)

close_asks : (p : Parts) (room : ℕ) → PartsAsk p → FedAsks (close_of p room)
unfolding close_of
close_asks p room h =
    cond_case FedAsks (is_over p) (λ _. h)
    (λ _. cond_case FedAsks (ltb limit p.lexing.at) (λ _. h) (λ _. last_asks p.character p room h))

pub states_kept : StatesKept
states_kept =
    record {
      start = parts_kept no_parts tt;
      feed = λ numbers part room.
          parts_kept (feed_of (parts_from numbers) part room).parts (feed_asks (parts_from numbers) part room (parts_ask numbers));
      close = λ numbers room.
          parts_kept (close_of (parts_from numbers) room).parts (close_asks (parts_from numbers) room (parts_ask numbers));
    }
