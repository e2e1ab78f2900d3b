-- The numbers of each answer: which refusal, and the two numbers returned.
-- Assumes nothing.
use Prim.Native.Nat.{ℕ, ◌+◌}
use mathlib.Core.Path.{◌≡◌, refl, ap, ◌∙◌}
use native.Mathlib.Nat.{add-zero}
use mathlib.Core.Bool.{Bool, true, false, cond}
use mathlib.Core.List.{List}
use lib.ListN.{length}
use lib.Dec.{ltb}
use Rattle.text_classes.proofs.Conds.{of_choice}
use Rattle.text_refusals.specs.Refusals.{limit}
use Rattle.text_refusals.specs.declared.Refusal.TheVariants.{TooLong, AfterEnd}
use Rattle.text_refusals.specs.Told.{told_number, told_count, told_length}
use Rattle.std.specs.Prelude.{Result, Ok, Err}
use Rattle.built_characters.specs.declared.Character.{Character}
use Rattle.built_characters.specs.declared.Character.TheVariants.{Whole, Begun}
use Rattle.built_parts.specs.declared.checks.Checked.{Checked}
use Rattle.built_parts.specs.declared.checks.Faulty.{Faulty}
use Rattle.built_parts.specs.declared.Parts.{Parts}
use Rattle.built_parts.specs.declared.Fed.{Fed}
use Rattle.built_lexing.specs.States.{given_by, state_after, last_tokens}
use Rattle.built_parts.specs.Feeding.{parts_of, closed, is_over, fed, with_room, checked_from, feed_checked, feed_of, close_checked, close_of, feed_memory, close_memory}
use Rattle.built_parts.specs.Told.{by_check, feed_refusal, feed_returned, feed_fault, by_character, close_refusal, close_returned}

-- what a call answers after the end, and where the limit is passed
abbrev feed_over : Parts → Fed
feed_over p = fed (Err AfterEnd) p

abbrev feed_long : Parts → Fed
feed_long p = fed (Err TooLong) (closed p)

-- what is read off an answer
abbrev number : Fed → ℕ
number f = told_number f.answer

abbrev value : Fed → ℕ
value f = told_count f.answer

abbrev len : Fed → ℕ
len f = told_length f.answer

same_choice : (t : Bool) (n : ℕ) → cond t n n ≡ n
same_choice true n = refl
same_choice false n = refl

module _ (n room : ℕ) (old new : Parts) where
  room_number : number (with_room n room old new) ≡ cond (ltb room n) 3 0
  room_number = of_choice number (ltb room n) refl refl

  room_value : value (with_room n room old new) ≡ n
  room_value = of_choice value (ltb room n) refl refl ∙ same_choice (ltb room n) n

  room_len : len (with_room n room old new) ≡ 0
  room_len = of_choice len (ltb room n) refl refl ∙ same_choice (ltb room n) 0

-- ---- a part

module _ (p : Parts) (s : List ℕ) (room : ℕ) where
  abbrev needs : ℕ
  needs = length (given_by p.lexing s)

  by_number : (x : Result Checked Faulty) → number (feed_checked x p s room) ≡ by_check x (λ v n. 1) (cond (ltb room needs) 3 0)
  by_number (Err f) = refl
  by_number (Ok g) = room_number needs room p (parts_of (state_after p.lexing s) g.character g.valid false)

  by_value : (x : Result Checked Faulty) → value (feed_checked x p s room) ≡ by_check x (λ v n. v) needs
  by_value (Err f) = refl
  by_value (Ok g) = room_value needs room p (parts_of (state_after p.lexing s) g.character g.valid false)

  by_len : (x : Result Checked Faulty) → len (feed_checked x p s room) ≡ by_check x (λ v n. n) 0
  by_len (Err f) = refl
  by_len (Ok g) = room_len needs room p (parts_of (state_after p.lexing s) g.character g.valid false)

  -- what is read off the answer, where it is read off what the characters come to
  told_by : (f : Fed → ℕ) (n : ℕ) → f (feed_checked (checked_from p s) p s room) ≡ n
      → f (feed_of p s room)
      ≡ cond (is_over p) (f (feed_over p)) (cond (ltb limit (p.lexing.at + length s)) (f (feed_long p)) n)
  unfolding feed_of
  told_by f n e = of_choice f (is_over p) refl (of_choice f (ltb limit (p.lexing.at + length s)) refl e)

pub fed_numbers : (p : Parts) (s : List ℕ) (old : List (List ℕ)) (r : Fed) (new : List (List ℕ))
    → record { answer : r ≡ feed_of p s (length old); memory : new ≡ feed_memory p s old }
    → record {
      answer : r ≡ feed_of p s (length old);
      number : told_number r.answer ≡ feed_refusal p s (length old);
      value : told_count r.answer ≡ feed_returned p s;
      length : told_length r.answer ≡ feed_fault p s;
      memory : new ≡ feed_memory p s old;
    }
fed_numbers p s old r new h =
    let x = checked_from p s in
    let room = length old in
    record {
      answer = h.answer;
      number = ap number h.answer ∙ told_by p s room number _ (by_number p s room x);
      value = ap value h.answer ∙ told_by p s room value _ (by_value p s room x);
      length = ap len h.answer ∙ told_by p s room len _ (by_len p s room x);
      memory = h.memory;
    }

-- ---- the closing word

module _ (p : Parts) (room : ℕ) where
  abbrev last : ℕ
  last = length (last_tokens p.lexing)

  close_number : (c : Character) → number (close_checked c p room) ≡ by_character c 1 (cond (ltb room last) 3 0)
  close_number (Begun left low high) = refl
  close_number Whole = room_number last room p (closed p)

  close_value : (c : Character) → value (close_checked c p room) ≡ by_character c p.valid last
  close_value (Begun left low high) = refl
  close_value Whole = room_value last room p (closed p)

  close_len : (c : Character) → len (close_checked c p room) ≡ 0
  close_len (Begun left low high) = refl
  close_len Whole = room_len last room p (closed p)

  close_by : (f : Fed → ℕ) (n : ℕ) → f (close_checked p.character p room) ≡ n
      → f (close_of p room) ≡ cond (is_over p) (f (feed_over p)) (cond (ltb limit p.lexing.at) (f (feed_long p)) n)
  unfolding close_of
  close_by f n e = of_choice f (is_over p) refl (of_choice f (ltb limit p.lexing.at) refl e)

  no_more : (x y : Bool) → ◌≡◌ {A = ℕ} (cond x 0 (cond y 0 0)) 0
  no_more true y = refl
  no_more false true = refl
  no_more false false = refl

pub closed_numbers : (p : Parts) (old : List (List ℕ)) (r : Fed) (new : List (List ℕ))
    → record { answer : r ≡ close_of p (length old); memory : new ≡ close_memory p old }
    → record {
      answer : r ≡ close_of p (length old);
      number : told_number r.answer ≡ close_refusal p (length old);
      value : told_count r.answer ≡ close_returned p;
      length : told_length r.answer ≡ 0;
      memory : new ≡ close_memory p old;
    }
closed_numbers p old r new h =
    let c = p.character in
    let room = length old in
    let at : p.lexing.at + 0 ≡ p.lexing.at = add-zero p.lexing.at in
    record {
      answer = h.answer;
      number = ap number h.answer ∙ close_by p room number _ (close_number p room c) ∙ rw at;
      value = ap value h.answer ∙ close_by p room value _ (close_value p room c) ∙ rw at;
      length = ap len h.answer ∙ close_by p room len 0 (close_len p room c) ∙ no_more p room (is_over p) (ltb limit p.lexing.at);
      memory = h.memory;
    }
