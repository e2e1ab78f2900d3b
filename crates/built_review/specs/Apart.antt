-- STATEMENT. Two reviewers on one table do not disturb each other: said over lists of calls, in which those of both stand in
-- any order. Proved in proofs/ApartLaws.antt, and what an answered tick does in proofs/FollowLaws.antt. That the functions tell
-- and leave what the calls here do is proved of their promises, in proofs/CallLaws.antt.
-- Assumes nothing.
use Rattle.std.specs.Prelude.{ℕ, ◌+◌, ◌-◌, ◌<◌, Result, Ok, ⊤}
use mathlib.Core.{Path.◌≡◌, Bool.Bool, Bool.true, Bool.false, Bool.cond, List.List, List.[], List.◌∷◌, List.map}
use lib.{ListN.length, ListN.take, ListN.drop, Dec.eqb}
use Rattle.text_classes.specs.{Runs.first_is}
use Rattle.built_review.specs.{Review.bit, Review.is_set, Review.mark_answer, Review.ticked_marks, Review.unticked_marks, Review.read_answer, Review.count_answer}
use Rattle.text_refusals.specs.declared.Refusal.{Refusal}

-- ---- calls, one after another on one table

-- a call, with the numbers of its reviewer and its token
pub data ReviewCall : Type 0 where
  tick : ℕ → ℕ → ReviewCall
  untick : ℕ → ℕ → ReviewCall
  is_ticked : ℕ → ℕ → ReviewCall
  ticks : ℕ → ReviewCall

-- who makes it
abbrev pub caller : ReviewCall → ℕ
caller (tick reviewer token) = reviewer
caller (untick reviewer token) = reviewer
caller (is_ticked reviewer token) = reviewer
caller (ticks reviewer) = reviewer

-- what a reviewer is told by a call
pub data CallAnswer : Type 0 where
  marked : Result ⊤ Refusal → CallAnswer
  read : Result Bool Refusal → CallAnswer
  counted : Result ℕ Refusal → CallAnswer

-- what a call tells, for so many records and a table
abbrev pub tells : ℕ → List ℕ → ReviewCall → CallAnswer
tells records marks (tick reviewer token) = marked (mark_answer records (length marks) reviewer token)
tells records marks (untick reviewer token) = marked (mark_answer records (length marks) reviewer token)
tells records marks (is_ticked reviewer token) = read (read_answer records marks reviewer token)
tells records marks (ticks reviewer) = counted (count_answer records marks reviewer)

-- the table after a call, and after some
abbrev pub leaves : ℕ → List ℕ → ReviewCall → List ℕ
leaves records marks (tick reviewer token) = ticked_marks records marks reviewer token
leaves records marks (untick reviewer token) = unticked_marks records marks reviewer token
leaves records marks (is_ticked reviewer token) = marks
leaves records marks (ticks reviewer) = marks

unfoldable pub after : ℕ → List ℕ → List ReviewCall → List ℕ
after records marks [] = marks
after records marks (c ∷ calls) = after records (leaves records marks c) calls

-- one reviewer's calls among some, in their order
unfoldable pub own : ℕ → List ReviewCall → List ReviewCall
own reviewer [] = []
own reviewer (c ∷ calls) = cond (eqb (caller c) reviewer) (c ∷ own reviewer calls) (own reviewer calls)

-- what that reviewer is told by them, in their order
unfoldable pub told_to : ℕ → ℕ → List ℕ → List ReviewCall → List CallAnswer
told_to reviewer records marks [] = []
told_to reviewer records marks (c ∷ calls) =
    let rest = told_to reviewer records (leaves records marks c) calls in
    cond (eqb (caller c) reviewer) (tells records marks c ∷ rest) rest

-- ---- what one reviewer is told, and what becomes of the bits

-- a reviewer's bits over the records
abbrev pub own_bits : ℕ → ℕ → List ℕ → List ℕ
own_bits reviewer records marks = take records (map (bit reviewer) marks)

-- two tables of the same length, in which a reviewer has the same bits over the records
pub record Alike (reviewer records : ℕ) (marks others : List ℕ) : Type 0 where
  pub long : length marks ≡ length others
  pub bits : own_bits reviewer records marks ≡ own_bits reviewer records others

-- what a reviewer is told is what that reviewer's calls alone are told, on any table that is alike
abbrev pub ToldAlone : Type 0
ToldAlone =
    (reviewer records : ℕ) (marks others : List ℕ) (calls : List ReviewCall) → Alike reviewer records marks others
    → told_to reviewer records marks calls ≡ told_to reviewer records others (own reviewer calls)

-- so it depends only on the number of records, the table's length, and that reviewer's calls and starting bits
abbrev pub ToldByOwn : Type 0
ToldByOwn =
    (reviewer records : ℕ) (marks others : List ℕ) (calls more : List ReviewCall) → Alike reviewer records marks others
    → own reviewer calls ≡ own reviewer more → told_to reviewer records marks calls ≡ told_to reviewer records others more

-- a reviewer's bits after some calls are those after that reviewer's calls alone: nobody else's calls change them
abbrev pub BitsByOwn : Type 0
BitsByOwn =
    (reviewer records : ℕ) (marks others : List ℕ) (calls : List ReviewCall) → Alike reviewer records marks others
    → Alike reviewer records (after records marks calls) (after records others (own reviewer calls))

-- the bits of a reviewer who makes none of the calls stay as they were, in the whole table
abbrev pub OthersStay : Type 0
OthersStay =
    (reviewer records : ℕ) (marks : List ℕ) (calls : List ReviewCall) → own reviewer calls ≡ []
    → map (bit reviewer) (after records marks calls) ≡ map (bit reviewer) marks

-- so do the unused bits, all but 0 and 1, whoever calls
abbrev pub UnusedStay : Type 0
UnusedStay =
    (k : ℕ) → 1 < k → (records : ℕ) (marks : List ℕ) (calls : List ReviewCall)
    → map (bit k) (after records marks calls) ≡ map (bit k) marks

-- and all entries after those of the records
abbrev pub RestStays : Type 0
RestStays =
    (records : ℕ) (marks : List ℕ) (calls : List ReviewCall) → drop records (after records marks calls) ≡ drop records marks

-- ---- what an answered tick or untick does, as later calls tell

-- the token is then ticked or not; and the count is one more after a tick where the bit was clear, one less after an untick
-- where it was set, else the same
pub record Follows (records : ℕ) (marks : List ℕ) (reviewer token : ℕ) : Type 0 where
  pub ticked : read_answer records (ticked_marks records marks reviewer token) reviewer token ≡ Ok true
  pub unticked : read_answer records (unticked_marks records marks reviewer token) reviewer token ≡ Ok false
  pub count : ℕ
  pub before : count_answer records marks reviewer ≡ Ok count
  pub more : count_answer records (ticked_marks records marks reviewer token) reviewer
      ≡ Ok (cond (first_is (is_set reviewer) (drop token marks)) count (count + 1))
  pub less : count_answer records (unticked_marks records marks reviewer token) reviewer
      ≡ Ok (cond (first_is (is_set reviewer) (drop token marks)) (count - 1) count)

abbrev pub CallsFollow : Type 0
CallsFollow =
    (records : ℕ) (marks : List ℕ) (reviewer token : ℕ) → mark_answer records (length marks) reviewer token ≡ Ok tt
    → Follows records marks reviewer token
