-- What a call answers, case by case, from any state; and what is known where it is refused for want of records.
use Prim.Native.Nat.{ℕ, ◌+◌, ◌≤◌, ◌<◌}
use mathlib.Core.Path.{◌≡◌, refl, sym, ap}
use mathlib.Core.Bool.{Bool, true, false}
use mathlib.Core.List.{List, ◌++◌, ◌∷◌, []}
use native.Mathlib.Omega.{arith}
use Rattle.std.specs.Prelude.{Option, Some, None, Result, Ok, Err}
use borrow.Author.Tests.{lt-ltb, le-ltb}
use lib.ListN.{length}
use lib.Dec.{ltb}
use Rattle.text_classes.proofs.Conds.{cond_case, by_lt}
use Rattle.text_refusals.specs.Refusals.{limit}
use Rattle.text_refusals.specs.declared.Refusal.TheVariants.{NotUtf8, TooLong, FewTokens, AfterEnd}
use Rattle.lexer_token.specs.declared.TokenKind.{TokenKind}
use Rattle.lexer.specs.Tokens.{eof_at}
use Rattle.built_bytes.specs.Turns.{pending_of}
use Rattle.built_characters.specs.declared.Character.{Character}
use Rattle.built_characters.specs.declared.Character.TheVariants.{Whole, Begun}
use Rattle.built_lexing.specs.declared.states.Lexing.{Lexing}
use Rattle.built_parts.specs.declared.checks.Checked.{Checked}
use Rattle.built_parts.specs.declared.checks.Faulty.{Faulty as Fault}
use Rattle.built_parts.specs.declared.Parts.{Parts}
use Rattle.built_parts.specs.declared.Fed.{Fed}
use Rattle.built_lexing.specs.States.{given_by, state_after, tokens_in, pending_token, last_tokens}
use Rattle.built_parts.specs.Checking.{good as Good, bad as Bad}
use Rattle.built_parts.specs.Feeding.{parts_of, closed, is_over, fed, checked_from, feed_checked, feed_of, close_checked, close_of}
use Rattle.built_lexing.proofs.CountLaws.{given_few}
use Rattle.theorems_parts.specs.Calls.{AfterEnds, RoomEnough, FewFed, FewClosed, AfterFew, NeverFew}

-- two different answers are not the same
pub clash : {P : Type 0} → ◌≡◌ {A = ℕ} 0 1 → P
clash z = absurd (omega arith)

pub answer_of : {f g : Fed} → f ≡ g → f.answer ≡ g.answer
answer_of e = ap (λ (x : Fed). x.answer) e

pub parts_of_lem : {f g : Fed} → f ≡ g → f.parts ≡ g.parts
parts_of_lem e = ap (λ (x : Fed). x.parts) e

-- ---- a part

module _ (p : Parts) (s : List ℕ) (room : ℕ) where
  abbrev needs : ℕ
  needs = length (given_by p.lexing s)

  abbrev passes : Bool
  passes = ltb limit (p.lexing.at + length s)

  pub feed_over : is_over p ≡ true → feed_of p s room ≡ fed (Err AfterEnd) p
  unfolding feed_of
  feed_over t = rw t

  module _ (going : is_over p ≡ false) where
    pub feed_long : passes ≡ true → feed_of p s room ≡ fed (Err TooLong) (closed p)
    unfolding feed_of
    feed_long t = rw (going, t)

    module _ (fits : passes ≡ false) where
      pub feed_bad : (v n : ℕ) → checked_from p s ≡ Bad v n → feed_of p s room ≡ fed (Err (NotUtf8 v n)) (closed p)
      unfolding feed_of
      feed_bad v n e = rw (going, fits, e)

      pub feed_few : (c : Character) (v : ℕ) → checked_from p s ≡ Good c v → room < needs → feed_of p s room ≡ fed (Err (FewTokens needs)) p
      unfolding feed_of
      feed_few c v e h = rw (going, fits, e, lt-ltb room needs h)

      pub feed_given : (c : Character) (v : ℕ) → checked_from p s ≡ Good c v → needs ≤ room
          → feed_of p s room ≡ fed (Ok needs) (parts_of (state_after p.lexing s) c v false)
      unfolding feed_of
      feed_given c v e h = rw (going, fits, e, le-ltb room needs h)

-- each answer with what is known where it is given
pub data FeedCase (p : Parts) (s : List ℕ) (room : ℕ) : Fed → Type 0 where
  over : is_over p ≡ true → FeedCase p s room (fed (Err AfterEnd) p)
  long : is_over p ≡ false → passes p s room ≡ true → FeedCase p s room (fed (Err TooLong) (closed p))
  bad : is_over p ≡ false → passes p s room ≡ false → (v n : ℕ) → checked_from p s ≡ Bad v n
      → FeedCase p s room (fed (Err (NotUtf8 v n)) (closed p))
  few : is_over p ≡ false → passes p s room ≡ false → (c : Character) (v : ℕ) → checked_from p s ≡ Good c v → room < needs p s room
      → FeedCase p s room (fed (Err (FewTokens (needs p s room))) p)
  given : is_over p ≡ false → passes p s room ≡ false → (c : Character) (v : ℕ) → checked_from p s ≡ Good c v → needs p s room ≤ room
      → FeedCase p s room (fed (Ok (needs p s room)) (parts_of (state_after p.lexing s) c v false))

pub feed_case : (p : Parts) (s : List ℕ) (room : ℕ) → FeedCase p s room (feed_of p s room)
unfolding feed_of
feed_case p s room =
    cond_case (FeedCase p s room) (is_over p) over
    (λ a. cond_case (FeedCase p s room) (passes p s room) (long a) (λ b. by_check a b (checked_from p s) refl))
  where
    by_check : is_over p ≡ false → passes p s room ≡ false → (x : Result Checked Fault) → checked_from p s ≡ x → FeedCase p s room (feed_checked x p s room)
    by_check a b (Err f) e = bad a b f.valid f.length e
    by_check a b (Ok g) e =
        by_lt (FeedCase p s room) room (needs p s room) (few a b g.character g.valid e) (given a b g.character g.valid e)

few_fed : (p : Parts) (s : List ℕ) (room n : ℕ) (q : Parts) → feed_of p s room ≡ fed (Err (FewTokens n)) q → FewFed p s room n q
few_fed p s room n q e = go (feed_of p s room) (answer_of e) (parts_of_lem e) (feed_case p s room)
  where
    go : (f : Fed) → f.answer ≡ Err (FewTokens n) → f.parts ≡ q → FeedCase p s room f → FewFed p s room n q
    go f e o (over a) = clash cc
    go f e o (long a b) = clash cc
    go f e o (bad a b v k d) = clash cc
    go f e o (few a b c v d h) =
        let is : needs p s room ≡ n = cc in
        record {
          same = sym o;
          less = rw (← is) h;
          then = λ more k.
              (parts_of (state_after p.lexing s) c v false, rw (← is) (feed_given p s more a b c v d (omega arith)));
        }
    go f e o (given a b c v d h) = clash cc

-- how many tokens an answered part gave
pub given_is : (p : Parts) (s : List ℕ) (room n : ℕ) (q : Parts) → feed_of p s room ≡ fed (Ok n) q → length (given_by p.lexing s) ≡ n
given_is p s room n q e = go (feed_of p s room) (answer_of e) (parts_of_lem e) (feed_case p s room)
  where
    go : (f : Fed) → f.answer ≡ Ok n → f.parts ≡ q → FeedCase p s room f → length (given_by p.lexing s) ≡ n
    go f e o (over a) = clash cc
    go f e o (long a b) = clash cc
    go f e o (bad a b v k d) = clash cc
    go f e o (few a b c v d h) = clash cc
    go f e o (given a b c v d h) = cc

-- ---- the closing word

module _ (p : Parts) (room : ℕ) where
  abbrev last : ℕ
  last = length (last_tokens p.lexing)

  abbrev beyond : Bool
  beyond = ltb limit p.lexing.at

  pub close_over : is_over p ≡ true → close_of p room ≡ fed (Err AfterEnd) p
  unfolding close_of
  close_over t = rw t

  module _ (going : is_over p ≡ false) where
    pub close_long : beyond ≡ true → close_of p room ≡ fed (Err TooLong) (closed p)
    unfolding close_of
    close_long t = rw (going, t)

    module _ (fits : beyond ≡ false) where
      pub close_begun : (left low high : ℕ) → p.character ≡ Begun left low high → close_of p room ≡ fed (Err (NotUtf8 p.valid 0)) (closed p)
      unfolding close_of
      close_begun left low high e = rw (going, fits, e)

      pub close_few : p.character ≡ Whole → room < last → close_of p room ≡ fed (Err (FewTokens last)) p
      unfolding close_of
      close_few e h = rw (going, fits, e, lt-ltb room last h)

      pub close_whole : p.character ≡ Whole → last ≤ room → close_of p room ≡ fed (Ok last) (closed p)
      unfolding close_of
      close_whole e h = rw (going, fits, e, le-ltb room last h)

pub data CloseCase (p : Parts) (room : ℕ) : Fed → Type 0 where
  over : is_over p ≡ true → CloseCase p room (fed (Err AfterEnd) p)
  long : is_over p ≡ false → beyond p room ≡ true → CloseCase p room (fed (Err TooLong) (closed p))
  begun : is_over p ≡ false → beyond p room ≡ false → (left low high : ℕ) → p.character ≡ Begun left low high
      → CloseCase p room (fed (Err (NotUtf8 p.valid 0)) (closed p))
  few : is_over p ≡ false → beyond p room ≡ false → p.character ≡ Whole → room < last p room
      → CloseCase p room (fed (Err (FewTokens (last p room))) p)
  given : is_over p ≡ false → beyond p room ≡ false → p.character ≡ Whole → last p room ≤ room
      → CloseCase p room (fed (Ok (last p room)) (closed p))

pub close_case : (p : Parts) (room : ℕ) → CloseCase p room (close_of p room)
unfolding close_of
close_case p room =
    cond_case (CloseCase p room) (is_over p) over
    (λ a. cond_case (CloseCase p room) (beyond p room) (long a) (λ b. by_character a b p.character refl))
  where
    by_character : is_over p ≡ false → beyond p room ≡ false → (c : Character) → p.character ≡ c → CloseCase p room (close_checked c p room)
    by_character a b (Begun left low high) e = begun a b left low high e
    by_character a b Whole e = by_lt (CloseCase p room) room (last p room) (few a b e) (given a b e)

few_closed : (p : Parts) (room n : ℕ) (q : Parts) → close_of p room ≡ fed (Err (FewTokens n)) q → FewClosed p room n q
few_closed p room n q e = go (close_of p room) (answer_of e) (parts_of_lem e) (close_case p room)
  where
    go : (f : Fed) → f.answer ≡ Err (FewTokens n) → f.parts ≡ q → CloseCase p room f → FewClosed p room n q
    go f e o (over a) = clash cc
    go f e o (long a b) = clash cc
    go f e o (begun a b left low high d) = clash cc
    go f e o (few a b d h) =
        let is : last p room ≡ n = cc in
        record { same = sym o; less = rw (← is) h; then = λ more k. rw (← is) (close_whole p more a b d (omega arith)) }
    go f e o (given a b d h) = clash cc

pub last_is : (p : Parts) (room n : ℕ) (q : Parts) → close_of p room ≡ fed (Ok n) q → length (last_tokens p.lexing) ≡ n
last_is p room n q e = go (close_of p room) (answer_of e) (parts_of_lem e) (close_case p room)
  where
    go : (f : Fed) → f.answer ≡ Ok n → f.parts ≡ q → CloseCase p room f → length (last_tokens p.lexing) ≡ n
    go f e o (over a) = clash cc
    go f e o (long a b) = clash cc
    go f e o (begun a b left low high d) = clash cc
    go f e o (few a b d h) = clash cc
    go f e o (given a b d h) = cc

pub after_few : AfterFew
after_few p = (few_fed p, few_closed p)

-- ---- after the end, and how many records always suffice

pub after_end : AfterEnds
unfolding feed_of close_of
after_end p = (λ s room. refl, λ room. refl)

last_two : (l : Lexing) (x : Option TokenKind) → length (tokens_in (pending_token x l) ++ (eof_at l.at l.line ∷ [])) ≤ 2
last_two l None = omega arith
last_two l (Some k) = omega arith

pub room_enough : RoomEnough
unfolding last_tokens
room_enough l = (given_few l, last_two l (pending_of l.mode))

few_needs : (p : Parts) (s : List ℕ) (room n : ℕ) (q : Parts) → feed_of p s room ≡ fed (Err (FewTokens n)) q → n ≡ length (given_by p.lexing s)
few_needs p s room n q e =
    let f = few_fed p s room n q e in
    sym (given_is p s n n (f.then n (omega arith)).0 (f.then n (omega arith)).1)

last_needs : (p : Parts) (room n : ℕ) (q : Parts) → close_of p room ≡ fed (Err (FewTokens n)) q → n ≡ length (last_tokens p.lexing)
last_needs p room n q e =
    let f = few_closed p room n q e in
    sym (last_is p n n (closed p) (f.then n (omega arith)))

pub never_few : NeverFew
never_few p = (
  λ s room n q h e. omega (arith, (few_fed p s room n q e).less, few_needs p s room n q e, (room_enough p.lexing).0 s),
  λ room n q h e. omega (arith, (few_closed p room n q e).less, last_needs p room n q e, (room_enough p.lexing).1),
)
