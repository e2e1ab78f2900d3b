-- What a call comes to and leaves, case by case.
-- Assumes nothing.
use Prim.Native.Nat.{ℕ, ◌+◌, ◌≤◌, ◌<◌}
use mathlib.Core.Path.{◌≡◌, refl, sym, ap, ◌∙◌}
use mathlib.Core.Bool.{Bool, true, false, cond, ◌||◌}
use mathlib.Core.List.{List, ◌++◌, map}
use lib.ListN.{length, drop}
use lib.Dec.{ltb}
use borrow.Author.Tests.{lt-ltb, le-ltb}
use Rattle.std.specs.Prelude.{Result, Ok, Err}
use Rattle.text_refusals.specs.declared.Refusal.{Refusal}
use Rattle.text_refusals.specs.declared.Refusal.TheVariants.{NotUtf8, TooLong, FewTokens, AfterEnd}
use Rattle.lexer_token.specs.declared.Token.{Token}
use Rattle.lexer_token.specs.Records.{record_of}
use Rattle.built_characters.specs.declared.Character.{Character}
use Rattle.built_characters.specs.declared.Character.TheVariants.{Whole, Begun}
use Rattle.built_lexing.specs.declared.states.Lexing.{Lexing}
use Rattle.built_lexing.specs.declared.PartLexed.{PartLexed}
use Rattle.built_lexing.specs.declared.NotLexed.{NotLexed}
use Rattle.built_lexing.specs.declared.NotLexed.TheVariants.{Few}
use Rattle.built_lexing.specs.States.{given_by, state_after, last_tokens}
use Rattle.built_lexing.specs.Filling.{refusal_of, astray, lexed_into, lexed_part, lexed_end, placed, part_memory, end_memory}
use Rattle.built_parts.specs.declared.checks.Checked.{Checked}
use Rattle.built_parts.specs.declared.checks.Faulty.{Faulty}
use Rattle.built_parts.specs.declared.Parts.{Parts}
use Rattle.built_parts.specs.declared.Fed.{Fed}
use Rattle.built_parts.specs.Feeding.{parts_of, closed, is_over, fed, with_room, checked_from, feed_of, close_of, stored, feed_memory, close_memory}
use Rattle.built_parts.specs.Passing.{answered_by}

-- a state that goes on is not astray
pub not_astray : (p : Parts) → is_over p ≡ false → astray p.lexing ≡ false
not_astray p = go p.ended (astray p.lexing)
  where
    go : (a b : Bool) → (a || b) ≡ false → b ≡ false
    go true true e = e
    go true false e = refl
    go false b e = e

pub whole_by : (c : Character) → ((left low high : ℕ) → c ≡ Begun left low high → ⊥) → c ≡ Whole
whole_by Whole f = refl
whole_by (Begun left low high) f = absurd (f left low high refl)

-- what a call comes to, of which the rule is `f` where the tokens ts may be put: the answer, and the records
abbrev Outcome : Parts → Fed → List Token → List (List ℕ) → Result (ℕ × Parts) Refusal → List (List ℕ) → Type 0
Outcome p f ts old r new = record { answer : answered_by p r ≡ f; memory : new ≡ stored f.answer ts old }

refused : (p : Parts) (f : Fed) (ts : List Token) (old : List (List ℕ)) (r : Refusal) → f ≡ answered_by p (Err r) → Outcome p f ts old (Err r) old
refused p f ts old r e = record { answer = sym e; memory = rw e }

-- tokens ts into the records, and the state `after` them: as they were put, or why they were not. They go on from the state p, or to the
-- one that is made of the state after them
module _ (p : Parts) (on : Lexing → Parts) (after : Lexing) (ts : List Token) (old new : List (List ℕ)) where
  abbrev all : PartLexed
  all = record { count = length ts; next = after }

  abbrev rule : Fed
  rule = with_room (length ts) (length old) p (on after)

  pub put_few : (x : NotLexed) → Err x ≡ lexed_into (length ts) (length old) after → new ≡ old → Outcome p rule ts old (Err (refusal_of x)) new
  put_few x = go (ltb (length old) (length ts))
    where
      go : (t : Bool) → Err x ≡ cond t (Err (Few (length ts))) (Ok all) → new ≡ old
          → Outcome p (cond t (fed (Err (FewTokens (length ts))) p) (fed (Ok (length ts)) (on after))) ts old (Err (refusal_of x)) new
      go true e w =
          let few : NotLexed = Few (length ts) in
          let is : x ≡ few = cc in
          let same : answered_by p (Err (refusal_of x)) ≡ fed (Err (FewTokens (length ts))) p = ap (λ (y : NotLexed). answered_by p (Err (refusal_of y))) is in
          record { answer = same; memory = w }
      go false e w = let z : ⊥ = cc in absurd z

  pub put_all : (x : PartLexed) → Ok x ≡ lexed_into (length ts) (length old) after → new ≡ map record_of ts ++ drop (length ts) old
      → Outcome p rule ts old (Ok (x.count, on x.next)) new
  put_all x = go (ltb (length old) (length ts))
    where
      go : (t : Bool) → Ok x ≡ cond t (Err (Few (length ts))) (Ok all)
          → new ≡ map record_of ts ++ drop (length ts) old
          → Outcome p (cond t (fed (Err (FewTokens (length ts))) p) (fed (Ok (length ts)) (on after))) ts old (Ok (x.count, on x.next)) new
      go true e w = let z : ⊥ = cc in absurd z
      go false e w =
          let is : x ≡ all = cc in
          record { answer = ap (λ (y : PartLexed). fed (Ok y.count) (on y.next)) is; memory = w }

-- ---- a part

module _ (p : Parts) (s : List ℕ) (old : List (List ℕ)) where
  abbrev room : ℕ
  room = length old

  abbrev Feeds : Result (ℕ × Parts) Refusal → List (List ℕ) → Type 0
  Feeds r new = record { answer : answered_by p r ≡ feed_of p s room; memory : new ≡ feed_memory p s old }

  feeds : (f : Fed) → feed_of p s room ≡ f → (r : Result (ℕ × Parts) Refusal) (new : List (List ℕ))
      → Outcome p f (given_by p.lexing s) old r new → Feeds r new
  unfolding feed_memory
  feeds f e r new o = record {
    answer = o.answer ∙ sym e;
    memory = o.memory ∙ ap (λ (x : Fed). stored x.answer (given_by p.lexing s) old) (sym e);
  }

  pub feed_over : is_over p ≡ true → Feeds (Err AfterEnd) old
  unfolding feed_of
  feed_over t = feeds (fed (Err AfterEnd) p) (rw t) (Err AfterEnd) old (refused p _ (given_by p.lexing s) old AfterEnd refl)

  module _ (going : is_over p ≡ false) where
    pub feed_long : ltb 16777216 (p.lexing.at + length s) ≡ true → Feeds (Err TooLong) old
    unfolding feed_of
    feed_long t = feeds (fed (Err TooLong) (closed p)) (rw (going, t)) (Err TooLong) old (refused p _ (given_by p.lexing s) old TooLong refl)

    module _ (fits : ltb 16777216 (p.lexing.at + length s) ≡ false) where
      pub feed_bad : (f : Faulty) → checked_from p s ≡ Err f → Feeds (Err (NotUtf8 f.valid f.length)) old
      unfolding feed_of
      feed_bad f c =
          feeds (fed (Err (NotUtf8 f.valid f.length)) (closed p)) (rw (going, fits, c)) (Err (NotUtf8 f.valid f.length)) old
          (refused p _ (given_by p.lexing s) old (NotUtf8 f.valid f.length) refl)

      -- the tokens of the part, as they were put into the records
      module _ (g : Checked) (sound : checked_from p s ≡ Ok g) (new : List (List ℕ)) where
        abbrev next : Lexing → Parts
        next l = parts_of l g.character g.valid false

        by_room : feed_of p s room ≡ with_room (length (given_by p.lexing s)) room p (next (state_after p.lexing s))
        unfolding feed_of
        by_room = rw (going, fits, sound)

        into : lexed_part p.lexing s room ≡ lexed_into (length (given_by p.lexing s)) room (state_after p.lexing s)
        unfolding lexed_part
        into = rw (not_astray p going, fits)

        left : (x : Result PartLexed NotLexed) → x ≡ lexed_part p.lexing s room → new ≡ part_memory p.lexing s old
            → new ≡ placed x (given_by p.lexing s) old
        unfolding part_memory
        left x e w = w ∙ ap (λ (y : Result PartLexed NotLexed). placed y (given_by p.lexing s) old) (sym e)

        pub feed_few : (x : NotLexed) → Err x ≡ lexed_part p.lexing s room → new ≡ part_memory p.lexing s old → Feeds (Err (refusal_of x)) new
        feed_few x e w =
            feeds _ by_room (Err (refusal_of x)) new (put_few p next (state_after p.lexing s) (given_by p.lexing s) old new x (e ∙ into) (left (Err x) e w))

        pub feed_given : (x : PartLexed) → Ok x ≡ lexed_part p.lexing s room → new ≡ part_memory p.lexing s old → Feeds (Ok (x.count, next x.next)) new
        feed_given x e w =
            feeds _ by_room (Ok (x.count, next x.next)) new (put_all p next (state_after p.lexing s) (given_by p.lexing s) old new x (e ∙ into) (left (Ok x) e w))

-- ---- the closing word

module _ (p : Parts) (old : List (List ℕ)) where
  abbrev Closes : Result (ℕ × Parts) Refusal → List (List ℕ) → Type 0
  Closes r new = record { answer : answered_by p r ≡ close_of p (length old); memory : new ≡ close_memory p old }

  closes : (f : Fed) → close_of p (length old) ≡ f → (r : Result (ℕ × Parts) Refusal) (new : List (List ℕ))
      → Outcome p f (last_tokens p.lexing) old r new → Closes r new
  unfolding close_memory
  closes f e r new o = record {
    answer = o.answer ∙ sym e;
    memory = o.memory ∙ ap (λ (x : Fed). stored x.answer (last_tokens p.lexing) old) (sym e);
  }

  pub close_over : is_over p ≡ true → Closes (Err AfterEnd) old
  unfolding close_of
  close_over t = closes (fed (Err AfterEnd) p) (rw t) (Err AfterEnd) old (refused p _ (last_tokens p.lexing) old AfterEnd refl)

  module _ (going : is_over p ≡ false) where
    pub close_long : 16777216 < p.lexing.at → Closes (Err TooLong) old
    unfolding close_of
    close_long h =
        closes (fed (Err TooLong) (closed p)) (rw (going, lt-ltb 16777216 p.lexing.at h)) (Err TooLong) old
        (refused p _ (last_tokens p.lexing) old TooLong refl)

    module _ (fits : p.lexing.at ≤ 16777216) where
      pub close_bad : (left low high : ℕ) → p.character ≡ Begun left low high → Closes (Err (NotUtf8 p.valid 0)) old
      unfolding close_of
      close_bad left low high c =
          closes (fed (Err (NotUtf8 p.valid 0)) (closed p)) (rw (going, le-ltb 16777216 p.lexing.at fits, c)) (Err (NotUtf8 p.valid 0)) old
          (refused p _ (last_tokens p.lexing) old (NotUtf8 p.valid 0) refl)

      module _ (whole : p.character ≡ Whole) (new : List (List ℕ)) where
        by_last : close_of p (length old) ≡ with_room (length (last_tokens p.lexing)) (length old) p (closed p)
        unfolding close_of
        by_last = rw (going, le-ltb 16777216 p.lexing.at fits, whole)

        ends : (x : Result PartLexed NotLexed) → x ≡ lexed_end p.lexing (length old) → x ≡ lexed_into (length (last_tokens p.lexing)) (length old) p.lexing
        unfolding lexed_end
        ends x e = e

        leaves : (x : Result PartLexed NotLexed) → x ≡ lexed_end p.lexing (length old) → new ≡ end_memory p.lexing old
            → new ≡ placed x (last_tokens p.lexing) old
        unfolding end_memory
        leaves x e w = w ∙ ap (λ (y : Result PartLexed NotLexed). placed y (last_tokens p.lexing) old) (sym e)

        pub close_few : (x : NotLexed) → Err x ≡ lexed_end p.lexing (length old) → new ≡ end_memory p.lexing old → Closes (Err (refusal_of x)) new
        close_few x e w =
            closes _ by_last (Err (refusal_of x)) new (put_few p (λ l. closed p) p.lexing (last_tokens p.lexing) old new x (ends (Err x) e) (leaves (Err x) e w))

        pub close_given : (x : PartLexed) → Ok x ≡ lexed_end p.lexing (length old) → new ≡ end_memory p.lexing old → Closes (Ok (x.count, closed p)) new
        close_given x e w =
            closes _ by_last (Ok (x.count, closed p)) new (put_all p (λ l. closed p) p.lexing (last_tokens p.lexing) old new x (ends (Ok x) e) (leaves (Ok x) e w))
