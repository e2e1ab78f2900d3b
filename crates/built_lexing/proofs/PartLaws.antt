-- The loop over a part: what was stored so far and what is still given make up what the whole part gives.
-- Assumes nothing.
use Prim.Native.Nat.{ℕ, suc, ◌+◌, ◌≤◌, ◌<◌}
use mathlib.Core.Path.{◌≡◌, refl, sym, ap, ◌∙◌}
use mathlib.Core.List.{List, [], ◌∷◌, ◌++◌, append_assoc, map}
use native.Mathlib.Omega.{arith}
use native.Mathlib.Nat.{add-zero}
use lib.ListN.{length, get_or, drop, set, length-append}
use lib.Seq.{sets, length-sets}
use Rattle.lexer_token.specs.declared.Token.{Token}
use Rattle.lexer_token.specs.Records.{record_of}
use Rattle.built_lexing.specs.declared.states.Lexing.{Lexing}
use Rattle.built_lexing.specs.declared.states.Moved.{Moved}
use Rattle.built_lexing.specs.declared.ahead.Leapt.{Leapt}
use Rattle.built_lexing.specs.States.{moved, tokens_in, gives, given_by, state_after}
use Rattle.built_lexing.specs.Leaps.{LeaptTo}
use Rattle.built_lexing.proofs.StepLaws.{moved_at, moved_low, given_at, after_at, given_end, after_end}
use Rattle.built_lexing.proofs.CountLaws.{given_few}

pub map_join : (xs ys : List Token) → map record_of (xs ++ ys) ≡ map record_of xs ++ map record_of ys
map_join [] ys = refl
map_join (x ∷ xs) ys = ap (λ (z : List (List ℕ)). record_of x ∷ z) (map_join xs ys)

pub records_length : (xs : List Token) → length (map record_of xs) ≡ length xs
records_length [] = refl
records_length (x ∷ xs) = ap suc (records_length xs)

sets_append : {A : Type 0} (l : List A) (n : ℕ) (xs ys : List A) → sets l n (xs ++ ys) ≡ sets (sets l n xs) (n + length xs) ys
sets_append l n [] ys = rw add-zero
sets_append l n (x ∷ xs) ys =
    let e : n + suc (length xs) ≡ suc n + length xs = omega arith in
    rw e (sets_append (set l n x) (suc n) xs ys)

-- two runs of stores, one after the other
pub stores_join : (old new : List (List ℕ)) (n m : ℕ) (xs ys : List Token) → m ≡ n + length xs → new ≡ sets old n (map record_of xs)
    → sets new m (map record_of ys) ≡ sets old n (map record_of (xs ++ ys))
stores_join old new n m xs ys a b =
    rw (map_join xs ys, sets_append old n (map record_of xs) (map record_of ys), records_length xs, ← b, ← a)

-- n of all tokens are stored, and those of `left` are not yet
pub record Stored (all : List Token) (old : List (List ℕ)) (n : ℕ) (new : List (List ℕ)) (left : List Token) : Type 0 where
  pub count : n + length left ≡ length all
  pub room : length new ≡ length old
  pub stores : sets new n (map record_of left) ≡ sets old 0 (map record_of all)

pub stored_none : (all : List Token) (old : List (List ℕ)) → Stored all old 0 old all
stored_none all old = record { count = omega arith; room = refl; stores = refl }

pub stored_on : {all : List Token} {old : List (List ℕ)} {n : ℕ} {new : List (List ℕ)} {left : List Token} (ts rest : List Token) (m : ℕ) (then : List (List ℕ))
    → Stored all old n new left → left ≡ ts ++ rest → m ≡ n + length ts → then ≡ sets new n (map record_of ts) → Stored all old m then rest
stored_on {all} {old} {n} {new} {left} ts rest m then s e a b = record {
  count = omega (arith, s.count, ap length e ∙ length-append ts rest);
  room = ap length b ∙ length-sets new n (map record_of ts) ∙ s.room;
  stores = stores_join new then n m ts rest a b ∙ ap (λ (z : List Token). sets new n (map record_of z)) (sym e) ∙ s.stores;
}

pub stored_all : {all : List Token} {old : List (List ℕ)} {n : ℕ} {new : List (List ℕ)} {left : List Token} → Stored all old n new left → left ≡ []
    → (n ≡ length all) × (new ≡ sets old 0 (map record_of all))
stored_all {all} {old} {n} {new} {left} s e = (
  omega (arith, s.count, ap length e),
  ap (λ (z : List Token). sets new n (map record_of z)) (sym e) ∙ s.stores,
)

-- ---- the turns of the loop over a part s, from the state l₀ on

pub record Underway (s : List ℕ) (from : Lexing) (old : List (List ℕ)) (new : List (List ℕ)) (l : Lexing) (n i : ℕ) : Type 0 where
  pub within : i ≤ length s
  pub at : l.at ≡ from.at + i
  pub low : l.line ≤ l.at + 1
  pub stored : Stored (given_by from s) old n new (given_by l (drop i s))
  pub after : state_after l (drop i s) ≡ state_after from s

module _ (s : List ℕ) (from : Lexing) (old : List (List ℕ)) where
  pub underway : from.line ≤ from.at + 1 → Underway s from old old from 0 0
  underway h = record { within = omega arith; at = omega arith; low = h; stored = stored_none (given_by from s) old; after = refl }

  -- as many tokens as there are bytes, and one
  pub few_stored : {new : List (List ℕ)} {l : Lexing} {n i : ℕ} → Underway s from old new l n i → n ≤ length s + 1
  few_stored u = omega (arith, u.stored.count, given_few from s)

  -- a token or bytes taken at once
  pub leapt : {new : List (List ℕ)} {l : Lexing} {n i : ℕ} → Underway s from old new l n i → (r : Leapt) → LeaptTo l s i r → (m : ℕ) (then : List (List ℕ))
      → m ≡ n + length (tokens_in r.given) → then ≡ sets new n (map record_of (tokens_in r.given))
      → Underway s from old then r.next m r.place
  leapt u r h m then a b = record {
    within = h.within;
    at = omega (arith, h.at, h.forward, u.at, u.within);
    low = h.low;
    stored = stored_on (tokens_in r.given) (given_by r.next (drop r.place s)) m then u.stored h.gives a b;
    after = sym h.after ∙ u.after;
  }

  -- one byte
  pub stepped : {new : List (List ℕ)} {l : Lexing} {n i : ℕ} → Underway s from old new l n i → i < length s → (r : Moved) → r ≡ moved l (get_or s i 0)
      → (m k : ℕ) (then last : List (List ℕ)) → m ≡ n + length (tokens_in r.before) → then ≡ sets new n (map record_of (tokens_in r.before))
      → k ≡ m + length (tokens_in r.through) → last ≡ sets then m (map record_of (tokens_in r.through))
      → Underway s from old last r.next k (i + 1)
  stepped {new} {l} {n} {i} u h r e m k then last a b c d =
      let rest = given_by r.next (drop (i + 1) s) in
      let all : given_by l (drop i s) ≡ tokens_in r.before ++ (tokens_in r.through ++ rest) =
      given_at s i l h ∙ ap (λ (x : Moved). gives x ++ given_by x.next (drop (i + 1) s)) (sym e)
      ∙ append_assoc (tokens_in r.before) (tokens_in r.through) rest in
      let once = stored_on (tokens_in r.before) (tokens_in r.through ++ rest) m then u.stored all a b in
      record {
        within = omega arith;
        at = ap (λ (x : Moved). x.next.at) e ∙ moved_at l (get_or s i 0) ∙ omega (arith, u.at);
        low = rw e (moved_low l (get_or s i 0) u.low);
        stored = stored_on (tokens_in r.through) rest k last once refl c d;
        after = ap (λ (x : Moved). state_after x.next (drop (i + 1) s)) e ∙ sym (after_at s i l h) ∙ u.after;
      }

  -- the end
  pub arrived : {new : List (List ℕ)} {l : Lexing} {n i : ℕ} → Underway s from old new l n i → length s ≤ i
      → record { count : n ≡ length (given_by from s); next : l ≡ state_after from s; memory : new ≡ sets old 0 (map record_of (given_by from s)) }
  arrived {new} {l} {n} {i} u h =
      let x = stored_all u.stored (given_end s i l h) in
      record { count = x.0; next = sym (after_end s i l h) ∙ u.after; memory = x.1 }
