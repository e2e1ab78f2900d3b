-- What the functions promise is what specs/Calls.antt speaks of: so its theorems are about the functions. Each is of the
-- function's own contract, what a caller learns of its `ensures`; and what stands in the lent records afterwards is told too.
use Prim.Native.Nat.{ℕ, ◌≤◌}
use mathlib.Core.Path.{◌≡◌, refl, sym, ap, ◌∙◌}
use mathlib.Core.List.{List, [], ◌++◌, map}
use lib.ListN.{length, take, drop}
use Rattle.std.specs.Prelude.{Result, Ok, Err}
use lib.Seq.{take_at}
use Rattle.text_refusals.specs.Refusals.{limit}
use Rattle.text_refusals.specs.declared.Refusal.{Refusal}
use Rattle.text_refusals.specs.declared.Refusal.TheVariants.{FewTokens}
use Rattle.text_scalars.specs.Utf8.{Utf8}
use Rattle.lexer_token.specs.declared.Token.{Token}
use Rattle.lexer_token.specs.Records.{record_of}
use Rattle.lexer.specs.Tokens.{tokens_of}
use Rattle.built_parts.specs.declared.Parts.{Parts}
use Rattle.built_parts.specs.declared.Fed.{Fed}
use Rattle.built_lexing.specs.States.{given_by, last_tokens}
use Rattle.built_parts.specs.Feeding.{no_parts, fed, stored, feed_of, close_of, feed_memory, close_memory}
use Rattle.built_lexing.proofs.PartLaws.{map_join, records_length}
use Rattle.built_parts.proofs as promised
use Rattle.theorems_parts.specs.Decided.{Decided}
use Rattle.theorems_parts.specs.Calls.{Calls, begun, answered, refused}
use Rattle.theorems_parts.proofs.Cases.{given_is, last_is}
use Rattle.theorems_parts.proofs.Calling.{calls_decided, calls_first, calls_closed}

-- A promise is about a function's lifetimes, its arguments, its result, and what its parameters hold at exit: there is a call that
-- keeps it, of which so much is said.
module _ {L : Type 0} {A R S : L → Type 0} (Promise : (κs : L) → A κs → R κs → S κs → Type 0) where
  abbrev Call : ((κs : L) → A κs → R κs → S κs → Type 0) → Type 0
  Call Says = (κs : L) × (a : A κs) × (r : R κs) × (s : S κs) × (Promise κs a r s × Says κs a r s)

-- a call of each function: `start` gives p; `feed` of p with the part s over records that hold `old` answers f and leaves `new` in
-- them; `close` likewise
abbrev pub Starts : Parts → Type 0
Starts p = Call promised.Parts.start.Reads.Learnt (λ κs a r e. r ≡ p)

abbrev pub Feeds : Parts → List ℕ → List (List ℕ) → Fed → List (List ℕ) → Type 0
Feeds p s old f new =
    Call promised.Parts.feed.Reads.Learnt
    (λ κs a r e. (a.0 ≡ p) × ((a.1.0.now ≡ s) × ((a.1.1.0.now ≡ old) × ((r ≡ f) × (e.1.1.0.now ≡ new)))))

abbrev pub Closes : Parts → List (List ℕ) → Fed → List (List ℕ) → Type 0
Closes p old f new =
    Call promised.Parts.close.Reads.Learnt
    (λ κs a r e. (a.0 ≡ p) × ((a.1.0.now ≡ old) × ((r ≡ f) × (e.1.0.now ≡ new))))

-- they are what the rules say
starts_is : (p : Parts) → Starts p → p ≡ no_parts
starts_is p (κs, a, r, e, (l, m)) = sym m ∙ l

feeds_is : (p : Parts) (s : List ℕ) (old : List (List ℕ)) (f : Fed) (new : List (List ℕ)) → Feeds p s old f new
    → (f ≡ feed_of p s (length old)) × (new ≡ feed_memory p s old)
feeds_is p s old f new (κs, a, r, e, (l, (i, (j, (k, (m, n)))))) =
    (sym m ∙ l.0 ∙ rw (i, j, k), sym n ∙ l.1.1.1.1 ∙ rw (i, j, k))

closes_is : (p : Parts) (old : List (List ℕ)) (f : Fed) (new : List (List ℕ)) → Closes p old f new
    → (f ≡ close_of p (length old)) × (new ≡ close_memory p old)
closes_is p old f new (κs, a, r, e, (l, (i, (k, (m, n))))) =
    (sym m ∙ l.0 ∙ rw (i, k), sym n ∙ l.1.1.1.1 ∙ rw (i, k))

-- ---- the records

-- the tokens that an answered call gave stand at the front of the records
front : (ts : List Token) (n : ℕ) (a : Result ℕ Refusal) (old new : List (List ℕ)) → a ≡ Ok n → length ts ≡ n → new ≡ stored a ts old → take n new ≡ map record_of ts
front ts n a old new e c w =
    let is : new ≡ map record_of ts ++ drop (length ts) old = w ∙ ap (λ (x : Result ℕ Refusal). stored x ts old) e in
    rw is (take_at (map record_of ts) (drop (length ts) old) n (records_length ts ∙ c))

module _ (p : Parts) (old new : List (List ℕ)) (f : Fed) (n : ℕ) (said : f.answer ≡ Ok n) where
  is_fed : f ≡ fed (Ok n) f.parts
  is_fed = ap (λ (x : Result ℕ Refusal). fed x f.parts) said

  feed_front : (s : List ℕ) → Feeds p s old f new
      → (feed_of p s (length old) ≡ fed (Ok n) f.parts) × (take n new ≡ map record_of (given_by p.lexing s))
  unfolding feed_memory
  feed_front s c =
      let i = feeds_is p s old f new c in
      let e : feed_of p s (length old) ≡ fed (Ok n) f.parts = sym i.0 ∙ is_fed in
      (e, front (given_by p.lexing s) n _ old new (ap (λ (x : Fed). x.answer) e) (given_is p s (length old) n f.parts e) i.1)

  close_front : Closes p old f new
      → (close_of p (length old) ≡ fed (Ok n) f.parts) × (take n new ≡ map record_of (last_tokens p.lexing))
  unfolding close_memory
  close_front c =
      let i = closes_is p old f new c in
      let e : close_of p (length old) ≡ fed (Ok n) f.parts = sym i.0 ∙ is_fed in
      (e, front (last_tokens p.lexing) n _ old new (ap (λ (x : Fed). x.answer) e) (last_is p (length old) n f.parts e) i.1)

-- ---- any number of calls

-- the bytes of the answered parts, joined; the records that these wrote, one after the other; and the state that was given last
pub data Made : List ℕ → List (List ℕ) → Parts → Type 0 where
  started : {p : Parts} → Starts p → Made [] [] p
  took : {doc : List ℕ} {rs : List (List ℕ)} {p : Parts} → Made doc rs p → (s : List ℕ) (old new : List (List ℕ)) (f : Fed) (n : ℕ)
      → Feeds p s old f new → f.answer ≡ Ok n → Made (doc ++ s) (rs ++ take n new) f.parts
  asked : {doc : List ℕ} {rs : List (List ℕ)} {p : Parts} → Made doc rs p → (s : List ℕ) (old new : List (List ℕ)) (f : Fed) (n : ℕ)
      → Feeds p s old f new → f.answer ≡ Err (FewTokens n) → Made doc rs f.parts

-- they are calls, and the records are those of the tokens
made_calls : {doc : List ℕ} {rs : List (List ℕ)} {p : Parts} → Made doc rs p → (ts : List Token) × (Calls doc ts p × (map record_of ts ≡ rs))
made_calls (started {p} c) = ([], (rw (starts_is p c) begun, refl))
made_calls (took {doc} {rs} {p} m s old new f n c e) =
    let i = made_calls m in
    let x = feed_front p old new f n e s c in (
      i.0 ++ given_by p.lexing s,
      (
        answered i.1.0 s (length old) n f.parts x.0,
        map_join i.0 (given_by p.lexing s) ∙ ap (λ (r : List (List ℕ)). r ++ map record_of (given_by p.lexing s)) i.1.1
            ∙ ap (λ (r : List (List ℕ)). rs ++ r) (sym x.1),
      ),
    )
made_calls (asked {doc} {rs} {p} m s old new f n c e) =
    let i = made_calls m in
    let is : feed_of p s (length old) ≡ fed (Err (FewTokens n)) f.parts =
    sym (feeds_is p s old f new c).0 ∙ ap (λ (x : Result ℕ Refusal). fed x f.parts) e in
    (i.0, (refused i.1.0 s (length old) n f.parts is, i.1.1))

-- what the functions wrote so far are the records of what the joined bytes decide
pub made_decided : {doc : List ℕ} {rs : List (List ℕ)} {p : Parts} → Made doc rs p → (ts : List Token) × (Decided doc ts × (map record_of ts ≡ rs))
made_decided {doc} {rs} {p} m = let i = made_calls m in (i.0, (calls_decided doc i.0 p i.1.0, i.1.1))

-- whatever follows, they are the records of the first tokens of the byte rule
pub made_first : {doc : List ℕ} {rs : List (List ℕ)} {p : Parts} → Made doc rs p → (more : List ℕ)
    → (rest : List Token) × (rs ++ map record_of rest ≡ map record_of (tokens_of (doc ++ more)))
made_first {doc} {rs} {p} m more =
    let i = made_calls m in
    let f = calls_first doc i.0 p i.1.0 more in (
      f.0,
      ap (λ (r : List (List ℕ)). r ++ map record_of f.0) (sym i.1.1) ∙ sym (map_join i.0 f.0) ∙ ap (map record_of) f.1,
    )

-- with those of the closing word they are the records of whole lexing of the joined bytes, which are UTF-8 and within the limit
pub made_closed : {doc : List ℕ} {rs : List (List ℕ)} {p : Parts} → Made doc rs p → (old new : List (List ℕ)) (f : Fed) (n : ℕ)
    → Closes p old f new → f.answer ≡ Ok n → (rs ++ take n new ≡ map record_of (tokens_of doc)) × ((length doc ≤ limit) × Utf8 doc)
made_closed {doc} {rs} {p} m old new f n c e =
    let i = made_calls m in
    let x = close_front p old new f n e c in
    let w = calls_closed doc i.0 p i.1.0 (length old) n f.parts x.0 in (
      ap (λ (r : List (List ℕ)). r ++ take n new) (sym i.1.1) ∙ ap (λ (r : List (List ℕ)). map record_of i.0 ++ r) x.1
          ∙ sym (map_join i.0 (last_tokens p.lexing)) ∙ ap (map record_of) w.tokens,
      (w.within, w.valid),
    )
