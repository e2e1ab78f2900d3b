-- The tokens that begin before a place, turn by turn, and the runs of stores that write them.
-- Assumes nothing.
use Prim.Native.Nat.{ℕ, zero, suc, pred, ◌+◌, ◌-◌, ◌≤◌, ◌<◌}
use mathlib.Core.Path.{◌≡◌, refl, sym, ap, ◌∙◌, subst}
use mathlib.Core.List.{List, [], ◌∷◌, ◌++◌, map}
use native.Mathlib.Omega.{arith}
use native.Mathlib.Numerals.{add-one}
use native.Mathlib.Decide.{dec_lt}
use borrow.Author.Tests.{lt-ltb, le-ltb}
use lib.ListN.{length, get_or, take, drop, set, length-set, length-drop, length-append}
use lib.Seq.{sets, sets-eq, drop-cons, drop-drop, append_snoc, set-append_seam}
use Rattle.lexer_token.specs.declared.Token.{Token}
use Rattle.lexer_token.specs.Records.{record_of}
use Rattle.lexer.specs.Lines.{line_feeds, line_behind}
use Rattle.lexer.specs.Table.{token_len}
use Rattle.lexer.specs.Tokens.{token_at, eof_at, line_after, walk, tokens_from, start_of, tokens_of}
use Rattle.lexer.specs.Loops.{before, tokens_until, line_past, line_until, place_past, place_until, GoesOn, store}
use Rattle.lexer.proofs.TokenLaws.{end_at, tokens_step, tokens_end, token_fits_at, token_long_at, line_fits_at, start_fits}
use Rattle.lexer.proofs.LineLaws.{feeds_none, feeds_end, feeds_split, behind_front}

module _ (doc : List ℕ) (stop at line : ℕ) where
  pub until_step : at < stop → stop ≤ length doc
      → tokens_until stop at line doc
      ≡ token_at at line (drop at doc) ∷ tokens_until stop (end_at doc at) (line_after line (drop at doc)) doc
  unfolding before
  until_step h l =
      let within : at < length doc = omega arith in
      rw (tokens_step doc at line within, lt-ltb at stop h)

  pub until_stop : stop ≤ at → tokens_until stop at line doc ≡ []
  unfolding before
  until_stop h =
      elim (dec_lt at (length doc)) [
        | yes l ↦ rw (tokens_step doc at line l, le-ltb at stop h)
        | no l ↦ rw (tokens_end doc at line (omega arith), le-ltb at stop h)
      ]

-- the one that begins at a place
pub until_one : (doc : List ℕ) (at line : ℕ) → at < length doc
    → tokens_until (at + 1) at line doc ≡ token_at at line (drop at doc) ∷ []
until_one doc at line h =
    let long = token_long_at doc at h in
    until_step doc (at + 1) at line (omega arith) (omega arith)
    ∙ ap (λ (r : List Token). token_at at line (drop at doc) ∷ r)
    (until_stop doc (at + 1) (end_at doc at) (line_after line (drop at doc)) (omega arith))

-- no more than the bytes before the stop
pub until_few : (n : ℕ) (doc : List ℕ) (stop at line : ℕ) → stop ≤ at + n → stop ≤ length doc
    → length (tokens_until stop at line doc) ≤ n
until_few zero doc stop at line h l = omega (arith, ap length (until_stop doc stop at line (omega arith)))
until_few (suc n) doc stop at line h l =
    elim (dec_lt at stop) [
      | yes w ↦
          let long = token_long_at doc at (omega arith) in
          let rest = until_few n doc stop (end_at doc at) (line_after line (drop at doc)) (omega arith) l in
          omega (arith, ap length (until_step doc stop at line w l))
      | no w ↦ omega (arith, ap length (until_stop doc stop at line (omega arith)))
    ]

-- all of them, and Eof
abbrev All : ℕ → ℕ → List Token → Type 0
All end line ts = ts ≡ before end ts ++ (eof_at end line ∷ [])

all_by : (ts : List Token) {a b l m : ℕ} → a ≡ b → l ≡ m → All a l ts → All b m ts
all_by ts {a} {b} {l} {m} p q x = subst (λ (n : ℕ). All b n ts) q (subst (λ (n : ℕ). All n l ts) p x)

walk_until : (at line k : ℕ) (s : List ℕ) → All (at + length s) (line + line_feeds s) (walk at line k s)
unfolding walk before
walk_until at line k [] =
    let same : at + 0 ≡ at = omega arith in
    let on : line + line_feeds [] ≡ line = omega (arith, feeds_none) in
    rw (same, on, le-ltb at at (omega arith))
walk_until at line zero (b ∷ s) =
    let k = pred (token_len (b ∷ s)) in
    let on = line_behind line b in
    let rest : All (at + suc (length s)) (line + line_feeds (b ∷ s)) (walk (at + 1) on k s) =
    all_by (walk (at + 1) on k s) (omega arith) (behind_front line b s) (walk_until (at + 1) on k s) in
    let h : at < at + suc (length s) = omega arith in
    rw (lt-ltb at (at + suc (length s)) h) (ap (λ (r : List Token). token_at at line (b ∷ s) ∷ r) rest)
walk_until at line (suc k) (b ∷ s) =
    let on = line_behind line b in
    all_by (walk (at + 1) on k s) (omega arith) (behind_front line b s) (walk_until (at + 1) on k s)

-- Eof, on the line after all LFs
abbrev pub eof_of : List ℕ → Token
eof_of doc = eof_at (length doc) (1 + line_feeds (drop (start_of doc) doc))

-- the tokens before it
abbrev pub tokens_before : List ℕ → List Token
tokens_before doc = tokens_until (length doc) (start_of doc) 1 doc

pub until_all : (doc : List ℕ) → tokens_of doc ≡ tokens_before doc ++ (eof_of doc ∷ [])
unfolding tokens_of tokens_from
until_all doc =
    let at = start_of doc in
    let same : at + length (drop at doc) ≡ length doc = omega (arith, length-drop at doc, start_fits doc) in
    rw same at (walk_until at 1 0 (drop at doc))

pub until_count : (doc : List ℕ) → length (tokens_before doc) + 1 ≡ length (tokens_of doc)
until_count doc = sym (ap length (until_all doc) ∙ length-append (tokens_before doc) (eof_of doc ∷ []))

-- ---- the line after them

pub past_step : (doc : List ℕ) (at line : ℕ) (ts : List Token)
    → line_past doc line (token_at at line (drop at doc) ∷ ts) ≡ line_past doc (line_after line (drop at doc)) ts
unfolding line_past
past_step doc at line ts =
    let n = token_len (drop at doc) in
    let same : at + n - at ≡ n = omega arith in
    ap (λ (k : ℕ). line_past doc (line + line_feeds (take k (drop at doc))) ts) same

pub past_none : (doc : List ℕ) (line : ℕ) → line_past doc line [] ≡ line
unfolding line_past
past_none doc line = refl

-- the line after the tokens from a place to the end counts the LFs from there on
abbrev PastAll : List ℕ → ℕ → ℕ → Type 0
PastAll doc at line = line_until (length doc) at line doc ≡ line + line_feeds (drop at doc)

past_end : (doc : List ℕ) (at line : ℕ) → length doc ≤ at → PastAll doc at line
past_end doc at line l =
    rw (until_stop doc (length doc) at line l) (past_none doc line ∙ omega (arith, feeds_end doc at l))

past_from : (n : ℕ) (doc : List ℕ) (at line : ℕ) → at ≤ length doc → length doc ≤ at + n → PastAll doc at line
past_from zero doc at line h l = past_end doc at line (omega arith)
past_from (suc n) doc at line h l =
    elim (dec_lt at (length doc)) [
      | yes w ↦
          let k = token_len (drop at doc) in
          let long = token_long_at doc at w in
          rw (until_step doc (length doc) at line w (omega arith))
          (past_step doc at line (tokens_until (length doc) (at + k) (line_after line (drop at doc)) doc)
          ∙ past_from n doc (at + k) (line_after line (drop at doc)) (token_fits_at doc at h) (omega arith)
          ∙ omega (arith, feeds_split k (drop at doc), ap line_feeds (drop-drop k at doc)))
      | no w ↦ past_end doc at line (omega arith)
    ]

pub past_all : (doc : List ℕ) (at line : ℕ) → at ≤ length doc → PastAll doc at line
past_all doc at line h = past_from (length doc) doc at line h (omega arith)

-- ---- the place after them

pub ends_step : (doc : List ℕ) (at line : ℕ) (ts : List Token)
    → place_past at (token_at at line (drop at doc) ∷ ts) ≡ place_past (end_at doc at) ts
unfolding place_past
ends_step doc at line ts = refl

pub ends_none : (at : ℕ) → place_past at [] ≡ at
unfolding place_past
ends_none at = refl

-- ---- a loop over them

module _ (doc : List ℕ) (stop start first : ℕ) (old : List (List ℕ)) where
  -- from `at` on, with n records stored, it leaves what it leaves from `start` on
  pub record Underway (at line n : ℕ) (new : List (List ℕ)) : Type 0 where
    pub within : at ≤ length doc
    pub few : n ≤ at
    pub low : line ≤ at + 1
    pub room : length new ≡ length old
    pub counts : (end : ℕ) → stop ≤ end → end ≤ length doc
        → n + length (tokens_until end at line doc) ≡ length (tokens_until end start first doc)
    pub behind : line_until stop at line doc ≡ line_until stop start first doc
    pub ends : place_until stop at line doc ≡ place_until stop start first doc
    pub stores : store stop at line doc n new ≡ store stop start first doc 0 old

  -- a turn stores the first of the tokens still to come
  turned : {at line n : ℕ} {new : List (List ℕ)} → Underway at line n new → at < stop → stop ≤ length doc
      → Underway (end_at doc at) (line_after line (drop at doc)) (n + 1) (set new n (record_of (token_at at line (drop at doc))))
  turned {at} {line} {n} {new} u h l =
      let here = record_of (token_at at line (drop at doc)) in
      let rest = tokens_until stop (end_at doc at) (line_after line (drop at doc)) doc in
      let turn = until_step doc stop at line h l in
      let behind = sym (ap (line_past doc line) turn ∙ past_step doc at line rest) in
      let ends = sym (ap (place_past at) turn ∙ ends_step doc at line rest) in
      record {
        within = token_fits_at doc at u.within;
        few = omega (arith, token_long_at doc at (omega arith));
        low = line_fits_at doc at line u.low;
        room = length-set new n here ∙ u.room;
        counts = λ e p q. omega (arith, u.counts e p q, ap length (until_step doc e at line (omega (arith, p)) q));
        behind = behind ∙ u.behind;
        ends = ends ∙ u.ends;
        stores = rw (add-one n) (ap (λ (ts : List Token). sets new n (map record_of ts)) (sym turn) ∙ u.stores);
      }

  -- the same by an equal place, line and record
  pub turned_by : {at line n end behind : ℕ} {new : List (List ℕ)} {r : List ℕ} → Underway at line n new → at < stop → stop ≤ length doc
      → end ≡ end_at doc at → behind ≡ line_after line (drop at doc) → r ≡ record_of (token_at at line (drop at doc))
      → Underway end behind (n + 1) (set new n r)
  turned_by u h l e b f = rw (e, b, f) (turned u h l)

  -- before the stop a record is left, where there are enough
  pub has_room : {at line n : ℕ} {new : List (List ℕ)} → Underway at line n new → at < stop → stop ≤ length doc
      → length (tokens_until stop start first doc) ≤ length old → n < length new
  has_room {at} {line} {n} {new} u h l m =
      omega (arith, u.counts stop (omega arith) l, u.room, ap length (until_step doc stop at line h l))

  -- past the stop none is left
  pub arrived : {at line n : ℕ} {new : List (List ℕ)} → Underway at line n new → stop ≤ at
      → (n ≡ length (tokens_until stop start first doc))
      × ((line ≡ line_until stop start first doc)
      × (GoesOn doc stop start first (record { count = n; place = at; line = line }) × (new ≡ store stop start first doc 0 old)))
  arrived {at} {line} {n} {new} u h =
      let done = until_stop doc stop at line h in (
        omega (arith, u.counts stop (omega arith) (omega (arith, u.within)), ap length done),
        (
          sym (ap (line_past doc line) done ∙ past_none doc line) ∙ u.behind,
          (
            record {
              reached = sym (ap (place_past at) done ∙ ends_none at) ∙ u.ends;
              within = u.within;
              far = h;
              low = u.low;
              counts = u.counts;
            },
            ap (λ (ts : List Token). sets new n (map record_of ts)) (sym done) ∙ u.stores,
          ),
        ),
      )

-- ---- stores

-- a run of stores to the front, and one more after it
pub sets_last : {A : Type 0} (old new : List A) (a : A) → length new + 1 ≤ length old
    → set (sets old 0 new) (length new) a ≡ (new ++ (a ∷ [])) ++ drop (length new + 1) old
sets_last {A} old new a h =
    let n = length new in
    let none : 0 + n ≡ n = omega arith in
    let l : n < length old = omega arith in
    let all = sets-eq new old 0 (omega arith) ∙ ap (λ (k : ℕ). new ++ drop k old) none in
    ap (λ (x : List A). set x n a) (all ∙ ap (λ (x : List A). new ++ x) (drop-cons old n a l))
    ∙ set-append_seam new (get_or old n a) (drop (suc n) old) a
    ∙ sym (append_snoc new a (drop (suc n) old))
    ∙ ap (λ (k : ℕ). (new ++ (a ∷ [])) ++ drop k old) (sym (add-one n))
