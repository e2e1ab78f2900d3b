-- The tokens that are whole within a part: a first byte by what it opens, the rest of the token by a look ahead, and token after
-- token, with what is stored and what is still given.
-- Assumes nothing.
use Prim.Native.Nat.{ℕ, ◌+◌, ◌-◌, ◌≤◌, ◌<◌}
use mathlib.Core.Path.{◌≡◌, refl, sym, ap, ◌∙◌, subst}
use mathlib.Core.Bool.{false}
use mathlib.Core.List.{List, [], ◌∷◌, ◌++◌, map}
use native.Mathlib.Omega.{arith}
use Rattle.std.specs.Prelude.{Some, None}
use lib.ListN.{length, get_or, drop, length-append}
use lib.Seq.{sets, length-sets}
use lib.Dec.{eqb}
use Rattle.lexer_token.specs.declared.TokenKind.{TokenKind}
use Rattle.lexer_token.specs.Records.{record_of, token_of}
use Rattle.lexer.specs.Lines.{line_behind}
use Rattle.lexer.specs.Table.{kind_of}
use Rattle.built_bytes.specs.declared.Mode.{Mode}
use Rattle.built_bytes.specs.declared.Mode.TheVariants.{Idle}
use Rattle.built_bytes.specs.declared.Turn.{Turn}
use Rattle.built_bytes.specs.declared.Turn.TheVariants.{Opens, Single}
use Rattle.built_bytes.specs.Turns.{opening, turn_of}
use Rattle.built_bytes.proofs.RestLaws.{OpensTo, opens, single, opened}
use Rattle.built_ahead.specs.declared.Ahead.{Ahead}
use Rattle.built_ahead.specs.declared.Ahead.TheVariants.{Whole, Open}
use Rattle.built_ahead.specs.Ahead.{Looked, TokenAt, past, alone, longer}
use Rattle.built_lexing.specs.declared.states.Lexing.{Lexing}
use Rattle.built_lexing.specs.declared.states.Moved.{Moved}
use Rattle.built_lexing.specs.declared.ahead.Leapt.{Leapt}
use Rattle.built_lexing.specs.States.{lexing_of, idle_at, moved_from, moved, tokens_in, gives, given_by, state_after}
use Rattle.built_lexing.specs.Leaps.{LeaptTo}
use Rattle.built_lexing.specs.Whole.{Onward}
use Rattle.built_lexing.proofs.StepLaws.{behind_le, given_at, after_at}
use Rattle.built_lexing.proofs.LeapLaws.{whole_found, open_found, whole_leap, open_leap}
use Rattle.built_lexing.proofs.PartLaws.{stores_join, Underway, leapt}

-- ---- the token that begins at a place, whatever its place in the document and its line

-- it ends at the place e, and was taken whole
pub record TokenTo (s : List ℕ) (i : ℕ) (k : TokenKind) (e feeds : ℕ) : Type 0 where
  pub forward : i < e
  pub within : e ≤ length s
  pub few : feeds ≤ e - i
  pub taken : (at line : ℕ) → line ≤ at + 1 → LeaptTo (idle_at at line) s i
      (record { given = Some (token_of k at (at + (e - i)) line); next = idle_at (at + (e - i)) (line + feeds); place = e })

-- or it goes on, and is in the mode m at the place e
pub record OpenTo (s : List ℕ) (i : ℕ) (m : Mode) (e feeds : ℕ) : Type 0 where
  pub forward : i ≤ e
  pub within : e ≤ length s
  pub few : feeds ≤ e - i
  pub led : (at line : ℕ) → line ≤ at + 1 → LeaptTo (idle_at at line) s i
      (record { given = None; next = lexing_of m at line (at + (e - i)) (line + feeds); place = e })

abbrev TakenAt : List ℕ → ℕ → Ahead → Type 0
TakenAt s i (Whole k e feeds) = TokenTo s i k e feeds
TakenAt s i (Open m e feeds) = OpenTo s i m e feeds

-- ---- the first byte, between two tokens

abbrev started_by : Mode → ℕ → ℕ → Lexing
started_by m at line = lexing_of m at line (at + 1) line

module _ (at line b : ℕ) where
  first_single : (k : TokenKind) → opening b ≡ Single k → moved (idle_at at line) b
      ≡ record { before = None; through = Some (token_of k at (at + 1) line); next = idle_at (at + 1) (line_behind line b) }
  unfolding moved turn_of
  first_single k e = rw e

  first_opens : (m : Mode) → opening b ≡ Opens m → eqb b 10 ≡ false → moved (idle_at at line) b
      ≡ record { before = None; through = None; next = started_by m at line }
  unfolding moved turn_of
  first_opens m e n = rw (e, n)

module _ (s : List ℕ) (i : ℕ) (inside : i < length s) where
  -- a byte that is a token of its own
  single_at : (k : TokenKind) (f : ℕ) → opening (get_or s i 0) ≡ Single k → ((line : ℕ) → line_behind line (get_or s i 0) ≡ line + f)
      → TokenTo s i k (i + 1) f
  single_at k f e lines = record {
    forward = omega arith;
    within = omega arith;
    few = omega (arith, lines 0, behind_le 0 (get_or s i 0));
    taken = λ at line low.
        let m = first_single at line (get_or s i 0) k e in
        let n : 1 ≡ i + 1 - i = omega arith in
        let same : idle_at (at + 1) (line_behind line (get_or s i 0)) ≡ idle_at (at + (i + 1 - i)) (line + f) = rw (lines line, ← n) in
        record {
          forward = omega arith;
          within = omega arith;
          at = refl;
          low = omega (arith, lines 0, behind_le 0 (get_or s i 0));
          gives = given_at s i (idle_at at line) inside ∙ rw (m, same, ← n);
          after = after_at s i (idle_at at line) inside ∙ rw (m, same);
        };
  }

  -- a byte that opens a token, before a leap
  opened_leap : (m : Mode) → opening (get_or s i 0) ≡ Opens m → eqb (get_or s i 0) 10 ≡ false → (at line : ℕ) (r : Leapt)
      → r.next.at ≡ at + (r.place - i) → LeaptTo (started_by m at line) s (i + 1) r → LeaptTo (idle_at at line) s i r
  opened_leap m o n at line r is h =
      let x = first_opens at line (get_or s i 0) m o n in
      record {
        forward = omega (arith, h.forward);
        within = h.within;
        at = is;
        low = h.low;
        gives = given_at s i (idle_at at line) inside ∙ rw x h.gives;
        after = after_at s i (idle_at at line) inside ∙ rw x h.after;
      }

  -- what a look ahead of it found
  opens_at : (m : Mode) → opening (get_or s i 0) ≡ Opens m → eqb (get_or s i 0) 10 ≡ false → (x : Ahead) → Looked m s (i + 1) x → TakenAt s i x
  opens_at m o n (Whole k e f) h =
      let w = whole_found m s (i + 1) (omega arith) (Whole k e f) k e f refl h in
      record {
        forward = omega (arith, w.1.0);
        within = w.1.1.0;
        few = omega (arith, w.1.0, w.1.1.1);
        taken = λ at line low.
            opened_leap m o n at line _ refl
            (whole_leap (started_by m at line) s (i + 1) (omega arith) (omega arith) k e f (at + (e - i)) (line + f) w.0 (omega (arith, w.1.0)) refl);
      }
  opens_at m o n (Open k e f) h =
      let w = open_found m s (i + 1) (omega arith) (Open k e f) k e f refl h in
      record {
        forward = omega (arith, w.1.0);
        within = w.1.1.0;
        few = omega (arith, w.1.0, w.1.1.1);
        led = λ at line low.
            opened_leap m o n at line _ refl
            (open_leap (started_by m at line) s (i + 1) (omega arith) (omega arith) k e f (at + (e - i)) (line + f) w.0 (omega (arith, w.1.0)) refl);
      }

-- the end of the part
none_at : (s : List ℕ) (i : ℕ) → i ≤ length s → OpenTo s i Idle i 0
none_at s i h = record {
  forward = omega arith;
  within = h;
  few = omega arith;
  led = λ at line low.
      let n : i - i ≡ 0 = omega arith in
      let same : idle_at at line ≡ lexing_of Idle at line (at + (i - i)) (line + 0) =
      ap (λ (k : ℕ). lexing_of Idle at line k line) (omega arith) ∙ ap (λ (k : ℕ). lexing_of Idle at line (at + (i - i)) k) (omega arith) in
      record {
        forward = omega arith;
        within = h;
        at = refl;
        low = omega arith;
        gives = ap (λ (m : Lexing). given_by m (drop i s)) same;
        after = ap (λ (m : Lexing). state_after m (drop i s)) same;
      };
}

taken_at : (s : List ℕ) (i : ℕ) → i ≤ length s → (x : Ahead) → TokenAt s i x → TakenAt s i x
taken_at s i h x (past over) = none_at s i h
taken_at s i h x (alone {k} {feeds} inside o lines) = single_at s i inside k feeds o lines
taken_at s i h x (longer {m} inside o n looked) = opens_at s i inside m o n x looked

module _ (s : List ℕ) (i : ℕ) (h : i ≤ length s) where
  pub token_found : (x : Ahead) (k : TokenKind) (e f : ℕ) → x ≡ Whole k e f → TokenAt s i x → TokenTo s i k e f
  token_found x k e f is w = subst (TakenAt s i) is (taken_at s i h x w)

  pub open_token : (x : Ahead) (m : Mode) (e f : ℕ) → x ≡ Open m e f → TokenAt s i x → OpenTo s i m e f
  open_token x m e f is w = subst (TakenAt s i) is (taken_at s i h x w)

-- ---- a state between two tokens

idle_open : (l : Lexing) (b : ℕ) (s : List ℕ) (t : Turn) → opening b ≡ t → OpensTo b s (kind_of (b ∷ s)) t
    → moved_from (opening b) l b ≡ moved_from (opening b) (idle_at l.at l.line) b
idle_open l b s t e (opens w n k) = rw e
idle_open l b s t e (single n k) = rw e

-- it is known by its place and its line, where a byte follows
idle_moved : (l : Lexing) (b : ℕ) → l.mode ≡ Idle → moved l b ≡ moved (idle_at l.at l.line) b
unfolding moved turn_of
idle_moved l b e = ap (λ (m : Mode). moved_from (turn_of m b) l b) e ∙ idle_open l b [] (opening b) refl (opened b [])

-- ---- token after token

module _ (s : List ℕ) where
  -- nothing passed
  pub onward_none : (l : Lexing) (i n : ℕ) (old : List (List ℕ)) → i ≤ length s → l.line ≤ l.at + 1 → Onward l s i n old l i n old
  onward_none l i n old h low =
      record { forward = omega arith; within = h; at = omega arith; low = low; count = refl; room = refl; stores = refl; after = refl }

  -- one token more
  pub onward_leapt : {l m : Lexing} {i n j k : ℕ} {old new : List (List ℕ)} → Onward l s i n old m j k new → (r : Leapt) → LeaptTo m s j r
      → (q : ℕ) (then : List (List ℕ)) → q ≡ k + length (tokens_in r.given) → then ≡ sets new k (map record_of (tokens_in r.given))
      → Onward l s i n old r.next r.place q then
  onward_leapt {l} {m} {i} {n} {j} {k} {old} {new} u r h q then a b =
      let ts = tokens_in r.given in
      let rest = given_by r.next (drop r.place s) in
      record {
        forward = omega (arith, u.forward, h.forward);
        within = h.within;
        at = omega (arith, u.at, h.at, u.forward, h.forward);
        low = h.low;
        count = omega (arith, u.count, ap length h.gives ∙ length-append ts rest);
        room = ap length b ∙ length-sets new k (map record_of ts) ∙ u.room;
        stores = stores_join new then k q ts rest a b ∙ ap (λ (z : List _). sets new k (map record_of z)) (sym h.gives) ∙ u.stores;
        after = u.after ∙ h.after;
      }

  -- no token more, and a part of the next one
  pub onward_open : {l m : Lexing} {i n j k : ℕ} {old new : List (List ℕ)} → Onward l s i n old m j k new → (next : Lexing) (e : ℕ)
      → LeaptTo m s j (record { given = None; next = next; place = e }) → Onward l s i n old next e k new
  onward_open {l} {m} {i} {n} {j} {k} {old} {new} u next e h = onward_leapt u _ h k new (omega arith) refl

  -- from any state between two tokens, where a byte follows
  module _ (l : Lexing) (i : ℕ) (e : l.mode ≡ Idle) (h : i < length s) where
    pub idle_given : given_by l (drop i s) ≡ given_by (idle_at l.at l.line) (drop i s)
    idle_given =
        given_at s i l h ∙ ap (λ (y : Moved). gives y ++ given_by y.next (drop (i + 1) s)) (idle_moved l (get_or s i 0) e)
        ∙ sym (given_at s i (idle_at l.at l.line) h)

    idle_after : state_after l (drop i s) ≡ state_after (idle_at l.at l.line) (drop i s)
    idle_after =
        after_at s i l h ∙ ap (λ (y : Moved). state_after y.next (drop (i + 1) s)) (idle_moved l (get_or s i 0) e)
        ∙ sym (after_at s i (idle_at l.at l.line) h)

    pub onward_idle : {m : Lexing} {n j k : ℕ} {old new : List (List ℕ)} → Onward (idle_at l.at l.line) s i n old m j k new
        → Onward l s i n old m j k new
    onward_idle u = record {
      forward = u.forward;
      within = u.within;
      at = u.at;
      low = u.low;
      count = rw idle_given u.count;
      room = u.room;
      stores = rw idle_given u.stores;
      after = idle_after ∙ u.after;
    }

  -- onward in the loop over a part
  pub passed : {from l m : Lexing} {old new then : List (List ℕ)} {n i j k : ℕ} → Underway s from old new l n i → Onward l s i n new m j k then
      → Underway s from old then m k j
  passed u w = record {
    within = w.within;
    at = omega (arith, u.at, w.at, w.forward);
    low = w.low;
    stored = record {
      count = w.count ∙ u.stored.count;
      room = w.room ∙ u.stored.room;
      stores = w.stores ∙ u.stored.stores;
    };
    after = sym w.after ∙ u.after;
  }

  -- and in one turn of it: a leap over the token in progress, and then the whole tokens
  pub leapt_passed : {from l m : Lexing} {old new after then : List (List ℕ)} {n i j k q : ℕ} {r : Leapt} → Underway s from old new l n i → LeaptTo l s i r
      → q ≡ n + length (tokens_in r.given) → after ≡ sets new n (map record_of (tokens_in r.given))
      → Onward r.next s r.place q after m j k then → Underway s from old then m k j
  leapt_passed {from} {l} {m} {old} {new} {after} {then} {n} {i} {j} {k} {q} {r} u h a b w = passed (leapt s from old u r h q after a b) w
