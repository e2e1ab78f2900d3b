-- One byte by its turn, and bytes by the turns of each: what they give, and the state after them, with its places and lines.
-- Assumes nothing.
use Prim.Native.Nat.{ℕ, suc, ◌+◌, ◌≤◌, ◌<◌}
use mathlib.Core.Path.{◌≡◌, refl, ap, ◌∙◌}
use mathlib.Core.List.{List, [], ◌∷◌, ◌++◌}
use native.Mathlib.Omega.{arith}
use native.Mathlib.Numerals.{add-one}
use lib.ListN.{length, take, drop, get_or, drop_of_length-le}
use lib.Seq.{drop-cons}
use lib.Dec.{eqb}
use Rattle.text_classes.proofs.Conds.{cond_case}
use Rattle.lexer_token.specs.declared.TokenKind.{TokenKind}
use Rattle.lexer_token.specs.declared.Token.{Token}
use Rattle.lexer.specs.Lines.{line_feeds, line_behind}
use Rattle.lexer.specs.Table.{kind_of}
use Rattle.lexer.proofs.LineLaws.{behind_front, feeds_none}
use Rattle.built_bytes.specs.declared.Mode.{Mode}
use Rattle.built_bytes.specs.declared.Turn.{Turn}
use Rattle.built_bytes.specs.declared.Turn.TheVariants.{Opens, Single, More, Ends, Apart, Skipped}
use Rattle.built_bytes.specs.Turns.{opening, turn_of}
use Rattle.built_bytes.specs.Rests.{Busy, rest_len, rest_kind, Runs, stay, on}
use Rattle.built_bytes.proofs.RestLaws.{Goes, more, ends, apart, goes, OpensTo, opens, single, opened}
use Rattle.built_lexing.specs.declared.states.Lexing.{Lexing}
use Rattle.built_lexing.specs.States.{lexing_of, idle_at, token_from, moved_by, moved_from, moved, tokens_in, gives, given_by, state_after}

-- ---- places and lines

next_at : (t : Turn) (l : Lexing) (b : ℕ) → (moved_by t l b).next.at ≡ l.at + 1
next_at (Opens m) l b = refl
next_at (Single k) l b = refl
next_at (More m) l b = refl
next_at (Ends k) l b = refl
next_at (Apart k) l b = refl
next_at Skipped l b = refl

next_line : (t : Turn) (l : Lexing) (b : ℕ) → (moved_by t l b).next.line ≡ line_behind l.line b
next_line (Opens m) l b = refl
next_line (Single k) l b = refl
next_line (More m) l b = refl
next_line (Ends k) l b = refl
next_line (Apart k) l b = refl
next_line Skipped l b = refl

from_at : (t : Turn) (l : Lexing) (b : ℕ) → (moved_from t l b).next.at ≡ l.at + 1
from_at (Opens m) l b = refl
from_at (Single k) l b = refl
from_at (More m) l b = refl
from_at (Ends k) l b = refl
from_at (Apart k) l b = next_at (opening b) (idle_at l.at l.line) b
from_at Skipped l b = refl

from_line : (t : Turn) (l : Lexing) (b : ℕ) → (moved_from t l b).next.line ≡ line_behind l.line b
from_line (Opens m) l b = refl
from_line (Single k) l b = refl
from_line (More m) l b = refl
from_line (Ends k) l b = refl
from_line (Apart k) l b = next_line (opening b) (idle_at l.at l.line) b
from_line Skipped l b = refl

pub behind_le : (line b : ℕ) → line_behind line b ≤ line + 1
behind_le line b = cond_case (λ (n : ℕ). n ≤ line + 1) (eqb b 10) (λ _. omega arith) (λ _. omega arith)

module _ (l : Lexing) (b : ℕ) where
  -- a byte moves the place on by one
  pub moved_at : (moved l b).next.at ≡ l.at + 1
  unfolding moved
  moved_at = from_at (turn_of l.mode b) l b

  -- a line that does not pass its place plus 1 does not after it either
  pub moved_low : l.line ≤ l.at + 1 → (moved l b).next.line ≤ (moved l b).next.at + 1
  unfolding moved
  moved_low h = omega (arith, from_line (turn_of l.mode b) l b, from_at (turn_of l.mode b) l b, behind_le l.line b)

-- ---- one byte, by its turn

-- two lists of tokens and two states, the same
abbrev pub Alike : Lexing → List ℕ → List Token → Lexing → List ℕ → Type 0
Alike l s ts m t = (given_by l s ≡ ts ++ given_by m t) × (state_after l s ≡ state_after m t)

-- the state in which the token in progress goes on
abbrev more_to : Lexing → Mode → ℕ → Lexing
more_to l m b = lexing_of m l.start l.first (l.at + 1) (line_behind l.line b)

module _ (l : Lexing) (b : ℕ) (s : List ℕ) where
  pub step_more : (m : Mode) → turn_of l.mode b ≡ More m → Alike l (b ∷ s) [] (more_to l m b) s
  unfolding given_by state_after moved
  step_more m e = (rw e, rw e)

  pub step_ends : (k : TokenKind) → turn_of l.mode b ≡ Ends k
      → Alike l (b ∷ s) (token_from k l (l.at + 1) ∷ []) (idle_at (l.at + 1) (line_behind l.line b)) s
  unfolding given_by state_after moved
  step_ends k e = (rw e, rw e)

  -- what a first byte gives does not depend on whether a token ended before it
  open_alike : (at line : ℕ) (t : Turn) → opening b ≡ t → OpensTo b s (kind_of (b ∷ s)) t
      → moved_from (opening b) (idle_at at line) b ≡ moved_by (opening b) (idle_at at line) b
  open_alike at line t e (opens w n k) = rw e
  open_alike at line t e (single n k) = rw e

  open_before : (t : Turn) (m : Lexing) → tokens_in (moved_by t m b).before ≡ []
  open_before (Opens m) l = refl
  open_before (Single k) l = refl
  open_before (More m) l = refl
  open_before (Ends k) l = refl
  open_before (Apart k) l = refl
  open_before Skipped l = refl

  idle_moves : (at line : ℕ) → moved (idle_at at line) b ≡ moved_by (opening b) (idle_at at line) b
  unfolding moved turn_of
  idle_moves at line = open_alike at line (opening b) refl (opened b s)

  pub step_apart : (k : TokenKind) → turn_of l.mode b ≡ Apart k
      → Alike l (b ∷ s) (token_from k l l.at ∷ []) (idle_at l.at l.line) (b ∷ s)
  unfolding given_by state_after moved
  step_apart k e =
      let i = idle_moves l.at l.line in
      let none = open_before (opening b) (idle_at l.at l.line) in
      (rw (e, i, none), rw (e, i))

-- ---- the token in progress, to its end

-- the state after n bytes with which a token ended
abbrev pub end_state : Lexing → ℕ → List ℕ → Lexing
end_state l n s = idle_at (l.at + n) (l.line + line_feeds (take n s))

idle_same : {a b c d : ℕ} → a ≡ b → c ≡ d → idle_at a c ≡ idle_at b d
idle_same p q = rw (p, q)

-- one byte more in front
end_more : (l : Lexing) (m : Mode) (b n : ℕ) (s : List ℕ) → end_state (more_to l m b) n s ≡ end_state l (suc n) (b ∷ s)
end_more l m b n s = idle_same (omega arith) (behind_front l.line b (take n s))

end_one : (l : Lexing) (b : ℕ) (s : List ℕ) → idle_at (l.at + 1) (line_behind l.line b) ≡ end_state l 1 (b ∷ s)
end_one l b s = idle_same refl (omega (arith, behind_front l.line b [], feeds_none))

end_none : (l : Lexing) (s : List ℕ) → idle_at l.at l.line ≡ end_state l 0 s
end_none l s = idle_same (omega arith) (omega (arith, feeds_none))

-- the token in progress is given where whole lexing ends it, if a byte is there, and nothing else happens on the way
abbrev pub Wholly : Lexing → ℕ → TokenKind → List ℕ → Type 0
Wholly l n k s = Alike l s (token_from k l (l.at + n) ∷ []) (end_state l n s) (drop n s)

wholly_more : (l : Lexing) (b : ℕ) (s : List ℕ) (m : Mode) (n : ℕ) (k : TokenKind) → turn_of l.mode b ≡ More m
    → Wholly (more_to l m b) n k s → Wholly l (suc n) k (b ∷ s)
wholly_more l b s m n k e w =
    let first = step_more l b s m e in
    let at : l.at + 1 + n ≡ l.at + suc n = omega arith in
    let ends = end_more l m b n s in (
      first.0 ∙ w.0 ∙ ap (λ (e : ℕ). token_from k l e ∷ given_by (end_state (more_to l m b) n s) (drop n s)) at
          ∙ ap (λ (x : Lexing). token_from k l (l.at + suc n) ∷ given_by x (drop n s)) ends,
      first.1 ∙ w.1 ∙ ap (λ (x : Lexing). state_after x (drop n s)) ends,
    )

wholly_ends : (l : Lexing) (b : ℕ) (s : List ℕ) (k : TokenKind) → turn_of l.mode b ≡ Ends k → Wholly l 1 k (b ∷ s)
wholly_ends l b s k e =
    let first = step_ends l b s k e in
    let ends = end_one l b s in
    (first.0 ∙ rw ends, first.1 ∙ rw ends)

wholly_apart : (l : Lexing) (b : ℕ) (s : List ℕ) (k : TokenKind) → turn_of l.mode b ≡ Apart k → Wholly l 0 k (b ∷ s)
wholly_apart l b s k e =
    let first = step_apart l b s k e in
    let ends = end_none l (b ∷ s) in
    let at : l.at ≡ l.at + 0 = omega arith in (
      first.0 ∙ ap (λ (t : Token). t ∷ given_by (idle_at l.at l.line) (b ∷ s)) (ap (token_from k l) at)
          ∙ ap (λ (m : Lexing). token_from k l (l.at + 0) ∷ given_by m (b ∷ s)) ends,
      first.1 ∙ ap (λ (m : Lexing). state_after m (b ∷ s)) ends,
    )

wholly_by : (l : Lexing) (b : ℕ) (s : List ℕ) → ((m : Lexing) → Busy m.mode → rest_len m.mode s < length s
    → Wholly m (rest_len m.mode s) (rest_kind m.mode s) s)
    → rest_len l.mode (b ∷ s) < suc (length s) → (t : Turn) → turn_of l.mode b ≡ t → Goes l.mode b s t
    → Wholly l (rest_len l.mode (b ∷ s)) (rest_kind l.mode (b ∷ s)) (b ∷ s)
wholly_by l b s f h t e (more {n} w len kind) =
    rw (len, kind) (wholly_more l b s n (rest_len n s) (rest_kind n s) e (f (more_to l n b) w (omega arith)))
wholly_by l b s f h t e (ends {k} len kind) = rw (len, kind) (wholly_ends l b s k e)
wholly_by l b s f h t e (apart {k} len kind) = rw (len, kind) (wholly_apart l b s k e)

pub wholly : (s : List ℕ) (l : Lexing) → Busy l.mode → rest_len l.mode s < length s
    → Wholly l (rest_len l.mode s) (rest_kind l.mode s) s
wholly [] l w h = absurd (omega arith)
wholly (b ∷ s) l w h = wholly_by l b s (wholly s) h (turn_of l.mode b) refl (goes l.mode w b s)

-- ---- bytes that lead from one mode to another

abbrev pub ran_to : Lexing → Mode → List ℕ → Lexing
ran_to l m u = lexing_of m l.start l.first (l.at + length u) (l.line + line_feeds u)

ran_none : (l : Lexing) → l ≡ ran_to l l.mode []
ran_none l =
    let at : l.at ≡ l.at + 0 = omega arith in
    let line : l.line ≡ l.line + line_feeds [] = omega (arith, feeds_none) in
    ap (λ (n : ℕ). lexing_of l.mode l.start l.first n l.line) at
    ∙ ap (λ (n : ℕ). lexing_of l.mode l.start l.first (l.at + 0) n) line

ran_more : (l : Lexing) (n m : Mode) (b : ℕ) (u : List ℕ) → ran_to (more_to l n b) m u ≡ ran_to l m (b ∷ u)
ran_more l n m b u =
    let at : l.at + 1 + length u ≡ l.at + suc (length u) = omega arith in
    ap (λ (k : ℕ). lexing_of m l.start l.first k (line_behind l.line b + line_feeds u)) at
    ∙ ap (λ (k : ℕ). lexing_of m l.start l.first (l.at + suc (length u)) k) (behind_front l.line b u)

ran_by : {n m : Mode} {u : List ℕ} → Runs n u m → (l : Lexing) → l.mode ≡ n → (t : List ℕ) → Alike l (u ++ t) [] (ran_to l m u) t
ran_by (stay {m}) l e t =
    let same : l ≡ ran_to l m [] = ran_none l ∙ ap (λ (n : Mode). ran_to l n []) e in
    (ap (λ (k : Lexing). given_by k t) same, ap (λ (k : Lexing). state_after k t) same)
ran_by (on {m} {n} {o} {b} {s} g r) l e t =
    let first = step_more l b (s ++ t) n (ap (λ (k : Mode). turn_of k b) e ∙ g) in
    let rest = ran_by r (more_to l n b) refl t in
    let same = ran_more l n o b s in
    (first.0 ∙ rest.0 ∙ ap (λ (k : Lexing). given_by k t) same, first.1 ∙ rest.1 ∙ ap (λ (k : Lexing). state_after k t) same)

pub ran : {m : Mode} {u : List ℕ} (l : Lexing) → Runs l.mode u m → (t : List ℕ) → Alike l (u ++ t) [] (ran_to l m u) t
ran l r t = ran_by r l refl t

-- ---- at a place of a part

module _ (s : List ℕ) (i : ℕ) where
  pub given_at : (l : Lexing) → i < length s
      → given_by l (drop i s) ≡ gives (moved l (get_or s i 0)) ++ given_by (moved l (get_or s i 0)).next (drop (i + 1) s)
  unfolding given_by
  given_at l h = rw (add-one, drop-cons s i 0)

  pub after_at : (l : Lexing) → i < length s → state_after l (drop i s) ≡ state_after (moved l (get_or s i 0)).next (drop (i + 1) s)
  unfolding state_after
  after_at l h = rw (add-one, drop-cons s i 0)

  pub given_end : (l : Lexing) → length s ≤ i → given_by l (drop i s) ≡ []
  unfolding given_by
  given_end l h = rw (drop_of_length-le s h)

  pub after_end : (l : Lexing) → length s ≤ i → state_after l (drop i s) ≡ l
  unfolding state_after
  after_end l h = rw (drop_of_length-le s h)
