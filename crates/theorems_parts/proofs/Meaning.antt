-- What is still to come from a state is what the token rules say of the bytes to come; so the tokens that bytes give, and those
-- at the closing word, are those of the joined bytes.
use Prim.Native.Nat.{ℕ, suc, ◌+◌}
use mathlib.Core.Path.{◌≡◌, refl, sym, ap, ◌∙◌, subst}
use mathlib.Core.Bool.{Bool, true, false, cond, ◌&&◌}
use mathlib.Core.List.{List, [], ◌∷◌, ◌++◌, append_assoc, append-nil}
use native.Mathlib.Omega.{arith}
use Rattle.std.specs.Prelude.{Some}
use native.Mathlib.Nat.{add-zero, zero-add}
use borrow.Author.Tests.{eqb-true}
use lib.ListN.{take, drop}
use lib.Dec.{eqb}
use Rattle.text_classes.specs.Classes.{wschar, token_start}
use Rattle.text_classes.specs.Runs.{run, stands}
use Rattle.lexer_scans.specs.Extents.{in_atom, line_tail, ml_tail, up_to_two}
use Rattle.lexer_token.specs.declared.TokenKind.{TokenKind}
use Rattle.lexer_token.specs.declared.TokenKind.TheVariants.{Atom}
use Rattle.lexer_token.specs.declared.Token.{Token}
use Rattle.lexer.specs.Lines.{line_feeds, line_behind}
use Rattle.lexer.specs.Table.{kind_by, kind_of, extent, token_len}
use Rattle.lexer.specs.Tokens.{eof_at, tokens_from, has_bom, start_of, tokens_of}
use Rattle.lexer.proofs.TokenLaws.{tokens_cons, tokens_none}
use Rattle.lexer.proofs.LineLaws.{behind_front, feeds_none}
use Rattle.built_bytes.specs.declared.Mode.{Mode}
use Rattle.built_bytes.specs.declared.Mode.TheVariants.{Start, Bom1, Bom2, Idle, Blanks, Remark, Word, Return, One, Two, Line, Ml, MlOne, MlTwo, Shut, ShutOne}
use Rattle.built_bytes.specs.declared.Turn.{Turn}
use Rattle.built_bytes.specs.declared.Turn.TheVariants.{Opens, Single, More, Apart, Skipped}
use Rattle.built_bytes.specs.Turns.{opening, turn_of, pending_of}
use Rattle.built_bytes.specs.Rests.{Busy, rest_len, rest_kind}
use Rattle.built_bytes.proofs.RestLaws.{Goes, more, ends, apart, goes, OpensTo, opens, single, opened}
use Rattle.built_lexing.specs.declared.states.Lexing.{Lexing}
use Rattle.built_lexing.specs.declared.states.Moved.{Moved}
use Rattle.built_lexing.specs.States.{lexing_of, idle_at, unread, token_from, moved_by, moved_from, moved, tokens_in, gives, given_by, state_after, last_tokens}

-- the token in progress as whole lexing ends it, and the tokens after it
abbrev pub goes_on : TokenKind → ℕ → Lexing → List ℕ → List Token
goes_on k n l s = token_from k l (l.at + n) ∷ tokens_from (l.at + n) (l.line + line_feeds (take n s)) (drop n s)

abbrev pub in_progress : Mode → Lexing → List ℕ → List Token
in_progress m l s = goes_on (rest_kind m s) (rest_len m s) l s

-- what is still to come, by the mode
abbrev pub means : Mode → Lexing → List ℕ → List Token
means Start l s = tokens_from (l.at + start_of s) l.line (drop (start_of s) s)
means Bom1 l s =
    cond (stands 0xBB s && stands 0xBF (drop 1 s)) (tokens_from (l.at + 2) l.line (drop 2 s)) (in_progress Word l s)
means Bom2 l s = cond (stands 0xBF s) (tokens_from (l.at + 1) l.line (drop 1 s)) (in_progress Word l s)
means Idle l s = tokens_from l.at l.line s
means Blanks l s = in_progress Blanks l s
means Remark l s = in_progress Remark l s
means Word l s = in_progress Word l s
means Return l s = in_progress Return l s
means (One q) l s = in_progress (One q) l s
means (Two q) l s = in_progress (Two q) l s
means (Line q h) l s = in_progress (Line q h) l s
means (Ml q h) l s = in_progress (Ml q h) l s
means (MlOne q) l s = in_progress (MlOne q) l s
means (MlTwo q) l s = in_progress (MlTwo q) l s
means (Shut q) l s = in_progress (Shut q) l s
means (ShutOne q) l s = in_progress (ShutOne q) l s

abbrev pub to_come : Lexing → List ℕ → List Token
to_come l s = means l.mode l s

busy_means : (m : Mode) → Busy m → (l : Lexing) (s : List ℕ) → means m l s ≡ in_progress m l s
busy_means Start w l s = absurd w
busy_means Bom1 w l s = absurd w
busy_means Bom2 w l s = absurd w
busy_means Idle w l s = absurd w
busy_means Blanks w l s = refl
busy_means Remark w l s = refl
busy_means Word w l s = refl
busy_means Return w l s = refl
busy_means (One q) w l s = refl
busy_means (Two q) w l s = refl
busy_means (Line q h) w l s = refl
busy_means (Ml q h) w l s = refl
busy_means (MlOne q) w l s = refl
busy_means (MlTwo q) w l s = refl
busy_means (Shut q) w l s = refl
busy_means (ShutOne q) w l s = refl

-- ---- places and lines

from_same : {a b c d : ℕ} (s : List ℕ) → a ≡ b → c ≡ d → tokens_from a c s ≡ tokens_from b d s
from_same s p q = rw (p, q)

-- the token in progress over one byte more in front
on_more : (k : TokenKind) (n : ℕ) (l : Lexing) (m : Mode) (b : ℕ) (s : List ℕ)
    → goes_on k n (lexing_of m l.start l.first (l.at + 1) (line_behind l.line b)) s ≡ goes_on k (suc n) l (b ∷ s)
on_more k n l m b s =
    let at : l.at + 1 + n ≡ l.at + suc n = omega arith in
    ap (λ (e : ℕ). token_from k l e ∷ tokens_from e (line_behind l.line b + line_feeds (take n s)) (drop n s)) at
    ∙ ap (λ (e : ℕ). token_from k l (l.at + suc n) ∷ tokens_from (l.at + suc n) e (drop n s)) (behind_front l.line b (take n s))

one_line : (line b : ℕ) (s : List ℕ) → line_behind line b ≡ line + line_feeds (take 1 (b ∷ s))
one_line line b s = omega (arith, behind_front line b [], feeds_none)

on_one : (k : TokenKind) (l : Lexing) (b : ℕ) (s : List ℕ)
    → token_from k l (l.at + 1) ∷ tokens_from (l.at + 1) (line_behind l.line b) s ≡ goes_on k 1 l (b ∷ s)
on_one k l b s = ap (λ (e : ℕ). token_from k l (l.at + 1) ∷ tokens_from (l.at + 1) e s) (one_line l.line b s)

on_none : (k : TokenKind) (l : Lexing) (s : List ℕ) → token_from k l l.at ∷ tokens_from l.at l.line s ≡ goes_on k 0 l s
on_none k l s =
    let at : l.at ≡ l.at + 0 = omega arith in
    let line : l.line ≡ l.line + line_feeds [] = omega (arith, feeds_none) in
    ap (λ (e : ℕ). token_from k l e ∷ tokens_from e l.line s) at
    ∙ ap (λ (e : ℕ). token_from k l (l.at + 0) ∷ tokens_from (l.at + 0) e s) line

-- ---- the first byte of a token

abbrev Comes : Moved → List ℕ → List Token → Type 0
Comes m s ts = gives m ++ to_come m.next s ≡ ts

first_token : (at line b : ℕ) (s : List ℕ) (k : TokenKind) (n : ℕ) → kind_of (b ∷ s) ≡ k → extent (kind_of (b ∷ s)) (b ∷ s) ≡ n
    → goes_on k n (idle_at at line) (b ∷ s) ≡ tokens_from at line (b ∷ s)
unfolding token_len
first_token at line b s k n e f = rw (← e, ← f) (sym (tokens_cons at line (b ∷ s) (omega arith)))

open_by : (l : Lexing) (b : ℕ) (s : List ℕ) (t : Turn) → OpensTo b s (kind_of (b ∷ s)) t
    → Comes (moved_from t l b) s (tokens_from l.at l.line (b ∷ s))
open_by l b s t (opens {m} w n k) =
    busy_means m w (lexing_of m l.at l.line (l.at + 1) (line_behind l.line b)) s
    ∙ on_more (rest_kind m s) (rest_len m s) (idle_at l.at l.line) m b s
    ∙ first_token l.at l.line b s (rest_kind m s) (suc (rest_len m s)) k n
open_by l b s t (single {k} n e) =
    on_one k (idle_at l.at l.line) b s ∙ first_token l.at l.line b s k 1 e n

open_comes : (l : Lexing) (b : ℕ) (s : List ℕ) → Comes (moved_from (opening b) l b) s (tokens_from l.at l.line (b ∷ s))
open_comes l b s = open_by l b s (opening b) (opened b s)

-- the same where a token ended before it
open_after : (l : Lexing) (b : ℕ) (s : List ℕ) (t : Turn) → OpensTo b s (kind_of (b ∷ s)) t
    → tokens_in (moved_by t l b).through ++ to_come (moved_by t l b).next s ≡ tokens_from l.at l.line (b ∷ s)
open_after l b s t (opens {m} w n k) = open_by l b s (Opens m) (opens {m = m} w n k)
open_after l b s t (single {k} n e) = open_by l b s (Single k) (single {k = k} n e)

apart_comes : (k : TokenKind) (l : Lexing) (b : ℕ) (s : List ℕ) → Comes (moved_from (Apart k) l b) s (goes_on k 0 l (b ∷ s))
apart_comes k l b s =
    ap (λ (ts : List Token). token_from k l l.at ∷ ts) (open_after (idle_at l.at l.line) b s (opening b) (opened b s))
    ∙ on_none k l (b ∷ s)

-- ---- one byte

busy_by : (m : Mode) (l : Lexing) (b : ℕ) (s : List ℕ) (t : Turn) → Goes m b s t → Comes (moved_from t l b) s (in_progress m l (b ∷ s))
busy_by m l b s t (more {n} w len kind) =
    busy_means n w (lexing_of n l.start l.first (l.at + 1) (line_behind l.line b)) s
    ∙ on_more (rest_kind n s) (rest_len n s) l n b s ∙ rw (len, kind)
busy_by m l b s t (ends {k} len kind) = on_one k l b s ∙ rw (len, kind)
busy_by m l b s t (apart {k} len kind) = apart_comes k l b s ∙ rw (len, kind)

busy_comes : (m : Mode) → Busy m → (l : Lexing) (b : ℕ) (s : List ℕ) → Comes (moved_from (turn_of m b) l b) s (means m l (b ∷ s))
busy_comes m w l b s = busy_by m l b s (turn_of m b) (goes m w b s) ∙ sym (busy_means m w l (b ∷ s))

-- ---- the byte order mark

word_turn : (b : ℕ) → turn_of Word b ≡ cond (in_atom b) (More Word) (Apart Atom)
unfolding turn_of
word_turn b = refl

word_comes : (l : Lexing) (b : ℕ) (s : List ℕ) → Comes (moved_from (cond (in_atom b) (More Word) (Apart Atom)) l b) s (in_progress Word l (b ∷ s))
word_comes l b s =
    subst (λ (t : Turn). Comes (moved_from t l b) s (in_progress Word l (b ∷ s))) (word_turn b) (busy_comes Word tt l b s)

no_mark : (l : Lexing) (s : List ℕ) → has_bom s ≡ false → means Start l s ≡ tokens_from l.at l.line s
unfolding start_of
no_mark l s e = rw (e, add-zero)

-- EF as the first byte of an Atom
atom_comes : (l : Lexing) (s : List ℕ)
    → in_progress Word (lexing_of Word l.at l.line (l.at + 1) l.line) s ≡ tokens_from l.at l.line (0xEF ∷ s)
unfolding opening kind_by wschar
atom_comes l s = open_comes l 0xEF s

start_mark : (l : Lexing) (s : List ℕ) → Comes (moved_from (Opens Bom1) l 0xEF) s (means Start l (0xEF ∷ s))
unfolding start_of
start_mark l s = go (stands 0xBB s && stands 0xBF (drop 1 s)) (atom_comes l s)
  where
    go : (x : Bool) → in_progress Word (lexing_of Word l.at l.line (l.at + 1) l.line) s ≡ tokens_from l.at l.line (0xEF ∷ s)
        → cond x (tokens_from (l.at + 1 + 2) l.line (drop 2 s)) (in_progress Word (lexing_of Bom1 l.at l.line (l.at + 1) l.line) s)
        ≡ tokens_from (l.at + cond x 3 0) l.line (drop (cond x 3 0) (0xEF ∷ s))
    go true e = from_same (drop 2 s) (omega arith) refl
    go false e = e ∙ from_same (0xEF ∷ s) (omega arith) refl

start_comes : (l : Lexing) (b : ℕ) (s : List ℕ) (x : Bool) → eqb b 0xEF ≡ x
    → Comes (moved_from (cond x (Opens Bom1) (opening b)) l b) s (means Start l (b ∷ s))
start_comes l b s true e = rw (eqb-true b 0xEF e) (start_mark l s)
start_comes l b s false e = open_comes l b s ∙ sym (no_mark l (b ∷ s) (rw e))

one_comes : (l : Lexing) (b : ℕ) (s : List ℕ) (x : Bool) → eqb b 0xBB ≡ x
    → Comes (moved_from (cond x (More Bom2) (cond (in_atom b) (More Word) (Apart Atom))) l b) s (means Bom1 l (b ∷ s))
unfolding token_start
one_comes l b s true e = rw (eqb-true b 0xBB e) (go (stands 0xBF s) (word_comes l 0xBB s))
  where
    go : (x : Bool) → in_progress Word (lexing_of Word l.start l.first (l.at + 1) l.line) s ≡ in_progress Word l (0xBB ∷ s)
        → cond x (tokens_from (l.at + 1 + 1) l.line (drop 1 s)) (in_progress Word (lexing_of Bom2 l.start l.first (l.at + 1) l.line) s)
        ≡ cond x (tokens_from (l.at + 2) l.line (drop 1 s)) (in_progress Word l (0xBB ∷ s))
    go true f = from_same (drop 1 s) (omega arith) refl
    go false f = f
one_comes l b s false e = word_comes l b s ∙ rw e

two_comes : (l : Lexing) (b : ℕ) (s : List ℕ) (x : Bool) → eqb b 0xBF ≡ x
    → Comes (moved_from (cond x Skipped (cond (in_atom b) (More Word) (Apart Atom))) l b) s (means Bom2 l (b ∷ s))
two_comes l b s true e = rw (eqb-true b 0xBF e)
two_comes l b s false e = word_comes l b s ∙ rw e

mode_comes : (m : Mode) (l : Lexing) (b : ℕ) (s : List ℕ) → Comes (moved_from (turn_of m b) l b) s (means m l (b ∷ s))
unfolding turn_of
mode_comes Start l b s = start_comes l b s (eqb b 0xEF) refl
mode_comes Bom1 l b s = one_comes l b s (eqb b 0xBB) refl
mode_comes Bom2 l b s = two_comes l b s (eqb b 0xBF) refl
mode_comes Idle l b s = open_comes l b s
mode_comes Blanks l b s = busy_comes Blanks tt l b s
mode_comes Remark l b s = busy_comes Remark tt l b s
mode_comes Word l b s = busy_comes Word tt l b s
mode_comes Return l b s = busy_comes Return tt l b s
mode_comes (One q) l b s = busy_comes (One q) tt l b s
mode_comes (Two q) l b s = busy_comes (Two q) tt l b s
mode_comes (Line q h) l b s = busy_comes (Line q h) tt l b s
mode_comes (Ml q h) l b s = busy_comes (Ml q h) tt l b s
mode_comes (MlOne q) l b s = busy_comes (MlOne q) tt l b s
mode_comes (MlTwo q) l b s = busy_comes (MlTwo q) tt l b s
mode_comes (Shut q) l b s = busy_comes (Shut q) tt l b s
mode_comes (ShutOne q) l b s = busy_comes (ShutOne q) tt l b s

step_comes : (l : Lexing) (b : ℕ) (s : List ℕ) → Comes (moved l b) s (to_come l (b ∷ s))
unfolding moved
step_comes l b s = mode_comes l.mode l b s

-- ---- many bytes

pub given_comes : (l : Lexing) (p e : List ℕ) → given_by l p ++ to_come (state_after l p) e ≡ to_come l (p ++ e)
unfolding given_by state_after
given_comes l [] e = refl
given_comes l (b ∷ p) e =
    append_assoc (gives (moved l b)) (given_by (moved l b).next p) (to_come (state_after (moved l b).next p) e)
    ∙ ap (λ (x : List Token). gives (moved l b) ++ x) (given_comes (moved l b).next p e)
    ∙ step_comes l b (p ++ e)

-- ---- the closing word

last_busy : (m : Mode) (l : Lexing) → pending_of l.mode ≡ Some (rest_kind m []) → rest_len m [] ≡ 0 → last_tokens l ≡ in_progress m l []
unfolding last_tokens
last_busy m l e f =
    rw (e, f) (ap (λ (ts : List Token). token_from (rest_kind m []) l l.at ∷ ts) (sym (tokens_none l.at l.line))
    ∙ on_none (rest_kind m []) l [])

last_idle : (l : Lexing) → eof_at l.at l.line ∷ [] ≡ tokens_from (l.at + 0) l.line []
last_idle l = rw add-zero (sym (tokens_none l.at l.line))

last_mode : (m : Mode) (start first at line : ℕ) → last_tokens (lexing_of m start first at line) ≡ means m (lexing_of m start first at line) []
unfolding last_tokens pending_of start_of run line_tail ml_tail up_to_two
last_mode Start start first at line = last_idle (lexing_of Start start first at line)
last_mode Bom1 start first at line = last_busy Word (lexing_of Bom1 start first at line) refl refl
last_mode Bom2 start first at line = last_busy Word (lexing_of Bom2 start first at line) refl refl
last_mode Idle start first at line = sym (tokens_none at line)
last_mode Blanks start first at line = last_busy Blanks (lexing_of Blanks start first at line) refl refl
last_mode Remark start first at line = last_busy Remark (lexing_of Remark start first at line) refl refl
last_mode Word start first at line = last_busy Word (lexing_of Word start first at line) refl refl
last_mode Return start first at line = last_busy Return (lexing_of Return start first at line) refl refl
last_mode (One q) start first at line = last_busy (One q) (lexing_of (One q) start first at line) refl refl
last_mode (Two q) start first at line = last_busy (Two q) (lexing_of (Two q) start first at line) refl refl
last_mode (Line q h) start first at line = last_busy (Line q h) (lexing_of (Line q h) start first at line) refl refl
last_mode (Ml q h) start first at line = last_busy (Ml q h) (lexing_of (Ml q h) start first at line) refl refl
last_mode (MlOne q) start first at line = last_busy (MlOne q) (lexing_of (MlOne q) start first at line) refl refl
last_mode (MlTwo q) start first at line = last_busy (MlTwo q) (lexing_of (MlTwo q) start first at line) refl refl
last_mode (Shut q) start first at line = last_busy (Shut q) (lexing_of (Shut q) start first at line) refl refl
last_mode (ShutOne q) start first at line = last_busy (ShutOne q) (lexing_of (ShutOne q) start first at line) refl refl

pub last_comes : (l : Lexing) → last_tokens l ≡ to_come l []
last_comes l = last_mode l.mode l.start l.first l.at l.line

-- ---- part by part

pub state_join : (l : Lexing) (p e : List ℕ) → state_after l (p ++ e) ≡ state_after (state_after l p) e
unfolding state_after
state_join l [] e = refl
state_join l (b ∷ p) e = state_join (moved l b).next p e

pub given_join : (l : Lexing) (p e : List ℕ) → given_by l (p ++ e) ≡ given_by l p ++ given_by (state_after l p) e
unfolding given_by state_after
given_join l [] e = refl
given_join l (b ∷ p) e =
    ap (λ (x : List Token). gives (moved l b) ++ x) (given_join (moved l b).next p e)
    ∙ sym (append_assoc (gives (moved l b)) (given_by (moved l b).next p) (given_by (state_after (moved l b).next p) e))

-- ---- from the start

start_tokens : (s : List ℕ) → to_come unread s ≡ tokens_of s
unfolding tokens_of
start_tokens s = ap (λ (n : ℕ). tokens_from n 1 (drop (start_of s) s)) (zero-add (start_of s))

-- what some bytes give, and what is to come after them, are the tokens of all
pub tokens_parts : (p e : List ℕ) → given_by unread p ++ to_come (state_after unread p) e ≡ tokens_of (p ++ e)
tokens_parts p e = given_comes unread p e ∙ start_tokens (p ++ e)

-- what some bytes give, and then the last tokens, are their tokens
pub tokens_closed : (p : List ℕ) → given_by unread p ++ last_tokens (state_after unread p) ≡ tokens_of p
tokens_closed p =
    ap (λ (x : List Token). given_by unread p ++ x) (last_comes (state_after unread p))
    ∙ tokens_parts p [] ∙ ap tokens_of (append-nil p)
