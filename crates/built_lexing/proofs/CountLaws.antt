-- A part gives at most one token more than it has bytes: so many records always suffice.
-- Assumes nothing.
use Prim.Native.Nat.{ℕ, ◌+◌, ◌≤◌}
use mathlib.Core.Path.{◌≡◌, refl}
use mathlib.Core.Bool.{true, false}
use mathlib.Core.List.{List, [], ◌∷◌}
use native.Mathlib.Omega.{arith}
use Rattle.std.specs.Prelude.{Option, Some, None}
use Rattle.std.specs.Option.{is_some}
use Rattle.lexer_token.specs.declared.Token.{Token}
use lib.ListN.{length, length-append}
use lib.Dec.{eqb}
use Rattle.text_classes.proofs.Conds.{cond_case}
use Rattle.lexer_token.specs.declared.TokenKind.{TokenKind}
use Rattle.lexer.specs.Table.{kind_of}
use Rattle.built_bytes.specs.declared.Mode.{Mode}
use Rattle.built_bytes.specs.declared.Mode.TheVariants.{Start, Bom1, Bom2, Idle, Blanks, Remark, Word, Return, One, Two, Line, Ml, MlOne, MlTwo, Shut, ShutOne}
use Rattle.built_bytes.specs.declared.Turn.{Turn}
use Rattle.built_bytes.specs.declared.Turn.TheVariants.{Opens, Single, More, Ends, Apart, Skipped}
use Rattle.built_bytes.specs.Turns.{opening, turn_of}
use Rattle.built_bytes.proofs.RestLaws.{OpensTo, opens, single, opened}
use Rattle.built_lexing.specs.declared.states.Lexing.{Lexing}
use Rattle.built_lexing.specs.declared.states.Moved.{Moved}
use Rattle.built_lexing.specs.States.{idle_at, moved_by, moved_from, moved, tokens_in, gives, given_by, state_after}

-- 1 where a token is in progress
abbrev pub going : Mode → ℕ
going Start = 0
going Bom1 = 1
going Bom2 = 1
going Idle = 0
going Blanks = 1
going Remark = 1
going Word = 1
going Return = 1
going (One q) = 1
going (Two q) = 1
going (Line q h) = 1
going (Ml q h) = 1
going (MlOne q) = 1
going (MlTwo q) = 1
going (Shut q) = 1
going (ShutOne q) = 1

pub going_one : (m : Mode) → going m ≤ 1
going_one Start = omega arith
going_one Bom1 = omega arith
going_one Bom2 = omega arith
going_one Idle = omega arith
going_one Blanks = omega arith
going_one Remark = omega arith
going_one Word = omega arith
going_one Return = omega arith
going_one (One q) = omega arith
going_one (Two q) = omega arith
going_one (Line q h) = omega arith
going_one (Ml q h) = omega arith
going_one (MlOne q) = omega arith
going_one (MlTwo q) = omega arith
going_one (Shut q) = omega arith
going_one (ShutOne q) = omega arith

-- no first byte ends a token before it
open_not : {P : Type 0} (b : ℕ) (k : TokenKind) → opening b ≡ Apart k → P
open_not b k e = go (opening b) e (opened b [])
  where
    go : {P : Type 0} (t : Turn) → t ≡ Apart k → OpensTo b [] (kind_of (b ∷ [])) t → P
    go t f (opens w n l) = let z : ◌≡◌ {A = ℕ} 0 1 = cc in absurd (omega arith)
    go t f (single n l) = let z : ◌≡◌ {A = ℕ} 0 1 = cc in absurd (omega arith)

-- a byte ends a token before it only where one is in progress
apart_going : (m : Mode) (b : ℕ) (k : TokenKind) → turn_of m b ≡ Apart k → going m ≡ 1
unfolding turn_of
apart_going Start b k =
    cond_case (λ (t : Turn). t ≡ Apart k → going Start ≡ 1) (eqb b 0xEF)
    (λ _ e. let z : ◌≡◌ {A = ℕ} 0 1 = cc in absurd (omega arith)) (λ _ e. open_not b k e)
apart_going Bom1 b k = λ e. refl
apart_going Bom2 b k = λ e. refl
apart_going Idle b k = λ e. open_not b k e
apart_going Blanks b k = λ e. refl
apart_going Remark b k = λ e. refl
apart_going Word b k = λ e. refl
apart_going Return b k = λ e. refl
apart_going (One q) b k = λ e. refl
apart_going (Two q) b k = λ e. refl
apart_going (Line q h) b k = λ e. refl
apart_going (Ml q h) b k = λ e. refl
apart_going (MlOne q) b k = λ e. refl
apart_going (MlTwo q) b k = λ e. refl
apart_going (Shut q) b k = λ e. refl
apart_going (ShutOne q) b k = λ e. refl

-- the tokens of a byte that ends none before it, and whether one is in progress after it
abbrev Few : Moved → Type 0
Few m = (length (tokens_in m.before) ≡ 0) × (length (tokens_in m.through) + going m.next.mode ≤ 1)

few : (t : Turn) (l : Lexing) (b : ℕ) → Few (moved_by t l b)
few (Opens m) l b = (refl, omega (arith, going_one m))
few (Single k) l b = (refl, omega arith)
few (More m) l b = (refl, omega (arith, going_one m))
few (Ends k) l b = (refl, omega arith)
few (Apart k) l b = (refl, omega arith)
few Skipped l b = (refl, omega arith)

abbrev Bounded : Moved → ℕ → Type 0
Bounded m n = length (tokens_in m.before) + length (tokens_in m.through) + going m.next.mode ≤ 1 + n

bounded : (l : Lexing) (b : ℕ) (t : Turn) → turn_of l.mode b ≡ t → Bounded (moved_from t l b) (going l.mode)
bounded l b (Opens m) e = omega (arith, few (Opens m) l b)
bounded l b (Single k) e = omega (arith, few (Single k) l b)
bounded l b (More m) e = omega (arith, few (More m) l b)
bounded l b (Ends k) e = omega (arith, few (Ends k) l b)
bounded l b (Apart k) e = omega (arith, few (opening b) (idle_at l.at l.line) b, apart_going l.mode b k e)
bounded l b Skipped e = omega (arith, few Skipped l b)

moved_few : (l : Lexing) (b : ℕ) → length (gives (moved l b)) + going (moved l b).next.mode ≤ 1 + going l.mode
unfolding moved
moved_few l b =
    let m = moved_from (turn_of l.mode b) l b in
    omega (arith, bounded l b (turn_of l.mode b) refl, length-append (tokens_in m.before) (tokens_in m.through))

given_most : (l : Lexing) (s : List ℕ) → length (given_by l s) + going (state_after l s).mode ≤ length s + going l.mode
unfolding given_by state_after
given_most l [] = omega arith
given_most l (b ∷ s) =
    omega (
      arith,
      length-append (gives (moved l b)) (given_by (moved l b).next s),
      moved_few l b,
      given_most (moved l b).next s,
    )

pub given_few : (l : Lexing) (s : List ℕ) → length (given_by l s) ≤ length s + 1
given_few l s = omega (arith, given_most l s, going_one l.mode)

-- how many records a token and `Eof` ask for, or `Eof` alone
pub ending_two : (g : Option Token) → is_some g ≡ true → 2 ≡ length (tokens_in g) + 1
ending_two None e = cc
ending_two (Some t) e = refl

pub ending_one : (g : Option Token) → is_some g ≡ false → 1 ≡ length (tokens_in g) + 1
ending_one None e = refl
ending_one (Some t) e = cc

-- a token, or none
pub given_one : (g : Option Token) → length (tokens_in g) ≤ 1
given_one None = omega arith
given_one (Some t) = omega arith
