-- What a byte does to the token in progress, told by whole lexing: it is one of the bytes that still belong to it, the last
-- of them, or none of them; and a first byte opens the token that whole lexing finds there.
-- Assumes nothing.
use Prim.Native.Nat.{ℕ, zero, suc, ◌+◌}
use mathlib.Core.Path.{◌≡◌, refl, sym, ap, ◌∙◌}
use mathlib.Core.Bool.{Bool, true, false, not, cond, ◌&&◌, false≢true}
use mathlib.Core.List.{List, [], ◌∷◌}
use native.Mathlib.Omega.{arith}
use borrow.Author.Tests.{eqb-true, eq-eqb}
use lib.ListN.{drop}
use lib.Dec.{eqb}
use Rattle.text_classes.specs.Classes.{wschar}
use Rattle.text_classes.specs.Runs.{run, stands, triple}
use Rattle.text_classes.proofs.Conds.{cond_case}
use Rattle.lexer_scans.specs.Extents.{eol, in_comment, in_atom, hides, closes, line_tail, up_to_two, ml_tail, newline_tail}
use Rattle.lexer_token.specs.declared.TokenKind.{TokenKind}
use Rattle.lexer_token.specs.declared.TokenKind.TheVariants.{Dot, Equals, Comma, LeftSquareBracket, RightSquareBracket, LeftCurlyBracket, RightCurlyBracket, Whitespace, Comment, Newline, LiteralString, BasicString, MlLiteralString, MlBasicString, Atom, Eof}
use Rattle.lexer.specs.Table.{kind_by, kind_of, extent}
use Rattle.built_bytes.specs.declared.Quote.{Quote}
use Rattle.built_bytes.specs.declared.Quote.TheVariants.{Apostrophe, Quotation}
use Rattle.built_bytes.specs.declared.Mode.{Mode}
use Rattle.built_bytes.specs.declared.Mode.TheVariants.{Start, Bom1, Bom2, Idle, Blanks, Remark, Word, Return, One, Two, Line, Ml, MlOne, MlTwo, Shut, ShutOne}
use Rattle.built_bytes.specs.declared.Turn.{Turn}
use Rattle.built_bytes.specs.declared.Turn.TheVariants.{Opens, Single, More, Ends, Apart}
use Rattle.built_bytes.specs.Turns.{mark_of, line_kind, ml_kind, opening_by, opening, turn_of}
use Rattle.built_bytes.specs.Rests.{Busy, twice, rest_len, rest_kind}

-- ---- the extents of whole lexing, byte by byte

run_more : (p : ℕ → Bool) (b : ℕ) (s : List ℕ) → p b ≡ true → run p (b ∷ s) ≡ suc (run p s)
unfolding run
run_more p b s t = rw t

run_over : (p : ℕ → Bool) (b : ℕ) (s : List ℕ) → p b ≡ false → run p (b ∷ s) ≡ 0
unfolding run
run_over p b s t = rw t

module _ (q : ℕ) (h : Bool) (b : ℕ) (s : List ℕ) where
  line_shut : closes q h b ≡ true → line_tail q h (b ∷ s) ≡ 1
  unfolding line_tail
  line_shut t = rw t

  line_more : closes q h b ≡ false → eqb b 10 ≡ false → line_tail q h (b ∷ s) ≡ suc (line_tail q (hides q h b) s)
  unfolding line_tail
  line_more t u = rw (t, u)

  pub line_over : closes q h b ≡ false → eqb b 10 ≡ true → line_tail q h (b ∷ s) ≡ 0
  unfolding line_tail
  line_over t u = rw (t, u)

ml_pass : (q : ℕ) (h : Bool) (b : ℕ) (s : List ℕ) → closes q h b ≡ false → ml_tail q h (b ∷ s) ≡ suc (ml_tail q (hides q h b) s)
unfolding ml_tail triple
ml_pass q true b s t = refl
ml_pass q false b s t = rw t

-- after one mark of what may be a closing, and after two
abbrev after_one : ℕ → List ℕ → ℕ
after_one q s = cond (twice q s) (suc (suc (up_to_two q (drop 2 s)))) (ml_tail q false s)

abbrev after_two : ℕ → List ℕ → ℕ
after_two q s = cond (stands q s) (suc (up_to_two q (drop 1 s))) (ml_tail q false s)

-- a mark hides nothing
abbrev Shows : ℕ → Type 0
Shows q = hides q false q ≡ false

shows : (q : Quote) → Shows (mark_of q)
shows Apostrophe = refl
shows Quotation = refl

module _ (q b : ℕ) (s : List ℕ) where
  ml_first : Shows q → b ≡ q → ml_tail q false (b ∷ s) ≡ suc (after_one q s)
  unfolding ml_tail triple
  ml_first m e = rw (e, eq-eqb q q refl, m) (go (twice q s))
    where
      go : (x : Bool) → cond x (3 + up_to_two q (drop 2 s)) (suc (ml_tail q false s))
          ≡ suc (cond x (suc (suc (up_to_two q (drop 2 s)))) (ml_tail q false s))
      go true = omega arith
      go false = refl

  one_again : Shows q → eqb b q ≡ true → after_one q (b ∷ s) ≡ suc (after_two q s)
  one_again m t = rw t (go (stands q s) refl)
    where
      go : (x : Bool) → stands q s ≡ x
          → cond x (suc (suc (up_to_two q (drop 1 s)))) (ml_tail q false (b ∷ s)) ≡ suc (cond x (suc (up_to_two q (drop 1 s))) (ml_tail q false s))
      go true e = refl
      go false e = ml_first m (eqb-true b q t) ∙ rw e

  one_pass : eqb b q ≡ false → after_one q (b ∷ s) ≡ suc (ml_tail q (hides q false b) s)
  one_pass t = rw t (ml_pass q false b s t)

  two_again : eqb b q ≡ true → after_two q (b ∷ s) ≡ suc (up_to_two q s)
  two_again t = rw t

  two_pass : eqb b q ≡ false → after_two q (b ∷ s) ≡ suc (ml_tail q (hides q false b) s)
  two_pass t = rw t (ml_pass q false b s t)

  shut_again : eqb b q ≡ true → up_to_two q (b ∷ s) ≡ suc (cond (stands q s) 1 0)
  unfolding up_to_two
  shut_again t = rw t (go (stands q s))
    where
      go : (x : Bool) → cond x 2 1 ≡ suc (cond x 1 0)
      go true = refl
      go false = refl

  pub shut_over : eqb b q ≡ false → up_to_two q (b ∷ s) ≡ 0
  unfolding up_to_two
  shut_over t = rw t

ml_open : (q : ℕ) (h : Bool) (b : ℕ) (s : List ℕ) → Shows q → closes q h b ≡ true → ml_tail q h (b ∷ s) ≡ suc (after_one q s)
ml_open q true b s m t = absurd (false≢true t)
ml_open q false b s m t = ml_first q b s m (eqb-true b q t)

-- after one opening mark: another one
two_marks : (q b : ℕ) (s : List ℕ) → eqb b q ≡ true
    → cond (twice q (b ∷ s)) (suc (suc (ml_tail q false (drop 1 s)))) (line_tail q false (b ∷ s))
    ≡ suc (cond (stands q s) (suc (ml_tail q false (drop 1 s))) 0)
two_marks q b s t = rw t (go (stands q s))
  where
    go : (x : Bool) → cond x (suc (suc (ml_tail q false (drop 1 s)))) (line_tail q false (b ∷ s))
        ≡ suc (cond x (suc (ml_tail q false (drop 1 s))) 0)
    go true = refl
    go false = line_shut q false b s t

-- ---- one byte

-- what the turn for a byte says of the token in progress: it goes on, this is its last byte, or it ended before
pub data Goes (m : Mode) (b : ℕ) (s : List ℕ) : Turn → Type 0 where
  more : {n : Mode} → Busy n → rest_len m (b ∷ s) ≡ suc (rest_len n s) → rest_kind m (b ∷ s) ≡ rest_kind n s → Goes m b s (More n)
  ends : {k : TokenKind} → rest_len m (b ∷ s) ≡ 1 → rest_kind m (b ∷ s) ≡ k → Goes m b s (Ends k)
  apart : {k : TokenKind} → rest_len m (b ∷ s) ≡ 0 → rest_kind m (b ∷ s) ≡ k → Goes m b s (Apart k)

in_run : (m : Mode) (p : ℕ → Bool) (k : TokenKind) (b : ℕ) (s : List ℕ) → Busy m → ((s : List ℕ) → rest_len m s ≡ run p s)
    → ((s : List ℕ) → rest_kind m s ≡ k) → Goes m b s (cond (p b) (More m) (Apart k))
in_run m p k b s w len kind =
    cond_case (Goes m b s) (p b)
    (λ t. more w (len (b ∷ s) ∙ run_more p b s t ∙ ap suc (sym (len s))) (kind (b ∷ s) ∙ sym (kind s)))
    (λ t. apart (len (b ∷ s) ∙ run_over p b s t) (kind (b ∷ s)))

pub goes : (m : Mode) → Busy m → (b : ℕ) (s : List ℕ) → Goes m b s (turn_of m b)
unfolding turn_of
goes Start w b s = absurd w
goes Bom1 w b s = absurd w
goes Bom2 w b s = absurd w
goes Idle w b s = absurd w
goes Blanks w b s = in_run Blanks wschar Whitespace b s tt (λ s. refl) (λ s. refl)
goes Remark w b s = in_run Remark in_comment Comment b s tt (λ s. refl) (λ s. refl)
goes Word w b s = in_run Word in_atom Atom b s tt (λ s. refl) (λ s. refl)
goes Return w b s = cond_case (Goes Return b s) (eqb b 10) (λ t. ends (rw t) refl) (λ t. apart (rw t) refl)
goes (One q) w b s =
    cond_case (Goes (One q) b s) (eqb b (mark_of q))
    (λ t. more tt (two_marks (mark_of q) b s t) (rw t))
    λ t. cond_case (Goes (One q) b s) (eqb b 10)
    (λ u. apart (rw t (line_over (mark_of q) false b s t u)) (rw t))
    (λ u. more tt (rw t (line_more (mark_of q) false b s t u)) (rw t))
goes (Two q) w b s =
    cond_case (Goes (Two q) b s) (eqb b (mark_of q)) (λ t. more tt (rw t) (rw t)) (λ t. apart (rw t) (rw t))
goes (Line q h) w b s =
    cond_case (Goes (Line q h) b s) (closes (mark_of q) h b)
    (λ t. ends (line_shut (mark_of q) h b s t) refl)
    λ t. cond_case (Goes (Line q h) b s) (eqb b 10)
    (λ u. apart (line_over (mark_of q) h b s t u) refl)
    (λ u. more tt (line_more (mark_of q) h b s t u) refl)
goes (Ml q h) w b s =
    cond_case (Goes (Ml q h) b s) (closes (mark_of q) h b)
    (λ t. more tt (ml_open (mark_of q) h b s (shows q) t) refl)
    (λ t. more tt (ml_pass (mark_of q) h b s t) refl)
goes (MlOne q) w b s =
    cond_case (Goes (MlOne q) b s) (eqb b (mark_of q))
    (λ t. more tt (one_again (mark_of q) b s (shows q) t) refl)
    (λ t. more tt (one_pass (mark_of q) b s t) refl)
goes (MlTwo q) w b s =
    cond_case (Goes (MlTwo q) b s) (eqb b (mark_of q))
    (λ t. more tt (two_again (mark_of q) b s t) refl)
    (λ t. more tt (two_pass (mark_of q) b s t) refl)
goes (Shut q) w b s =
    cond_case (Goes (Shut q) b s) (eqb b (mark_of q))
    (λ t. more tt (shut_again (mark_of q) b s t) refl)
    (λ t. apart (shut_over (mark_of q) b s t) refl)
goes (ShutOne q) w b s =
    cond_case (Goes (ShutOne q) b s) (eqb b (mark_of q)) (λ t. ends (rw t) refl) (λ t. apart (rw t) refl)

-- ---- the first byte of a token

-- the turn for a first byte opens the token of the kind l: one that goes on, or one of its own
pub data OpensTo (b : ℕ) (s : List ℕ) (l : TokenKind) : Turn → Type 0 where
  opens : {m : Mode} → Busy m → extent l (b ∷ s) ≡ suc (rest_len m s) → l ≡ rest_kind m s → OpensTo b s l (Opens m)
  single : {k : TokenKind} → extent l (b ∷ s) ≡ 1 → l ≡ k → OpensTo b s l (Single k)

-- two choices by one test, each under it
cond_both : {A B : Type 0} (P : A → B → Type 0) (t : Bool) {a b : A} {x y : B} → (t ≡ true → P a x) → (t ≡ false → P b y)
    → P (cond t a b) (cond t x y)
cond_both P true f g = f refl
cond_both P false f g = g refl

module _ (b : ℕ) (s : List ℕ) where
  -- the token of the kind l is opened by the turn for the kind k
  abbrev Opened : TokenKind → TokenKind → Type 0
  Opened k l = OpensTo b s l (opening_by k b)

  newline_opens : Opened Newline Newline
  unfolding extent newline_tail
  newline_opens = cond_case (OpensTo b s Newline) (eqb b 13) (λ t. opens tt (rw t) refl) (λ t. single (rw t) refl)

  triple_first : (q : ℕ) → b ≡ q → triple b (b ∷ s) ≡ twice q s
  unfolding triple
  triple_first q e = rw (e, eq-eqb q q refl)

  string_opens : (q : Quote) (x : Bool) → x ≡ twice (mark_of q) s
      → extent (ml_kind q) (b ∷ s) ≡ suc (suc (suc (ml_tail (mark_of q) false (drop 2 s))))
      → extent (line_kind q) (b ∷ s) ≡ suc (line_tail (mark_of q) false s) → OpensTo b s (cond x (ml_kind q) (line_kind q)) (Opens (One q))
  string_opens q true e m l = opens {m = One q} tt (rw (← e) m) (rw (← e))
  string_opens q false e m l = opens {m = One q} tt (rw (← e) l) (rw (← e))

  by_first : Opened (kind_by b false) (kind_by b (triple b (b ∷ s)))
  unfolding kind_by extent
  by_first =
      cond_both Opened (eqb b 46) (λ _. single refl refl)
      λ _. cond_both Opened (eqb b 61) (λ _. single refl refl)
      λ _. cond_both Opened (eqb b 44) (λ _. single refl refl)
      λ _. cond_both Opened (eqb b 91) (λ _. single refl refl)
      λ _. cond_both Opened (eqb b 93) (λ _. single refl refl)
      λ _. cond_both Opened (eqb b 123) (λ _. single refl refl)
      λ _. cond_both Opened (eqb b 125) (λ _. single refl refl)
      λ _. cond_both Opened (wschar b) (λ _. opens tt refl refl)
      λ _. cond_both Opened (eqb b 35) (λ _. opens tt refl refl)
      λ _. cond_both Opened (eol b) (λ _. newline_opens)
      λ _. cond_both Opened (eqb b 39)
      (λ t. string_opens Apostrophe (triple b (b ∷ s)) (triple_first 39 (eqb-true b 39 t)) refl refl)
      λ _. cond_both Opened (eqb b 34)
      (λ t. string_opens Quotation (triple b (b ∷ s)) (triple_first 34 (eqb-true b 34 t)) refl refl)
      (λ _. opens tt refl refl)

  pub opened : OpensTo b s (kind_of (b ∷ s)) (opening b)
  unfolding opening kind_of
  opened = by_first
