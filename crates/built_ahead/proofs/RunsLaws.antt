-- Bytes that belong to the token in progress: those of a run leave its mode as it is, and those of a string lead to one that is known by
-- whether they hide the next byte.
-- Assumes nothing.
use Prim.Native.Nat.{ℕ, suc, ◌≤◌}
use mathlib.Core.Path.{◌≡◌, refl, sym, ap, ◌∙◌, subst}
use mathlib.Core.Bool.{Bool, true, false, not, cond}
use mathlib.Core.List.{List, [], ◌∷◌, ◌++◌}
use native.Mathlib.Omega.{arith}
use lib.ListN.{length}
use lib.Dec.{eqb}
use Rattle.text_classes.specs.Classes.{wschar}
use Rattle.text_classes.specs.Runs.{run}
use borrow.Author.Tests.{eqb-true}
use Rattle.text_classes.proofs.Conds.{cond_case, both_right}
use Rattle.lexer_scans.specs.Extents.{in_comment, in_atom, hides, closes}
use Rattle.lexer_token.specs.declared.TokenKind.{TokenKind}
use Rattle.built_bytes.specs.declared.Quote.{Quote}
use Rattle.built_bytes.specs.declared.Quote.TheVariants.{Apostrophe, Quotation}
use Rattle.built_bytes.specs.declared.Mode.{Mode}
use Rattle.built_bytes.specs.declared.Mode.TheVariants.{Blanks, Remark, Word, Line, Ml, MlOne, MlTwo, Shut, ShutOne}
use Rattle.built_bytes.specs.declared.Turn.{Turn}
use Rattle.built_bytes.specs.declared.Turn.TheVariants.{More, Ends, Apart}
use Rattle.built_bytes.specs.Turns.{mark_of, line_kind, turn_of}
use Rattle.built_bytes.specs.Rests.{Busy, rest_len, Runs, stay, on}
use Rattle.built_bytes.proofs.RestLaws.{line_over, shut_over, Goes, more, ends, apart, goes}
use Rattle.built_ahead.specs.Ahead.{hidden_by}

-- ---- runs of one kind

-- bytes that pass the test of a run leave its mode as it is
abbrev Keeps : Mode → (ℕ → Bool) → Type 0
Keeps m p = (b : ℕ) → p b ≡ true → turn_of m b ≡ More m

run_one : (m : Mode) (p : ℕ → Bool) (b : ℕ) (s : List ℕ) (x : Bool) → p b ≡ x → Keeps m p → (length s ≤ run p s → Runs m s m)
    → suc (length s) ≤ cond x (suc (run p s)) 0 → Runs m (b ∷ s) m
run_one m p b s true e k f h = on (k b e) (f (omega arith))
run_one m p b s false e k f h = absurd (omega arith)

run_runs : (m : Mode) (p : ℕ → Bool) → Keeps m p → (s : List ℕ) → length s ≤ run p s → Runs m s m
unfolding run
run_runs m p k [] h = stay
run_runs m p k (b ∷ s) h = run_one m p b s (p b) refl k (run_runs m p k s) h

pub blanks_run : (s : List ℕ) → length s ≤ run wschar s → Runs Blanks s Blanks
unfolding turn_of
blanks_run = run_runs Blanks wschar (λ b t. rw t)

pub remark_runs : (s : List ℕ) → length s ≤ run in_comment s → Runs Remark s Remark
unfolding turn_of
remark_runs = run_runs Remark in_comment (λ b t. rw t)

pub word_runs : (s : List ℕ) → length s ≤ run in_atom s → Runs Word s Word
unfolding turn_of
word_runs = run_runs Word in_atom (λ b t. rw t)

-- ---- strings: whether the next byte is hidden

pub hidden_none : (q : ℕ) (h : Bool) → hidden_by q h [] ≡ h
unfolding hidden_by
hidden_none q h = refl

-- one byte more
pub hidden_more : (q : ℕ) (h : Bool) (u : List ℕ) (b : ℕ) → hidden_by q h (u ++ (b ∷ [])) ≡ hides q (hidden_by q h u) b
unfolding hidden_by
hidden_more q h [] b = refl
hidden_more q h (c ∷ u) b = hidden_more q (hides q h c) u b

-- in a literal string no byte hides the next one
pub hidden_never : (u : List ℕ) (h : Bool) → h ≡ false → hidden_by 39 h u ≡ false
unfolding hidden_by
hidden_never [] h e = e
hidden_never (b ∷ u) h e = hidden_never u (hides 39 h b) (rw e)

-- a mark hides nothing
mark_hides : (q : Quote) (h : Bool) (b : ℕ) → eqb b (mark_of q) ≡ true → hides (mark_of q) h b ≡ false
mark_hides q h b e = ap (hides (mark_of q) h) (eqb-true b (mark_of q) e) ∙ go q h
  where
    go : (q : Quote) (h : Bool) → hides (mark_of q) h (mark_of q) ≡ false
    go Apostrophe true = refl
    go Apostrophe false = refl
    go Quotation true = refl
    go Quotation false = refl

other_closes : (q : ℕ) (h : Bool) (b : ℕ) → eqb b q ≡ false → closes q h b ≡ false
other_closes q true b e = refl
other_closes q false b e = e

-- ---- strings: after a byte that is no mark, all that matters of what stands before is whether the next byte is hidden

-- a token that goes on beyond a byte: what the turn for the byte is
record On (m : Mode) (b : ℕ) (s : List ℕ) : Type 0 where
  next : Mode
  turns : turn_of m b ≡ More next
  busy : Busy next
  rest : rest_len m (b ∷ s) ≡ suc (rest_len next s)

goes_on_lem : (m : Mode) (b : ℕ) (s : List ℕ) → Busy m → 2 ≤ rest_len m (b ∷ s) → On m b s
goes_on_lem m b s w h = go (turn_of m b) refl (goes m w b s)
  where
    go : (t : Turn) → turn_of m b ≡ t → Goes m b s t → On m b s
    go t e (more {n} v l k) = record { next = n; turns = e; busy = v; rest = l }
    go t e (ends l k) = absurd (omega arith)
    go t e (apart l k) = absurd (omega arith)

-- modes among which the bytes of a string lead, each with whether the next byte is hidden; and those after a byte that is no mark
record Family (q : ℕ) (F : Bool → Mode → Type 0) (back : Bool → Mode) : Type 0 where
  within : (h : Bool) (m : Mode) → F h m → (b : ℕ) (n : Mode) → turn_of m b ≡ More n → F (hides q h b) n
  return : (h : Bool) (m : Mode) → F h m → (b : ℕ) (s : List ℕ) → eqb b q ≡ false → 1 ≤ rest_len m (b ∷ s)
      → turn_of m b ≡ More (back (hides q h b))

family_runs : (q : ℕ) (F : Bool → Mode → Type 0) (back : Bool → Mode) → Family q F back → (u : List ℕ) (b : ℕ) (v : List ℕ) (h : Bool) (m : Mode)
    → F h m → Busy m → eqb b q ≡ false → suc (length u) ≤ rest_len m (u ++ (b ∷ v)) → Runs m (u ++ (b ∷ [])) (back (hidden_by q h (u ++ (b ∷ []))))
unfolding hidden_by
family_runs q F back f [] b v h m i w p l = on (f.return h m i b v p l) stay
family_runs q F back f (c ∷ u) b v h m i w p l =
    let o = goes_on_lem m c (u ++ (b ∷ v)) w (omega arith) in
    on o.turns
    (family_runs q F back f u b v (hides q h c) o.next (f.within h m i c o.next o.turns) o.busy p (omega (arith, o.rest)))

-- a turn by which a token goes on is no other turn, and goes on in one mode only
module _ {P : Type 0} {k : TokenKind} {n : Mode} where
  ends_not : Ends k ≡ More n → P
  ends_not e = let z : ◌≡◌ {A = ℕ} 0 1 = cc in absurd (omega arith)

  apart_not : Apart k ≡ More n → P
  apart_not e = let z : ◌≡◌ {A = ℕ} 0 1 = cc in absurd (omega arith)

same_mode : {m n : Mode} → More m ≡ More n → m ≡ n
same_mode e = cc

data InLine (q : Quote) : Bool → Mode → Type 0 where
  line : {h : Bool} → InLine q h (Line q h)

data InMl (q : Quote) : Bool → Mode → Type 0 where
  ml : {h : Bool} → InMl q h (Ml q h)
  one : InMl q false (MlOne q)
  two : InMl q false (MlTwo q)
  shut : InMl q false (Shut q)
  last : InMl q false (ShutOne q)

module _ (q : Quote) (b : ℕ) (n : Mode) where
  abbrev LineNext : Bool → Turn → Type 0
  LineNext h t = t ≡ More n → InLine q (hides (mark_of q) h b) n

  abbrev MlNext : Bool → Turn → Type 0
  MlNext h t = t ≡ More n → InMl q (hides (mark_of q) h b) n

  line_within : (h : Bool) (m : Mode) → InLine q h m → LineNext h (turn_of m b)
  unfolding turn_of
  line_within h m line =
      cond_case (LineNext h) (closes (mark_of q) h b) (λ _ e. ends_not e)
      λ _. cond_case (LineNext h) (eqb b 10) (λ _ e. apart_not e) (λ _ e. subst (InLine q (hides (mark_of q) h b)) (same_mode e) line)

  -- after a mark
  marked : (h : Bool) (m : Mode) → InMl q false m → eqb b (mark_of q) ≡ true → MlNext h (More m)
  marked h m i t e =
      subst (InMl q (hides (mark_of q) h b)) (same_mode e) (subst (λ (x : Bool). InMl q x m) (sym (mark_hides q h b t)) i)

  -- after any other byte
  other : (h : Bool) → MlNext h (More (Ml q (hides (mark_of q) h b)))
  other h e = subst (InMl q (hides (mark_of q) h b)) (same_mode e) ml

  ml_within : (h : Bool) (m : Mode) → InMl q h m → MlNext h (turn_of m b)
  unfolding turn_of
  ml_within h m ml =
      cond_case (MlNext h) (closes (mark_of q) h b) (λ t. marked h (MlOne q) one (both_right (not h) _ t)) (λ _. other h)
  ml_within h m one = cond_case (MlNext false) (eqb b (mark_of q)) (marked false (MlTwo q) two) (λ _. other false)
  ml_within h m two = cond_case (MlNext false) (eqb b (mark_of q)) (marked false (Shut q) shut) (λ _. other false)
  ml_within h m shut = cond_case (MlNext false) (eqb b (mark_of q)) (marked false (ShutOne q) last) (λ _ e. apart_not e)
  ml_within h m last = cond_case (MlNext false) (eqb b (mark_of q)) (λ _ e. ends_not e) (λ _ e. apart_not e)

line_return : (q : Quote) (h : Bool) (m : Mode) → InLine q h m → (b : ℕ) (s : List ℕ) → eqb b (mark_of q) ≡ false → 1 ≤ rest_len m (b ∷ s)
    → turn_of m b ≡ More (Line q (hides (mark_of q) h b))
unfolding turn_of
line_return q h m line b s p l = go (eqb b 10) refl
  where
    unclosed : closes (mark_of q) h b ≡ false
    unclosed = other_closes (mark_of q) h b p

    go : (x : Bool) → eqb b 10 ≡ x
        → cond (closes (mark_of q) h b) (Ends (line_kind q)) (cond x (Apart (line_kind q)) (More (Line q (hides (mark_of q) h b))))
        ≡ More (Line q (hides (mark_of q) h b))
    go true e = absurd (omega (arith, line_over (mark_of q) h b s unclosed e))
    go false e = rw unclosed

ml_return : (q : Quote) (h : Bool) (m : Mode) → InMl q h m → (b : ℕ) (s : List ℕ) → eqb b (mark_of q) ≡ false → 1 ≤ rest_len m (b ∷ s)
    → turn_of m b ≡ More (Ml q (hides (mark_of q) h b))
unfolding turn_of
ml_return q h m ml b s p l = rw (other_closes (mark_of q) h b p)
ml_return q h m one b s p l = rw p
ml_return q h m two b s p l = rw p
ml_return q h m shut b s p l = absurd (omega (arith, shut_over (mark_of q) b s p))
ml_return q h m last b s p l =
    let none : 1 ≤ 0 = rw p at l in
    absurd (omega arith)

-- a string that is not over, up to a byte that is no mark
pub line_runs : (q : Quote) (u : List ℕ) (b : ℕ) (v : List ℕ) → eqb b (mark_of q) ≡ false
    → suc (length u) ≤ rest_len (Line q false) (u ++ (b ∷ v))
    → Runs (Line q false) (u ++ (b ∷ [])) (Line q (hidden_by (mark_of q) false (u ++ (b ∷ []))))
line_runs q u b v p l =
    family_runs (mark_of q) (InLine q) (Line q)
    (record { within = λ h m i c n. line_within q c n h m i; return = line_return q }) u b v false (Line q false) line tt p l

pub ml_runs : (q : Quote) (u : List ℕ) (b : ℕ) (v : List ℕ) → eqb b (mark_of q) ≡ false
    → suc (length u) ≤ rest_len (Ml q false) (u ++ (b ∷ v))
    → Runs (Ml q false) (u ++ (b ∷ [])) (Ml q (hidden_by (mark_of q) false (u ++ (b ∷ []))))
ml_runs q u b v p l =
    family_runs (mark_of q) (InMl q) (Ml q)
    (record { within = λ h m i c n. ml_within q c n h m i; return = ml_return q }) u b v false (Ml q false) ml tt p l
