-- What the looks ahead find of the token in progress: where the scans of whole lexing end it, or the mode to which the bytes lead.
-- Assumes nothing.
use Prim.Native.Nat.{ℕ, zero, suc, ◌+◌, ◌-◌, ◌%◌, ◌≤◌, ◌<◌}
use mathlib.Core.Path.{◌≡◌, refl, sym, ap, ◌∙◌, subst}
use mathlib.Core.Bool.{Bool, true, false, not, cond, ◌&&◌}
use mathlib.Core.List.{List, [], ◌∷◌, ◌++◌, reverse, reverse_aux-eq}
use native.Mathlib.Omega.{arith}
use lib.ListN.{length, get_or, take, drop, length-drop}
use lib.Seq.{take_all, take-suc, split_at, get_or-drop, drop-drop, drop-cons, length-take-le}
use lib.Dec.{eqb}
use Rattle.std.specs.List.{prefix_len, suffix_len}
use Rattle.std.proofs.lemmas.List.{reverse-reverse}
use borrow.Author.Tests.{eq-eqb, eqb-true, eqb-false}
use Rattle.text_classes.specs.Classes.{wschar, token_start}
use Rattle.text_classes.specs.Runs.{run, stands}
use Rattle.text_classes.proofs.Conds.{by_lt, not_both, both_right}
use Rattle.text_classes.proofs.FirstLaws.{first_there, stands_there}
use Rattle.lexer_scans.specs.Extents.{in_comment, in_atom, hides, closes, line_tail, ml_tail}
use Rattle.lexer_token.specs.declared.TokenKind.{TokenKind}
use Rattle.lexer_token.specs.declared.TokenKind.TheVariants.{Whitespace, Comment, Newline, Atom}
use Rattle.lexer.specs.Lines.{line_feeds}
use Rattle.lexer.proofs.LineLaws.{lf_front, other_front, feeds_none}
use Rattle.built_bytes.specs.declared.Quote.{Quote}
use Rattle.built_bytes.specs.declared.Quote.TheVariants.{Apostrophe, Quotation}
use Rattle.built_bytes.specs.declared.Mode.{Mode}
use Rattle.built_bytes.specs.declared.Mode.TheVariants.{Blanks, Remark, Word, Return, One, Two, Line, Ml}
use Rattle.built_bytes.specs.declared.Turn.TheVariants.{More}
use Rattle.built_bytes.specs.Turns.{mark_of, line_kind, ml_kind, turn_of}
use Rattle.built_bytes.specs.Rests.{Busy, twice, rest_len, rest_kind, Runs, stay, on}
use Rattle.built_ahead.specs.declared.Ahead.{Ahead}
use Rattle.built_ahead.specs.declared.Ahead.TheVariants.{Whole, Open}
use Rattle.built_ahead.specs.Ahead.{feeds_to, LeadsTo, Looked, run_to, hidden_by, hidden_to, MarksEnd, LineLooked}
use Rattle.built_ahead.proofs.RunsLaws.{blanks_run, remark_runs, word_runs, hidden_none, hidden_more, hidden_never, line_runs, ml_runs}

-- ---- what holds no LF

run_no_lf_by : (p : ℕ → Bool) → p 10 ≡ false → (b n : ℕ) (s : List ℕ) → (n ≤ run p s → line_feeds (take n s) ≡ 0)
    → (x : Bool) → p b ≡ x → suc n ≤ cond x (suc (run p s)) 0 → line_feeds (b ∷ take n s) ≡ 0
run_no_lf_by p z b n s f true e h = other_front b (take n s) (λ y. not_both (sym (ap p y) ∙ e) z) ∙ f (omega arith)
run_no_lf_by p z b n s f false e h = absurd (omega arith)

run_no_lf : (p : ℕ → Bool) → p 10 ≡ false → (n : ℕ) (s : List ℕ) → n ≤ run p s → line_feeds (take n s) ≡ 0
unfolding run
run_no_lf p z zero s h = feeds_none
run_no_lf p z (suc n) [] h = absurd (omega arith)
run_no_lf p z (suc n) (b ∷ s) h = run_no_lf_by p z b n s (run_no_lf p z n s) (p b) refl h

line_no_lf_by : (q : ℕ) → (q ≡ 10 → ⊥) → (h : Bool) (b n : ℕ) (s : List ℕ)
    → ((i : Bool) → n ≤ line_tail q i s → line_feeds (take n s) ≡ 0)
    → (x y : Bool) → closes q h b ≡ x → eqb b 10 ≡ y → suc n ≤ cond x 1 (cond y 0 (suc (line_tail q (hides q h b) s)))
    → line_feeds (b ∷ take n s) ≡ 0
line_no_lf_by q z h b n s f true y c e l =
    other_front b (take n s) (λ g. z (sym (eqb-true b q (both_right (not h) _ c)) ∙ g)) ∙ f false (omega arith)
line_no_lf_by q z h b n s f false true c e l = absurd (omega arith)
line_no_lf_by q z h b n s f false false c e l = other_front b (take n s) (eqb-false b 10 e) ∙ f (hides q h b) (omega arith)

line_no_lf : (q : ℕ) → (q ≡ 10 → ⊥) → (h : Bool) (n : ℕ) (s : List ℕ) → n ≤ line_tail q h s → line_feeds (take n s) ≡ 0
unfolding line_tail
line_no_lf q z h zero s l = feeds_none
line_no_lf q z h (suc n) [] l = absurd (omega arith)
line_no_lf q z h (suc n) (b ∷ s) l =
    line_no_lf_by q z h b n s (λ i. line_no_lf q z i n s) (closes q h b) (eqb b 10) refl refl l

no_lf_mark : (q : Quote) → mark_of q ≡ 10 → ⊥
no_lf_mark Apostrophe e = omega arith
no_lf_mark Quotation e = omega arith

-- ---- bytes from a place up to another

-- the first of them, and the rest
taken_front : (s : List ℕ) (i e : ℕ) → i < length s → i < e → take (e - i) (drop i s) ≡ get_or s i 0 ∷ take (e - (i + 1)) (drop (i + 1) s)
taken_front s i e h l =
    let n : e - i ≡ suc (e - (i + 1)) = omega arith in
    let next : suc i ≡ i + 1 = omega arith in
    ap (λ (k : ℕ). take k (drop i s)) n ∙ ap (take (suc (e - (i + 1)))) (drop-cons s i 0 h)
    ∙ ap (λ (k : ℕ). get_or s i 0 ∷ take (e - (i + 1)) (drop k s)) next

-- no byte hides the next one in a literal string
pub hidden_literal : (s : List ℕ) → false ≡ hidden_by 39 false s
hidden_literal s = sym (hidden_never s false refl)

-- ---- backslashes at the end of the bytes of a basic string

-- another backslash makes an odd number of them even, or an even one odd
odd_more : (n : ℕ) → eqb (suc n % 2) 1 ≡ (not (eqb (n % 2) 1) && true)
odd_more n = go (n % 2) (suc n % 2) (omega arith) (omega arith)
  where
    go : (a b : ℕ) → a < 2 → b ≡ 1 - a → eqb b 1 ≡ (not (eqb a 1) && true)
    go zero b h e = rw e
    go (suc zero) b h e = rw e
    go (suc (suc a)) b h e = absurd (omega arith)

odd_by : (b : ℕ) (h : Bool) (n : ℕ) (x : Bool) → eqb b 92 ≡ x → h ≡ eqb (n % 2) 1 → hides 34 h b ≡ eqb (cond x (1 + n) 0 % 2) 1
odd_by b h n true e w =
    let one : 1 + n ≡ suc n = omega arith in
    rw (e, w) (sym (odd_more n) ∙ ap (λ (k : ℕ). eqb (k % 2) 1) (sym one))
odd_by b h n false e w = rw e (go h)
  where
    go : (x : Bool) → (not x && false) ≡ false
    go true = refl
    go false = refl

hidden_back : (s : List ℕ) → hidden_by 34 false (reverse s) ≡ eqb (prefix_len (λ b. eqb b 92) s % 2) 1
hidden_back [] = hidden_none 34 false
hidden_back (b ∷ s) =
    ap (hidden_by 34 false) (reverse_aux-eq s (b ∷ [])) ∙ hidden_more 34 false (reverse s) b
    ∙ odd_by b (hidden_by 34 false (reverse s)) (prefix_len (λ c. eqb c 92) s) (eqb b 92) refl (hidden_back s)

pub hidden_basic : (n : ℕ) (s : List ℕ) → n ≡ suffix_len (λ b. eqb b 92) s → eqb (n % 2) 1 ≡ hidden_by 34 false s
hidden_basic n s e = rw e (sym (hidden_back (reverse s)) ∙ ap (hidden_by 34 false) (reverse-reverse s))

-- ---- what is found from a place on

pub stays_put : (s : List ℕ) (i : ℕ) (m : Mode) → LeadsTo m s i m i 0
stays_put s i m =
    let z : i - i ≡ 0 = omega arith in
    record { forward = omega arith; within = λ h. h; runs = rw z stay; lines = rw z (sym feeds_none) }

module _ (s : List ℕ) (i : ℕ) (inside : i ≤ length s) where
  run_looked : (m : Mode) (p : ℕ → Bool) (k : TokenKind) → Busy m → p 10 ≡ false → ((t : List ℕ) → rest_len m t ≡ run p t)
      → ((t : List ℕ) → rest_kind m t ≡ k) → ((t : List ℕ) → length t ≤ run p t → Runs m t m)
      → (e : ℕ) → e ≡ i + run p (drop i s) → Looked m s i (run_to k m e (length s))
  run_looked m p k w z len kind keeps e is =
      by_lt (Looked m s i) e (length s)
      (λ h. record {
        busy = w;
        within = h;
        kind = sym (kind (drop i s));
        end = is ∙ ap (λ (n : ℕ). i + n) (sym (len (drop i s)));
        lines = sym (run_no_lf p z (e - i) (drop i s) (omega arith));
      })
      (λ h.
      let size = length-drop i s in
      let all : take (length s - i) (drop i s) ≡ drop i s = take_all (length s - i) (drop i s) (omega arith) in
      record {
        forward = inside;
        within = λ _. omega arith;
        runs = rw all (keeps (drop i s) (omega arith));
        lines = sym (run_no_lf p z (length s - i) (drop i s) (omega arith));
      })

  pub blanks_looked : (e : ℕ) → e ≡ i + run wschar (drop i s) → Looked Blanks s i (run_to Whitespace Blanks e (length s))
  unfolding wschar
  blanks_looked = run_looked Blanks wschar Whitespace tt refl (λ t. refl) (λ t. refl) blanks_run

  pub remark_looked : (e : ℕ) → e ≡ i + run in_comment (drop i s) → Looked Remark s i (run_to Comment Remark e (length s))
  remark_looked = run_looked Remark in_comment Comment tt refl (λ t. refl) (λ t. refl) remark_runs

  pub word_looked : (e : ℕ) → e ≡ i + run in_atom (drop i s) → Looked Word s i (run_to Atom Word e (length s))
  unfolding token_start
  word_looked = run_looked Word in_atom Atom tt refl (λ t. refl) (λ t. refl) word_runs

  -- a string on one line, after its opening
  pub line_ends : (q : Quote) (e : ℕ) → e ≡ i + line_tail (mark_of q) false (drop i s) → e < length s
      → Looked (Line q false) s i (Whole (line_kind q) e 0)
  line_ends q e is h = record {
    busy = tt;
    within = h;
    kind = refl;
    end = is;
    lines = sym (line_no_lf (mark_of q) (no_lf_mark q) false (e - i) (drop i s) (omega arith));
  }

  pub ml_ends : (q : Quote) (e n : ℕ) → e ≡ i + ml_tail (mark_of q) false (drop i s) → e < length s → n ≡ feeds_to s i e
      → Looked (Ml q false) s i (Whole (ml_kind q) e n)
  ml_ends q e n is h f = record { busy = tt; within = h; kind = refl; end = is; lines = f }

  -- a string that is not over, up to the marks at the part's end
  tail_runs : (q : ℕ) (back : Bool → Mode) → ((u : List ℕ) (b : ℕ) (v : List ℕ) → eqb b q ≡ false
      → suc (length u) ≤ rest_len (back false) (u ++ (b ∷ v)) → Runs (back false) (u ++ (b ∷ [])) (back (hidden_by q false (u ++ (b ∷ [])))))
      → (r : ℕ) → length (drop i s) ≤ rest_len (back false) (drop i s) → MarksEnd q s i r
      → Runs (back false) (take (r - i) (drop i s)) (back (hidden_by q false (take (r - i) (drop i s))))
  tail_runs q back law r all w = go (r - i) refl
    where
      rest : List ℕ
      rest = drop i s

      go : (n : ℕ) → r - i ≡ n → Runs (back false) (take n rest) (back (hidden_by q false (take n rest)))
      go zero e = subst (λ (h : Bool). Runs (back false) [] (back h)) (sym (hidden_none q false)) stay
      go (suc n) e =
          let h : n < length rest = omega (arith, length-drop i s, w.within) in
          let at : i + n ≡ r - 1 = omega arith in
          let byte : get_or rest n 0 ≡ get_or s (r - 1) 0 = get_or-drop i s n 0 ∙ ap (λ (k : ℕ). get_or s k 0) at in
          let split : rest ≡ take n rest ++ (get_or rest n 0 ∷ drop (suc n) rest) = split_at rest n 0 h in
          let long : suc (length (take n rest)) ≤ rest_len (back false) rest = omega (arith, length-take-le n rest (omega arith)) in
          let reach = subst (λ (x : List ℕ). suc (length (take n rest)) ≤ rest_len (back false) x) split long in
          let other : eqb (get_or rest n 0) q ≡ false = ap (λ (b : ℕ). eqb b q) byte ∙ w.last (omega arith) in
          subst (λ (x : List ℕ). Runs (back false) x (back (hidden_by q false x))) (sym (take-suc rest n 0 h))
          (law (take n rest) (get_or rest n 0) (drop (suc n) rest) other reach)

  pub line_leads : (q : Quote) (e m r : ℕ) (h : Bool) → e ≡ i + line_tail (mark_of q) false (drop i s) → length s ≤ e → m ≡ mark_of q
      → MarksEnd m s i r → h ≡ hidden_to (mark_of q) s i r → LineLooked q s i (Open (Line q h) r 0)
  line_leads q e m r h is over mark v x =
      let size = length-drop i s in
      let w : MarksEnd (mark_of q) s i r = subst (λ (k : ℕ). MarksEnd k s i r) mark v in
      let runs = tail_runs (mark_of q) (Line q) (line_runs q) r (omega arith) w in (
        record {
          forward = w.forward;
          within = λ _. w.within;
          runs = rw x runs;
          lines = sym (line_no_lf (mark_of q) (no_lf_mark q) false (r - i) (drop i s) (omega (arith, w.forward, w.within)));
        },
        w.some,
      )

  pub ml_leads : (q : Quote) (e m r n : ℕ) (h : Bool) → e ≡ i + ml_tail (mark_of q) false (drop i s) → length s ≤ e → m ≡ mark_of q
      → MarksEnd m s i r → h ≡ hidden_to (mark_of q) s i r → n ≡ feeds_to s i r → Looked (Ml q false) s i (Open (Ml q h) r n)
  ml_leads q e m r n h is over mark v x f =
      let size = length-drop i s in
      let w : MarksEnd (mark_of q) s i r = subst (λ (k : ℕ). MarksEnd k s i r) mark v in
      let runs = tail_runs (mark_of q) (Ml q) (ml_runs q) r (omega arith) w in
      record { forward = w.forward; within = λ _. w.within; runs = rw x runs; lines = f }

-- ---- after a CR

module _ (s : List ℕ) (i : ℕ) where
  first_taken : i < length s → take 1 (drop i s) ≡ get_or s i 0 ∷ []
  first_taken h = rw (drop-cons s i 0 h)

  pub return_lf : stands 10 (drop i s) ≡ true → i + 1 < length s → Looked Return s i (Whole Newline (i + 1) 1)
  return_lf t h =
      let n : i + 1 - i ≡ 1 = omega arith in
      let there = stands_there 10 s i t in
      let one : line_feeds (take 1 (drop i s)) ≡ 1 = ap line_feeds (first_taken there.0) ∙ lf_front (get_or s i 0) [] there.1 ∙ ap suc feeds_none in
      record { busy = tt; within = h; kind = refl; end = rw t refl; lines = rw n (sym one) }

  pub return_alone : stands 10 (drop i s) ≡ false → i < length s → Looked Return s i (Whole Newline i 0)
  return_alone t h =
      let n : i - i ≡ 0 = omega arith in
      record { busy = tt; within = h; kind = refl; end = rw t (omega arith); lines = rw n (sym feeds_none) }

-- ---- after one opening mark

line_closed : (q : ℕ) (t : List ℕ) → stands q t ≡ true → line_tail q false t ≡ 1
unfolding line_tail
line_closed q [] e = not_both e refl
line_closed q (b ∷ t) e = rw e

module _ (q : Quote) (b : ℕ) where
  -- a byte that is no mark is one of a string on one line
  turn_line : eqb b (mark_of q) ≡ false → turn_of (One q) b ≡ turn_of (Line q false) b
  unfolding turn_of
  turn_line e = rw e

  turn_two : eqb b (mark_of q) ≡ true → turn_of (One q) b ≡ More (Two q)
  unfolding turn_of
  turn_two e = rw e

  turn_three : eqb b (mark_of q) ≡ true → turn_of (Two q) b ≡ More (Ml q false)
  unfolding turn_of
  turn_three e = rw e

  runs_line : (u : List ℕ) (n : Mode) → eqb b (mark_of q) ≡ false → Runs (Line q false) (b ∷ u) n → Runs (One q) (b ∷ u) n
  runs_line u n e (on g r) = on (turn_line e ∙ g) r

module _ (q : Quote) (s : List ℕ) (i : ℕ) where
  -- a second mark, and no third: an empty string
  pub opened_empty : stands (mark_of q) (drop i s) ≡ true → stands (mark_of q) (drop (i + 1) s) ≡ false → i + 1 < length s
      → Looked (One q) s i (Whole (line_kind q) (i + 1) 0)
  opened_empty t u h =
      let two : twice (mark_of q) (drop i s) ≡ false = rw t (ap (stands (mark_of q)) (drop-drop 1 i s) ∙ u) in
      let one = line_closed (mark_of q) (drop i s) t in
      let n : i + 1 - i ≡ 1 = omega arith in
      record {
        busy = tt;
        within = h;
        kind = rw two;
        end = rw (two, one);
        lines = rw n (sym (line_no_lf (mark_of q) (no_lf_mark q) false 1 (drop i s) (omega (arith, one))));
      }

  -- no second mark: a string on one line
  pub opened_line : stands (mark_of q) (drop i s) ≡ false → i < length s → (x : Ahead) → LineLooked q s i x → Looked (One q) s i x
  opened_line t h (Whole k e f) (w, _) =
      let two : twice (mark_of q) (drop i s) ≡ false = rw t in
      record { busy = tt; within = w.within; kind = rw two w.kind; end = rw two w.end; lines = w.lines }
  opened_line t h (Open n e f) (w, moves) =
      let o : eqb (get_or s i 0) (mark_of q) ≡ false = sym (first_there (λ b. eqb b (mark_of q)) s i h) ∙ t in
      let front = taken_front s i e h (moves h o) in
      record {
        forward = w.forward;
        within = w.within;
        runs = subst (λ (u : List ℕ). Runs (One q) u n) (sym front)
            (runs_line q (get_or s i 0) (take (e - (i + 1)) (drop (i + 1) s)) n o (subst (λ (u : List ℕ). Runs (Line q false) u n) front w.runs));
        lines = w.lines;
      }

  -- a second mark and a third: a string on several lines
  module _ (first : stands (mark_of q) (drop i s) ≡ true) (second : stands (mark_of q) (drop (i + 1) s) ≡ true) where
    abbrev bytes : List ℕ → List ℕ
    bytes u = get_or s i 0 ∷ get_or s (i + 1) 0 ∷ u

    front_two : (e : ℕ) → i + 2 ≤ e → take (e - i) (drop i s) ≡ bytes (take (e - (i + 2)) (drop (i + 2) s))
    front_two e h =
        let a = stands_there (mark_of q) s i first in
        let b = stands_there (mark_of q) s (i + 1) second in
        let n : i + 1 + 1 ≡ i + 2 = omega arith in
        taken_front s i e a.0 (omega arith)
        ∙ ap (λ (u : List ℕ). get_or s i 0 ∷ u) (taken_front s (i + 1) e b.0 (omega arith))
        ∙ ap (λ (k : ℕ). bytes (take (e - k) (drop k s))) n

    feeds_two : (e : ℕ) → i + 2 ≤ e → feeds_to s (i + 2) e ≡ feeds_to s i e
    feeds_two e h =
        let u = take (e - (i + 2)) (drop (i + 2) s) in
        let a = stands_there (mark_of q) s i first in
        let b = stands_there (mark_of q) s (i + 1) second in
        sym (ap line_feeds (front_two e h)
        ∙ other_front (get_or s i 0) (get_or s (i + 1) 0 ∷ u) (λ x. no_lf_mark q (sym a.1 ∙ x))
        ∙ other_front (get_or s (i + 1) 0) u (λ x. no_lf_mark q (sym b.1 ∙ x)))

    is_mark : (j : ℕ) → stands (mark_of q) (drop j s) ≡ true → eqb (get_or s j 0) (mark_of q) ≡ true
    is_mark j t = eq-eqb _ _ (stands_there (mark_of q) s j t).1

    pub opened_ml : (x : Ahead) → Looked (Ml q false) s (i + 2) x → Looked (One q) s i x
    opened_ml (Whole k e f) w =
        let two : twice (mark_of q) (drop i s) ≡ true = rw first (ap (stands (mark_of q)) (drop-drop 1 i s) ∙ second) in
        let from : drop 2 (drop i s) ≡ drop (i + 2) s = drop-drop 2 i s in
        let end : e ≡ i + suc (suc (ml_tail (mark_of q) false (drop 2 (drop i s)))) = rw from (w.end ∙ omega arith) in
        record {
          busy = tt;
          within = w.within;
          kind = rw two w.kind;
          end = rw two end;
          lines = w.lines ∙ feeds_two e (omega (arith, w.end));
        }
    opened_ml (Open n e f) w =
        let there = stands_there (mark_of q) s (i + 1) second in
        record {
          forward = omega (arith, w.forward);
          within = λ _. w.within (omega arith);
          runs = subst (λ (u : List ℕ). Runs (One q) u n) (sym (front_two e w.forward))
              (on (turn_two q _ (is_mark i first)) (on (turn_three q _ (is_mark (i + 1) second)) w.runs));
          lines = w.lines ∙ feeds_two e w.forward;
        }
