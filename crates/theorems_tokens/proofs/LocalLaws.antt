-- A token depends only on its own bytes and on the byte after them: two lists that agree on these begin with the same token.
-- Assumes nothing.
use Prim.Native.Nat.{ℕ, zero, suc, ◌+◌, ◌≤◌, ◌<◌}
use mathlib.Core.Path.{◌≡◌, refl, sym, ap, ◌∙◌, subst}
use mathlib.Core.Bool.{Bool, true, false, not, ◌&&◌}
use mathlib.Core.Logic.{◌⊎◌, inl, inr, ⊎_elim}
use mathlib.Core.List.{List, [], ◌∷◌}
use native.Mathlib.Omega.{arith}
use native.Mathlib.Decide.{dec_lt}
use borrow.Author.Tests.{ne_eqb, eqb-true}
use lib.Dec.{eqb}
use lib.ListN.{length, get_or, take, drop}
use lib.Seq.{get_or-take, drop-drop}
use Rattle.text_classes.specs.Classes.{wschar}
use Rattle.text_classes.specs.Runs.{run, first_is, stands, triple}
use Rattle.text_classes.proofs.Conds.{cond_case}
use Rattle.text_classes.proofs.FirstLaws.{first_take}
use Rattle.lexer_token.specs.declared.TokenKind.{TokenKind}
use Rattle.lexer_token.specs.declared.TokenKind.TheVariants.{Dot, Equals, Comma, LeftSquareBracket, RightSquareBracket, LeftCurlyBracket, RightCurlyBracket, Whitespace, Comment, Newline, LiteralString, BasicString, MlLiteralString, MlBasicString, Atom, Eof}
use Rattle.lexer_scans.specs.Extents.{hides, closes, in_comment, in_atom}
use Rattle.lexer_scans.specs.Extents.{line_tail, up_to_two, ml_tail, newline_tail}
use Rattle.lexer.specs.Table.{kind_by, kind_of, extent, token_len}
use Rattle.lexer.proofs.TokenLaws.{token_long}

-- the first n bytes are the same, and both lists end there where one does
abbrev pub Agree : ℕ → List ℕ → List ℕ → Type 0
Agree n s t = take n s ≡ take n t

-- t begins with b, and agrees with s in n bytes after it
record Front (b n : ℕ) (s t : List ℕ) : Type 0 where
  rest : List ℕ
  is : t ≡ b ∷ rest
  agree : Agree n s rest

same_front : (b n : ℕ) (s t : List ℕ) → Agree (suc n) (b ∷ s) t → Front b n s t
same_front b n s [] a = absurd (omega (arith, ap length a))
same_front b n s (c ∷ t) a =
    let same : b ∷ take n s ≡ c ∷ take n t = a in
    let e : b ≡ c = cc in
    let r : take n s ≡ take n t = cc in
    record { rest = t; is = ap (λ (x : ℕ). x ∷ t) (sym e); agree = r }

nothing : (n : ℕ) (t : List ℕ) → Agree (suc n) [] t → t ≡ []
nothing n [] a = refl
nothing n (c ∷ t) a = absurd (omega (arith, ap length a))

-- lists that agree in n bytes agree in fewer
fewer : (m n : ℕ) (s t : List ℕ) → m ≤ n → Agree n s t → Agree m s t
fewer zero n s t l a = refl
fewer (suc m) zero s t l a = absurd (omega arith)
fewer (suc m) (suc n) [] [] l a = refl
fewer (suc m) (suc n) [] (c ∷ t) l a = absurd (omega (arith, ap length a))
fewer (suc m) (suc n) (b ∷ s) [] l a = absurd (omega (arith, ap length a))
fewer (suc m) (suc n) (b ∷ s) (c ∷ t) l a =
    let same : b ∷ take n s ≡ c ∷ take n t = a in
    let e : b ≡ c = cc in
    let r : take n s ≡ take n t = cc in
    let i = fewer m n s t (omega arith) r in
    cc

-- ---- runs and strings on one line

pub run_local : (p : ℕ → Bool) (s t : List ℕ) → Agree (suc (run p s)) s t → run p t ≡ run p s
unfolding run
run_local p [] t = λ a. rw (nothing 0 t a)
run_local p (b ∷ s) t =
    cond_case (λ (n : ℕ). Agree (suc n) (b ∷ s) t → run p t ≡ n) (p b)
    (λ e a. let f = same_front b (suc (run p s)) s t a in rw (f.is, e) (ap suc (run_local p s f.rest f.agree)))
    (λ e a. let f = same_front b 0 s t a in rw (f.is, e))

pub line_local : (q : ℕ) (h : Bool) (s t : List ℕ) → Agree (suc (line_tail q h s)) s t → line_tail q h t ≡ line_tail q h s
unfolding line_tail
line_local q h [] t = λ a. rw (nothing 0 t a)
line_local q h (b ∷ s) t =
    let P : ℕ → Type 0 = λ n. Agree (suc n) (b ∷ s) t → line_tail q h t ≡ n in
    cond_case P (closes q h b)
    (λ e a. let f = same_front b 1 s t a in rw (f.is, e))
    λ e. cond_case P (eqb b 10)
    (λ u a. let f = same_front b 0 s t a in rw (f.is, e, u))
    (λ u a.
    let f = same_front b (suc (line_tail q (hides q h b) s)) s t a in
    rw (f.is, e, u) (ap suc (line_local q (hides q h b) s f.rest f.agree)))

-- ---- marks

at_agree : (p : ℕ → Bool) (n i : ℕ) (s t : List ℕ) → i < n → Agree n s t → first_is p (drop i t) ≡ first_is p (drop i s)
at_agree p n i s t h a = sym (first_take p t n i h) ∙ ap (λ (l : List ℕ). first_is p (drop i l)) (sym a) ∙ first_take p s n i h

-- the byte at i is q in both lists or in neither
mark_agree : (q n i : ℕ) (s t : List ℕ) → i < n → Agree n s t → stands q (drop i t) ≡ stands q (drop i s)
mark_agree q = at_agree (λ b. eqb b q)

triple_local : (q : ℕ) (s t : List ℕ) → Agree 3 s t → triple q t ≡ triple q s
unfolding triple
triple_local q s t a =
    rw (mark_agree q 3 0 s t (omega arith) a, mark_agree q 3 1 s t (omega arith) a, mark_agree q 3 2 s t (omega arith) a)

pub two_local : (q : ℕ) (s t : List ℕ) → Agree (suc (up_to_two q s)) s t → up_to_two q t ≡ up_to_two q s
unfolding up_to_two
two_local q s t =
    let P : ℕ → Type 0 = λ n. Agree (suc n) s t → up_to_two q t ≡ n in
    cond_case P (stands q s)
    (λ e. cond_case P (stands q (drop 1 s)) {x = 2} {y = 1}
    (λ u a. rw (mark_agree q 3 0 s t (omega arith) a, mark_agree q 3 1 s t (omega arith) a, e, u))
    (λ u a. rw (mark_agree q 2 0 s t (omega arith) a, mark_agree q 2 1 s t (omega arith) a, e, u)))
    (λ e a. rw (mark_agree q 1 0 s t (omega arith) a, e))

-- a newline: a CR and what follows it
pub newline_local : (s t : List ℕ) → Agree 2 s t → newline_tail t ≡ newline_tail s
unfolding newline_tail
newline_local s t a = rw (mark_agree 13 2 0 s t (omega arith) a, mark_agree 10 2 1 s t (omega arith) a)

-- ---- multi-line strings

rest_of_one : (n : ℕ) (s t : List ℕ) → Agree (suc n) s t → Agree n (drop 1 s) (drop 1 t)
rest_of_one n [] [] a = refl
rest_of_one n [] (c ∷ t) a = absurd (omega (arith, ap length a))
rest_of_one n (b ∷ s) [] a = absurd (omega (arith, ap length a))
rest_of_one n (b ∷ s) (c ∷ t) a =
    let same : b ∷ take n s ≡ c ∷ take n t = a in
    cc

rest_of_three : (n : ℕ) (s t : List ℕ) → Agree (suc (suc (suc n))) s t → Agree n (drop 3 s) (drop 3 t)
rest_of_three n s t a =
    let one = rest_of_one (suc (suc n)) s t a in
    let two = rest_of_one (suc n) (drop 1 s) (drop 1 t) one in
    let three = rest_of_one n (drop 1 (drop 1 s)) (drop 1 (drop 1 t)) two in
    sym (ap (take n) (all s)) ∙ three ∙ ap (take n) (all t)
  where
    all : (l : List ℕ) → drop 1 (drop 1 (drop 1 l)) ≡ drop 3 l
    all l = ap (drop 1) (drop-drop 1 1 l) ∙ drop-drop 1 2 l

ml_nothing : (q : ℕ) (h : Bool) (s : List ℕ) → ml_tail q h s ≡ 0 → s ≡ []
unfolding ml_tail
ml_nothing q h [] = λ e. refl
ml_nothing q h (b ∷ s) =
    cond_case (λ (n : ℕ). n ≡ 0 → b ∷ s ≡ []) (not h && triple q (b ∷ s))
    (λ t e. absurd (omega arith)) (λ t e. absurd (omega arith))

-- where a string goes on after its first byte, both lists have three marks there or neither has
same_marks : (q : ℕ) (h : Bool) (b : ℕ) (s t : List ℕ) → Agree (suc (suc (ml_tail q h s))) (b ∷ s) t
    → triple q t ≡ triple q (b ∷ s)
same_marks q h b s t a = go (ml_tail q h s) refl a
  where
    go : (m : ℕ) → ml_tail q h s ≡ m → Agree (suc (suc m)) (b ∷ s) t → triple q t ≡ triple q (b ∷ s)
    go zero e a =
        let none = ml_nothing q h s e in
        let f = same_front b 1 s t a in
        let end : f.rest ≡ [] = nothing 0 f.rest (subst (λ (x : List ℕ). Agree 1 x f.rest) none f.agree) in
        rw (f.is, end, none)
    go (suc m) e a = triple_local q (b ∷ s) t (fewer 3 (suc (suc (suc m))) (b ∷ s) t (omega arith) a)

ml_closed : (q : ℕ) (h : Bool) (b : ℕ) (s : List ℕ) → (not h && triple q (b ∷ s)) ≡ true
    → ml_tail q h (b ∷ s) ≡ 3 + up_to_two q (drop 3 (b ∷ s))
unfolding ml_tail
ml_closed q h b s t = rw t

pub ml_local : (q : ℕ) (h : Bool) (s t : List ℕ) → Agree (suc (ml_tail q h s)) s t → ml_tail q h t ≡ ml_tail q h s
unfolding ml_tail
ml_local q h [] t = λ a. rw (nothing 0 t a)
ml_local q h (b ∷ s) t =
    cond_case (λ (n : ℕ). Agree (suc n) (b ∷ s) t → ml_tail q h t ≡ n) (not h && triple q (b ∷ s))
    (λ e a.
    let u = up_to_two q (drop 3 (b ∷ s)) in
    let more : suc (3 + u) ≡ suc (suc (suc (suc u))) = omega arith in
    let all : Agree (suc (suc (suc (suc u)))) (b ∷ s) t = subst (λ (n : ℕ). Agree n (b ∷ s) t) more a in
    let f = same_front b (suc (suc (suc u))) s t all in
    let marks = triple_local q (b ∷ s) t (fewer 3 (suc (suc (suc (suc u)))) (b ∷ s) t (omega arith) all) in
    let two = two_local q (drop 3 (b ∷ s)) (drop 3 t) (rest_of_three (suc u) (b ∷ s) t all) in
    let opens : (not h && triple q (b ∷ f.rest)) ≡ true = rw (← f.is, marks) e in
    ap (ml_tail q h) f.is ∙ ml_closed q h b f.rest opens
    ∙ ap (λ (l : List ℕ). 3 + up_to_two q (drop 3 l)) (sym f.is) ∙ ap (λ (n : ℕ). 3 + n) two)
    (λ e a.
    let f = same_front b (suc (ml_tail q (hides q h b) s)) s t a in
    let marks = same_marks q (hides q h b) b s t a in
    let shut : (not h && triple q (b ∷ f.rest)) ≡ false = rw (← f.is, marks) e in
    rw (f.is, shut) (ap suc (ml_local q (hides q h b) s f.rest f.agree)))

-- ---- whole tokens

extent_local : (k : TokenKind) (b : ℕ) (s t : List ℕ) → Agree (suc (extent k (b ∷ s))) (b ∷ s) t → extent k t ≡ extent k (b ∷ s)
unfolding extent
extent_local Dot b s t a = refl
extent_local Equals b s t a = refl
extent_local Comma b s t a = refl
extent_local LeftSquareBracket b s t a = refl
extent_local RightSquareBracket b s t a = refl
extent_local LeftCurlyBracket b s t a = refl
extent_local RightCurlyBracket b s t a = refl
extent_local Whitespace b s t a = ap suc (run_local wschar s (drop 1 t) (rest_of_one (suc (run wschar s)) (b ∷ s) t a))
extent_local Comment b s t a = ap suc (run_local in_comment s (drop 1 t) (rest_of_one (suc (run in_comment s)) (b ∷ s) t a))
extent_local Newline b s t a =
    ap suc (newline_local (b ∷ s) t (fewer 2 (suc (suc (newline_tail (b ∷ s)))) (b ∷ s) t (omega arith) a))
extent_local LiteralString b s t a =
    ap suc (line_local 39 false s (drop 1 t) (rest_of_one (suc (line_tail 39 false s)) (b ∷ s) t a))
extent_local BasicString b s t a = ap suc (line_local 34 false s (drop 1 t) (rest_of_one (suc (line_tail 34 false s)) (b ∷ s) t a))
extent_local MlLiteralString b s t a =
    let m = ml_tail 39 false (drop 3 (b ∷ s)) in
    ap (λ (n : ℕ). suc (suc (suc n))) (ml_local 39 false (drop 3 (b ∷ s)) (drop 3 t) (rest_of_three (suc m) (b ∷ s) t a))
extent_local MlBasicString b s t a =
    let m = ml_tail 34 false (drop 3 (b ∷ s)) in
    ap (λ (n : ℕ). suc (suc (suc n))) (ml_local 34 false (drop 3 (b ∷ s)) (drop 3 t) (rest_of_three (suc m) (b ∷ s) t a))
extent_local Atom b s t a = ap suc (run_local in_atom s (drop 1 t) (rest_of_one (suc (run in_atom s)) (b ∷ s) t a))
extent_local Eof b s t a = refl

-- the kind by a byte that is no quote mark does not depend on whether three marks stand there
no_quote : (b : ℕ) (x y : Bool) → eqb b 39 ≡ false → eqb b 34 ≡ false → kind_by b x ≡ kind_by b y
unfolding kind_by
no_quote b x y l m = rw (l, m)

no_second : (q : ℕ) (s : List ℕ) → stands q (drop 1 s) ≡ false → triple q s ≡ false
unfolding triple
no_second q s e = rw e (go (stands q s))
  where
    go : (x : Bool) → (x && false) ≡ false
    go true = refl
    go false = refl

-- a token that begins with two quote marks has at least two bytes
two_long : (b : ℕ) (s : List ℕ) → (b ≡ 39) ⊎ (b ≡ 34) → 2 ≤ token_len (b ∷ b ∷ s)
unfolding token_len kind_of kind_by wschar extent line_tail
two_long b s (inl e) =
    let P : TokenKind → Type 0 = λ k. 2 ≤ extent k (39 ∷ 39 ∷ s) in
    rw e (cond_case P (triple 39 (39 ∷ 39 ∷ s)) (λ _. omega arith) (λ _. omega arith))
two_long b s (inr e) =
    let P : TokenKind → Type 0 = λ k. 2 ≤ extent k (34 ∷ 34 ∷ s) in
    rw e (cond_case P (triple 34 (34 ∷ 34 ∷ s)) (λ _. omega arith) (λ _. omega arith))

one_mark : (b : ℕ) (s : List ℕ) → (b ≡ 39) ⊎ (b ≡ 34) → token_len (b ∷ s) ≤ 1 → stands b s ≡ false
one_mark b [] q l = refl
one_mark b (c ∷ s) q l = ne_eqb c b (λ e. omega (arith, two_long b s q, rw e at l))

a_quote : (b : ℕ) → ((b ≡ 39) ⊎ (b ≡ 34)) ⊎ ((eqb b 39 ≡ false) × (eqb b 34 ≡ false))
a_quote b = go (eqb b 39) (eqb b 34) refl refl
  where
    go : (x y : Bool) → eqb b 39 ≡ x → eqb b 34 ≡ y → ((b ≡ 39) ⊎ (b ≡ 34)) ⊎ ((eqb b 39 ≡ false) × (eqb b 34 ≡ false))
    go true y l m = inl (inl (eqb-true b 39 l))
    go false true l m = inl (inr (eqb-true b 34 m))
    go false false l m = inr (l, m)

kind_local : (b : ℕ) (s t : List ℕ) → Agree (suc (token_len (b ∷ s))) (b ∷ s) t → kind_of t ≡ kind_of (b ∷ s)
unfolding kind_of
kind_local b s t a =
    let n = token_len (b ∷ s) in
    let long = token_long (b ∷ s) (omega arith) in
    let f = same_front b n s t a in
    let same : kind_of t ≡ kind_by b (triple b t) = ap kind_of f.is ∙ ap (λ (l : List ℕ). kind_by b (triple b l)) (sym f.is) in
    elim (dec_lt 1 n) [
      | yes h ↦ same ∙ ap (kind_by b) (triple_local b (b ∷ s) t (fewer 3 (suc n) (b ∷ s) t (omega arith) a))
      | no h ↦
          ⊎_elim
          (λ q.
          let here = one_mark b s q (omega arith) in
          let there = mark_agree b 2 1 (b ∷ s) t (omega arith) (fewer 2 (suc n) (b ∷ s) t (omega arith) a) in
          let shut : stands b (drop 1 t) ≡ false = there ∙ here in
          same ∙ ap (kind_by b) (no_second b t shut ∙ sym (no_second b (b ∷ s) here)))
          (λ q. same ∙ no_quote b (triple b t) (triple b (b ∷ s)) q.0 q.1)
          (a_quote b)
    ]

-- a token depends only on its own bytes and on the byte after them
pub token_local : (s t : List ℕ) → Agree (suc (token_len s)) s t → (kind_of t ≡ kind_of s) × (token_len t ≡ token_len s)
unfolding token_len kind_of extent
token_local [] t a = rw (nothing 0 t a) (refl, refl)
token_local (b ∷ s) t a =
    let kind = kind_local b s t a in
    (kind, ap (λ (k : TokenKind). extent k t) kind ∙ extent_local (kind_of (b ∷ s)) b s t a)
