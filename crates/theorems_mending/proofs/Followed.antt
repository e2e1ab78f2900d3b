-- A token that a quote mark follows lexes the same where a quotation mark follows it instead, or, if it ends in one itself, a space.
use Prim.Native.Nat.{ℕ, suc, ◌+◌, ◌≤◌, ◌<◌}
use mathlib.Core.Path.{◌≡◌, refl, sym, ◌∙◌, ap, subst}
use mathlib.Core.Logic.{◌⊎◌, inl, inr, ⊎_elim}
use mathlib.Core.Bool.{Bool, true, false, cond, ◌&&◌}
use mathlib.Core.List.{List, [], ◌∷◌, ◌++◌}
use native.Mathlib.Omega.{arith}
use borrow.Author.Tests.{eqb-true, ne_eqb}
use lib.Dec.{eqb}
use lib.ListN.{length, drop}
use Rattle.text_classes.specs.Classes.{wschar, token_start}
use Rattle.text_classes.specs.Runs.{run, stands, triple}
use Rattle.text_classes.proofs.Conds.{not_both, or_inv}
use Rattle.lexer_token.specs.declared.TokenKind.{TokenKind}
use Rattle.lexer_token.specs.declared.TokenKind.TheVariants.{Dot, Equals, Comma, LeftSquareBracket, RightSquareBracket, LeftCurlyBracket, RightCurlyBracket, Whitespace, Comment, Newline, LiteralString, BasicString, MlLiteralString, MlBasicString, Atom}
use Rattle.lexer_token.specs.KindNumbers.{kind_number}
use Rattle.lexer_scans.specs.Extents.{eol, in_comment, in_atom, line_tail, ml_tail, newline_tail}
use Rattle.lexer.specs.Table.{kind_by, kind_of, extent, token_len}
use Rattle.lexer.proofs.KindLaws.{by_kind}
use Rattle.theorems_grammar.proofs.Lexing.{IsToken}
use Rattle.built_mending.specs.Mending.{ends_quoted}
use Rattle.built_mending.proofs.TokenLaws.{ends_append}
use Rattle.theorems_mending.proofs.Shut.{run_next, run_shut, blanks_end, line_shut, line_last, triple_shut, ml_shut, ml_last}

-- a quote mark
abbrev pub Quote : ℕ → Type 0
Quote b = (b ≡ 0x27) ⊎ (b ≡ 0x22)

-- what may come in its place after bytes of which z says whether they end in a quotation mark
abbrev pub Instead : Bool → ℕ → Type 0
Instead z c = ((c ≡ 0x22) × (z ≡ false)) ⊎ ((c ≡ 0x20) × (z ≡ true))

no_quote_ends : {b : ℕ} → Quote b → b ≡ 0x0A → ⊥
no_quote_ends (inl e) h = omega arith
no_quote_ends (inr e) h = omega arith

-- ---- the kind of what begins with a mark

same_number : {k j : TokenKind} → k ≡ j → kind_number k ≡ kind_number j
same_number e = ap kind_number e

literal_single : (three : Bool) → kind_by 0x27 three ≡ LiteralString → three ≡ false
unfolding kind_by wschar
literal_single true e = absurd (omega (arith, same_number e))
literal_single false e = refl

basic_single : (three : Bool) → kind_by 0x22 three ≡ BasicString → three ≡ false
unfolding kind_by wschar
basic_single true e = absurd (omega (arith, same_number e))
basic_single false e = refl

-- ---- bytes that are blank, or end a line

blank : (f : ℕ) → wschar f ≡ true → (f ≡ 0x20) ⊎ (f ≡ 0x09)
unfolding wschar
blank f w = or_inv (eqb f 0x20) (eqb f 0x09) w (λ e. inl (eqb-true f 0x20 e)) (λ e. inr (eqb-true f 0x09 e))

ends_line : (f : ℕ) → eol f ≡ true → (f ≡ 0x0D) ⊎ (f ≡ 0x0A)
ends_line f w = or_inv (eqb f 0x0D) (eqb f 0x0A) w (λ e. inl (eqb-true f 0x0D e)) (λ e. inr (eqb-true f 0x0A e))

-- ---- three opening marks, and what they open

module _ (q f b c : ℕ) (r t : List ℕ) where
  abbrev Opened : List ℕ → ℕ → List ℕ → ℕ
  Opened x d w = suc (suc (suc (ml_tail q false (drop 3 (f ∷ (x ++ (d ∷ w)))))))

  opened_shut : (x : List ℕ) → (c ≡ q → ⊥) → triple f (f ∷ (x ++ (b ∷ r))) ≡ true → Opened x b r ≡ suc (length x)
      → (triple f (f ∷ (x ++ (c ∷ t))) ≡ true) × (Opened x c t ≡ suc (length x))
  unfolding triple
  opened_shut [] n h l = absurd (omega arith)
  opened_shut (u ∷ []) n h l = absurd (omega arith)
  opened_shut (u ∷ w ∷ y) n h l =
      let shut = ml_shut q false y b c r t n (omega arith) in
      (h, omega arith)

  opened_ends : (x : List ℕ) → Opened x b r ≡ suc (length x) → (y : List ℕ) × (x ≡ y ++ (q ∷ (q ∷ (q ∷ []))))
  opened_ends [] l = absurd (omega arith)
  opened_ends (u ∷ []) l = absurd (omega arith)
  opened_ends (u ∷ w ∷ y) l = later (ml_last q false y b r (omega arith))
    where
      later : (z : List ℕ) × (y ≡ z ++ (q ∷ (q ∷ (q ∷ [])))) → (v : List ℕ) × (u ∷ (w ∷ y) ≡ v ++ (q ∷ (q ∷ (q ∷ []))))
      later (z, e) = (u ∷ (w ∷ z), ap (λ (l : List ℕ). u ∷ (w ∷ l)) e)

-- bytes that end in quotation marks
ends_in : (z : Bool) (y m : List ℕ) → ((g : Bool) → ends_quoted g m ≡ true) → ends_quoted z (y ++ m) ≡ true
ends_in z y m h = ends_append z y m ∙ h (ends_quoted z y)

one_mark : (g : Bool) → ends_quoted g (0x22 ∷ []) ≡ true
unfolding ends_quoted
one_mark g = refl

three_marks : (g : Bool) → ends_quoted g (0x22 ∷ (0x22 ∷ (0x22 ∷ []))) ≡ true
unfolding ends_quoted
three_marks g = refl

-- ---- a newline at the front

newline_shut : (f b c : ℕ) (x r t : List ℕ) → (b ≡ 0x0A → ⊥) → (c ≡ 0x0A → ⊥)
    → suc (newline_tail (f ∷ (x ++ (b ∷ r)))) ≡ suc (length x) → suc (newline_tail (f ∷ (x ++ (c ∷ t)))) ≡ suc (length x)
unfolding newline_tail
newline_shut f b c [] r t n m l = rw (ne_eqb c 0x0A m) (none (eqb f 0x0D))
  where
    none : (u : Bool) → ◌≡◌ {A = ℕ} (suc (cond (u && false) 1 0)) 1
    none true = refl
    none false = refl
newline_shut f b c (u ∷ x) r t n m l = l

-- ---- the token f ∷ x, which b follows, where c follows instead

module _ (f : ℕ) (x : List ℕ) (b c : ℕ) (r t : List ℕ) (quote : Quote b) (instead : Instead (ends_quoted (eqb f 0x22) x) c) where
  abbrev s : List ℕ
  s = f ∷ (x ++ (b ∷ r))

  abbrev s' : List ℕ
  s' = f ∷ (x ++ (c ∷ t))

  no_lf : c ≡ 0x0A → ⊥
  no_lf h = ⊎_elim (λ i. omega (arith, i.0)) (λ i. omega (arith, i.0)) instead

  no_apostrophe : c ≡ 0x27 → ⊥
  no_apostrophe h = ⊎_elim (λ i. omega (arith, i.0)) (λ i. omega (arith, i.0)) instead

  -- after a quotation mark it is a space
  no_mark : ends_quoted (eqb f 0x22) x ≡ true → c ≡ 0x22 → ⊥
  no_mark ends h = ⊎_elim (λ i. not_both ends i.1) (λ i. omega (arith, i.0)) instead

  abbrev P : TokenKind → Type 0
  P k = kind_by f (triple f s) ≡ k → extent k s ≡ suc (length x) → (kind_of s' ≡ k) × (extent k s' ≡ suc (length x))

  spaces : wschar f ≡ true → P Whitespace
  unfolding kind_of kind_by extent wschar
  spaces w k l =
      let first : kind_of s' ≡ Whitespace = ⊎_elim (λ q. rw q refl) (λ q. rw q refl) (blank f w) in
      ⊎_elim
      (λ i. (first, ap suc (run_shut wschar x b c r t (rw i.0 refl) (omega arith))))
      (λ i. absurd (not_blank (blank f w) (eqb-true f 0x22 (blanks_end x b r (eqb f 0x22) (omega arith) i.1))))
      instead
    where
      not_blank : (f ≡ 0x20) ⊎ (f ≡ 0x09) → f ≡ 0x22 → ⊥
      not_blank (inl e) h = omega arith
      not_blank (inr e) h = omega arith

  remark : f ≡ 0x23 → P Comment
  unfolding extent
  remark q k l = absurd (inside quote (run_next in_comment x b r (omega arith)))
    where
      inside : Quote b → in_comment b ≡ false → ⊥
      inside (inl e) h = not_both refl (rw e at h)
      inside (inr e) h = not_both refl (rw e at h)

  line_end : eol f ≡ true → P Newline
  unfolding kind_of kind_by extent wschar
  line_end w k l =
      let tail = newline_shut f b c x r t (no_quote_ends quote) no_lf l in
      ⊎_elim (λ q. (rw q refl, tail)) (λ q. (rw q refl, tail)) (ends_line f w)

  literal : f ≡ 0x27 → P LiteralString
  unfolding kind_of kind_by extent wschar
  literal q k l =
      let single : triple 0x27 s ≡ false =
      ap (λ (n : ℕ). triple n s) (sym q) ∙ literal_single (triple f s) (ap (λ (n : ℕ). kind_by n (triple f s)) (sym q) ∙ k) in
      let shut : triple 0x27 s' ≡ false = triple_shut 0x27 f x b c r t no_apostrophe single in
      let tail = line_shut 0x27 false x b r (c ∷ t) (no_quote_ends quote) (omega arith) in
      (rw (q, rw q at shut) refl, ap suc tail)

  basic : f ≡ 0x22 → P BasicString
  unfolding kind_of kind_by extent wschar
  basic q k l =
      let single : triple 0x22 s ≡ false =
      ap (λ (n : ℕ). triple n s) (sym q) ∙ basic_single (triple f s) (ap (λ (n : ℕ). kind_by n (triple f s)) (sym q) ∙ k) in
      let last = line_last 0x22 false x b r (no_quote_ends quote) (omega arith) in
      let ends : ends_quoted (eqb f 0x22) x ≡ true = rw last.1 (ends_in (eqb f 0x22) last.0 (0x22 ∷ []) one_mark) in
      let shut : triple 0x22 s' ≡ false = triple_shut 0x22 f x b c r t (no_mark ends) single in
      let tail = line_shut 0x22 false x b r (c ∷ t) (no_quote_ends quote) (omega arith) in
      (rw (q, rw q at shut) refl, ap suc tail)

  ml_literal : f ≡ 0x27 → triple f s ≡ true → P MlLiteralString
  unfolding kind_of kind_by extent wschar
  ml_literal q h k l =
      let shut = opened_shut 0x27 f b c r t x no_apostrophe h l in
      (rw (shut.0, q) refl, shut.1)

  ml_basic : f ≡ 0x22 → triple f s ≡ true → P MlBasicString
  unfolding kind_of kind_by extent wschar
  ml_basic q h k l =
      let last = opened_ends 0x22 f b c r t x l in
      let ends : ends_quoted (eqb f 0x22) x ≡ true =
      rw last.1 (ends_in (eqb f 0x22) last.0 (0x22 ∷ (0x22 ∷ (0x22 ∷ []))) three_marks) in
      let shut = opened_shut 0x22 f b c r t x (no_mark ends) h l in
      (rw (shut.0, q) refl, shut.1)

  atom : P Atom
  unfolding extent token_start
  atom k l = absurd (inside quote (run_next in_atom x b r (omega arith)))
    where
      inside : Quote b → in_atom b ≡ false → ⊥
      inside (inl e) h = not_both refl (rw e at h)
      inside (inr e) h = not_both refl (rw e at h)

  each : P (kind_by f (triple f s))
  unfolding kind_of kind_by extent
  each = by_kind P f (triple f s)
      (λ q k l. (rw q refl, l)) (λ q k l. (rw q refl, l)) (λ q k l. (rw q refl, l)) (λ q k l. (rw q refl, l)) (λ q k l. (rw q refl, l))
      (λ q k l. (rw q refl, l)) (λ q k l. (rw q refl, l)) spaces remark line_end literal basic ml_literal ml_basic atom

  pub followed : (k : TokenKind) → IsToken k (f ∷ x) (b ∷ r) → IsToken k (f ∷ x) (c ∷ t)
  unfolding token_len kind_of
  followed k (kind, size) =
      let out = each refl size in
      let is : kind_of s' ≡ kind_by f (triple f s) = out.0 in
      (is ∙ kind, ap (λ (j : TokenKind). extent j s') is ∙ out.1)
