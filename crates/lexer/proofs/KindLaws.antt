-- A token's kind at a place of the document.
-- Assumes nothing.
use Prim.Native.Nat.{ℕ, ◌<◌}
use mathlib.Core.Path.{◌≡◌, ap}
use mathlib.Core.Bool.{Bool, true}
use mathlib.Core.List.{List, [], ◌∷◌}
use borrow.Author.Tests.{eqb-true, ne_eqb}
use lib.Dec.{eqb}
use lib.ListN.{length, get_or, drop}
use lib.Seq.{drop-cons}
use Rattle.text_classes.specs.Classes.{wschar}
use Rattle.text_classes.proofs.Conds.{cond_case}
use Rattle.lexer_token.specs.declared.TokenKind.{TokenKind}
use Rattle.lexer_token.specs.declared.TokenKind.TheVariants.{Dot, Equals, Comma, LeftSquareBracket, RightSquareBracket, LeftCurlyBracket, RightCurlyBracket, Whitespace, Comment, Newline, LiteralString, BasicString, MlLiteralString, MlBasicString, Atom}
use Rattle.lexer_scans.specs.Extents.{eol}
use Rattle.text_classes.specs.Runs.{triple}
use Rattle.lexer.specs.Table.{kind_by, kind_of}
use Rattle.lexer.specs.Loops.{found_of}

pub kind_at : (s : List ℕ) (i : ℕ) → i < length s → kind_of (drop i s) ≡ kind_by (get_or s i 0) (triple (get_or s i 0) (drop i s))
unfolding kind_of
kind_at s i h = rw (drop-cons s i 0)

-- the kind by the byte at a place
abbrev pub KindThere : List ℕ → ℕ → TokenKind → Type 0
KindThere doc at k = kind_by (get_or doc at 0) (triple (get_or doc at 0) (drop at doc)) ≡ k

-- b is none of some bytes
abbrev pub NoneOf : ℕ → List ℕ → Type 0
NoneOf b [] = Unit {0}
NoneOf b (k ∷ ks) = NoneOf b ks × (b ≡ k → ⊥)

-- what begins no other kind begins an atom
pub atom_by : (b : ℕ) (three : Bool)
    → NoneOf b (34 ∷ 39 ∷ 10 ∷ 13 ∷ 35 ∷ 9 ∷ 32 ∷ 125 ∷ 123 ∷ 93 ∷ 91 ∷ 44 ∷ 61 ∷ 46 ∷ []) → kind_by b three ≡ Atom
unfolding kind_by wschar
atom_by b three r =
    simp (
      ne_eqb b 34 r.1,
      ne_eqb b 39 r.0.1,
      ne_eqb b 10 r.0.0.1,
      ne_eqb b 13 r.0.0.0.1,
      ne_eqb b 35 r.0.0.0.0.1,
      ne_eqb b 9 r.0.0.0.0.0.1,
      ne_eqb b 32 r.0.0.0.0.0.0.1,
      ne_eqb b 125 r.0.0.0.0.0.0.0.1,
      ne_eqb b 123 r.0.0.0.0.0.0.0.0.1,
      ne_eqb b 93 r.0.0.0.0.0.0.0.0.0.1,
      ne_eqb b 91 r.0.0.0.0.0.0.0.0.0.0.1,
      ne_eqb b 44 r.0.0.0.0.0.0.0.0.0.0.0.1,
      ne_eqb b 61 r.0.0.0.0.0.0.0.0.0.0.0.0.1,
      ne_eqb b 46 r.0.0.0.0.0.0.0.0.0.0.0.0.0.1,
    )

-- the same by an equal end
pub end_is : {k : TokenKind} {e f n : ℕ} → e ≡ f → found_of k e n ≡ found_of k f n
end_is {k} {e} {f} {n} same = ap (λ (i : ℕ). found_of k i n) same

-- the kinds in turn: what holds of each kind under its test holds of the kind by a first byte
pub by_kind : (P : TokenKind → Type 0) (b : ℕ) (three : Bool)
    → (b ≡ 46 → P Dot) → (b ≡ 61 → P Equals) → (b ≡ 44 → P Comma)
    → (b ≡ 91 → P LeftSquareBracket) → (b ≡ 93 → P RightSquareBracket)
    → (b ≡ 123 → P LeftCurlyBracket) → (b ≡ 125 → P RightCurlyBracket)
    → (wschar b ≡ true → P Whitespace) → (b ≡ 35 → P Comment) → (eol b ≡ true → P Newline)
    → (b ≡ 39 → P LiteralString) → (b ≡ 34 → P BasicString)
    → (b ≡ 39 → three ≡ true → P MlLiteralString) → (b ≡ 34 → three ≡ true → P MlBasicString)
    → P Atom → P (kind_by b three)
unfolding kind_by
by_kind P b three dot equals comma ls rs lc rc ws comment newline literal basic mll mlb atom =
    cond_case P (eqb b 46) (λ t. dot (eqb-true b 46 t)) λ _.
    cond_case P (eqb b 61) (λ t. equals (eqb-true b 61 t)) λ _.
    cond_case P (eqb b 44) (λ t. comma (eqb-true b 44 t)) λ _.
    cond_case P (eqb b 91) (λ t. ls (eqb-true b 91 t)) λ _.
    cond_case P (eqb b 93) (λ t. rs (eqb-true b 93 t)) λ _.
    cond_case P (eqb b 123) (λ t. lc (eqb-true b 123 t)) λ _.
    cond_case P (eqb b 125) (λ t. rc (eqb-true b 125 t)) λ _.
    cond_case P (wschar b) ws λ _.
    cond_case P (eqb b 35) (λ t. comment (eqb-true b 35 t)) λ _.
    cond_case P (eol b) newline λ _.
    cond_case P (eqb b 39) (λ t. let e = eqb-true b 39 t in cond_case P three (mll e) (λ _. literal e)) λ _.
    cond_case P (eqb b 34) (λ t. let e = eqb-true b 34 t in cond_case P three (mlb e) (λ _. basic e)) λ _. atom
