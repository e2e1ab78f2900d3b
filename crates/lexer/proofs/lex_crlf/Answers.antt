-- `lex_crlf` is right because a CR stands at its place, and it asks for the LF after it.
use Prim.Native.Nat.{ℕ, ◌+◌}
use mathlib.Core.Path.{◌≡◌, refl, sym, ◌∙◌}
use mathlib.Core.List.{List}
use native.Mathlib.Omega.{arith}
use borrow.Author.Tests.{eqb-true}
use lib.Dec.{eqb}
use lib.ListN.{get_or, drop}
use Rattle.text_classes.specs.Classes.{wschar}
use Rattle.text_classes.specs.Runs.{stands}
use Rattle.lexer_token.specs.declared.TokenKind.TheVariants.{Newline}
use Rattle.lexer_scans.specs.Extents.{newline_tail}
use Rattle.lexer_scans.proofs.MarkLaws.{stands_at, newline_tail_at}
use Rattle.lexer.specs.Table.{kind_by, extent}
use Rattle.lexer.proofs.KindLaws.{KindThere, kind_at}
use Rattle.lexer.proofs.FoundLaws.{found_lf, found_cr}
use Rattle.lexer.proofs.lex_crlf.Goals as goal

-- a newline begins with a CR
newline : (doc : List ℕ) (at : ℕ) → get_or doc at 0 ≡ 13 → KindThere doc at Newline
unfolding kind_by wschar
newline doc at e = rw e

-- whether an LF stands after it
lf_behind : (doc : List ℕ) (at : ℕ) → eqb (get_or doc (at + 1) 0) 10 ≡ stands 10 (drop (at + 1) doc)
lf_behind doc at = sym (stands_at 10 refl doc (at + 1))

pub returns-then-is_at : goal.returns-then-is_at
unfolding extent
returns-then-is_at c =
    let is = c.args in
    let second = lf_behind is.doc.now is.at ∙ sym c.is_at.ensures ∙ c.if-is_at.true in
    let two : newline_tail (drop is.at is.doc.now) ≡ 1 = simp (newline_tail_at, c.requires.1, second) in
    let kind = kind_at is.doc.now is.at c.requires.0 ∙ newline is.doc.now is.at c.requires.1 in
    c.found_of.ensures
    ∙ found_lf Newline is.doc.now is.at kind _ (omega (arith, two)) c.requires.0 refl (is.at + 1) (omega arith) (eqb-true _ _ second)

pub returns : goal.returns
unfolding extent
returns c =
    let is = c.args in
    let second = lf_behind is.doc.now is.at ∙ sym c.is_at.ensures ∙ c.if-is_at.false in
    let one : newline_tail (drop is.at is.doc.now) ≡ 0 = simp (newline_tail_at, c.requires.1, second) in
    let kind = kind_at is.doc.now is.at c.requires.0 ∙ newline is.doc.now is.at c.requires.1 in
    c.found_of-2.ensures
    ∙ found_cr Newline is.doc.now is.at kind _ (omega (arith, one)) c.requires.0 refl is.at (omega arith) (λ e. omega (arith, c.requires.1))
