-- `lex_lf` is right because an LF stands at its place, and is the one LF in its token.
use mathlib.Core.Path.{◌≡◌, refl, ◌∙◌}
use lib.ListN.{drop}
use Rattle.text_classes.specs.Classes.{wschar}
use Rattle.lexer_token.specs.declared.TokenKind.TheVariants.{Newline}
use Rattle.lexer_scans.specs.Extents.{newline_tail}
use Rattle.lexer_scans.proofs.MarkLaws.{newline_tail_at}
use Rattle.lexer.specs.Table.{kind_by, kind_of, extent}
use Rattle.lexer.proofs.KindLaws.{kind_at}
use Rattle.lexer.proofs.FoundLaws.{found_lf}
use native.Mathlib.Omega.{arith}
use Rattle.lexer.proofs.lex_lf.Goals as goal

pub returns : goal.returns
unfolding kind_by wschar extent
returns c =
    let is = c.args in
    let lf = c.requires.1 in
    let one : newline_tail (drop is.at is.doc.now) ≡ 0 = simp (newline_tail_at, lf) in
    let kind : kind_of (drop is.at is.doc.now) ≡ Newline = kind_at is.doc.now is.at c.requires.0 ∙ rw lf in
    c.found_of.ensures
    ∙ found_lf Newline is.doc.now is.at kind _ (rw one) c.requires.0 refl is.at (omega arith) lf
