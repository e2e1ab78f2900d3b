-- `step_token` is right because its arms are the table's, first byte by first byte: what is short is read by the function of
-- its kind, and the end of what is longer is found by the loop.
use mathlib.Core.Path.{refl, sym, ◌∙◌}
use native.Mathlib.Omega.{arith}
use lib.ListN.{get_or, drop}
use borrow.Author.Rules.{rules}
use Rattle.text_classes.specs.Classes.{wschar}
use Rattle.text_classes.specs.Runs.{triple}
use Rattle.lexer_token.specs.declared.TokenKind.TheVariants.{Dot, Equals, Comma, LeftSquareBracket, RightSquareBracket, LeftCurlyBracket, RightCurlyBracket, Whitespace, Atom}
use Rattle.lexer.specs.Table.{kind_by, extent}
use Rattle.lexer.proofs.KindLaws.{kind_at, atom_by}
use Rattle.lexer.proofs.FoundLaws.{found_there}
use Rattle.lexer.proofs.RangesStepEngine.step_token.Goals as goal

pub by_loop-requires : goal.by_loop-requires
unfolding kind_by wschar
by_loop-requires c = (omega arith, kind_at c.args.doc.now c.args.at (omega arith) ∙ rw c.in-35.is)

pub by_loop-requires-in-13 : goal.by_loop-requires-in-13
unfolding kind_by wschar
by_loop-requires-in-13 c = (omega arith, kind_at c.args.doc.now c.args.at (omega arith) ∙ rw c.in-13.is)

pub by_loop-requires-then-is_triple : goal.by_loop-requires-then-is_triple
unfolding kind_by wschar
by_loop-requires-then-is_triple c =
    let three = sym c.is_triple.ensures ∙ c.if-is_triple.true in
    (omega arith, kind_at c.args.doc.now c.args.at (omega arith) ∙ rw (c.in-39.is, three))

pub by_loop-requires-else-is_triple : goal.by_loop-requires-else-is_triple
unfolding kind_by wschar
by_loop-requires-else-is_triple c =
    let three = sym c.is_triple.ensures ∙ c.if-is_triple.false in
    (omega arith, kind_at c.args.doc.now c.args.at (omega arith) ∙ rw (c.in-39.is, three))

pub by_loop-requires-then-is_triple-2 : goal.by_loop-requires-then-is_triple-2
unfolding kind_by wschar
by_loop-requires-then-is_triple-2 c =
    let three = sym c.is_triple-in-34.ensures ∙ c.if-is_triple-2.true in
    (omega arith, kind_at c.args.doc.now c.args.at (omega arith) ∙ rw (c.in-34.is, three))

pub by_loop-requires-else-is_triple-2 : goal.by_loop-requires-else-is_triple-2
unfolding kind_by wschar
by_loop-requires-else-is_triple-2 c =
    let three = sym c.is_triple-in-34.ensures ∙ c.if-is_triple-2.false in
    (omega arith, kind_at c.args.doc.now c.args.at (omega arith) ∙ rw (c.in-34.is, three))

pub returns-in-46 : goal.returns-in-46
unfolding kind_by extent
returns-in-46 c =
    let is = c.args in
    c.lex_ascii_char.ensures ∙ found_there Dot is.doc.now is.at (omega arith) (rw c.in-46.is) refl

pub returns-in-61 : goal.returns-in-61
unfolding kind_by extent
returns-in-61 c =
    let is = c.args in
    c.lex_ascii_char-in-61.ensures ∙ found_there Equals is.doc.now is.at (omega arith) (rw c.in-61.is) refl

pub returns-in-44 : goal.returns-in-44
unfolding kind_by extent
returns-in-44 c =
    let is = c.args in
    c.lex_ascii_char-in-44.ensures ∙ found_there Comma is.doc.now is.at (omega arith) (rw c.in-44.is) refl

pub returns-in-91 : goal.returns-in-91
unfolding kind_by extent
returns-in-91 c =
    let is = c.args in
    c.lex_ascii_char-in-91.ensures ∙ found_there LeftSquareBracket is.doc.now is.at (omega arith) (rw c.in-91.is) refl

pub returns-in-93 : goal.returns-in-93
unfolding kind_by extent
returns-in-93 c =
    let is = c.args in
    c.lex_ascii_char-in-93.ensures ∙ found_there RightSquareBracket is.doc.now is.at (omega arith) (rw c.in-93.is) refl

pub returns-in-123 : goal.returns-in-123
unfolding kind_by extent
returns-in-123 c =
    let is = c.args in
    c.lex_ascii_char-in-123.ensures ∙ found_there LeftCurlyBracket is.doc.now is.at (omega arith) (rw c.in-123.is) refl

pub returns-in-125 : goal.returns-in-125
unfolding kind_by extent
returns-in-125 c =
    let is = c.args in
    c.lex_ascii_char-in-125.ensures ∙ found_there RightCurlyBracket is.doc.now is.at (omega arith) (rw c.in-125.is) refl

pub returns-in-32 : goal.returns-in-32
unfolding kind_by wschar
returns-in-32 c =
    let is = c.args in
    c.lex_whitespace.ensures ∙ found_there Whitespace is.doc.now is.at (omega arith) (rw c.in-32.is) refl

pub returns-in-9 : goal.returns-in-9
unfolding kind_by wschar
returns-in-9 c =
    let is = c.args in
    c.lex_whitespace-in-9.ensures ∙ found_there Whitespace is.doc.now is.at (omega arith) (rw c.in-9.is) refl

pub returns-in_default : goal.returns-in_default
returns-in_default c =
    let is = c.args in
    let b = get_or is.doc.now is.at 0 in
    let atom = atom_by b (triple b (drop is.at is.doc.now)) (search rules) in
    c.lex_atom.ensures ∙ found_there Atom is.doc.now is.at (omega arith) atom refl
