-- `kind_at` is right because its arms are the table's: the class of a single byte is that of no other.
use Prim.Native.Nat.{ℕ, ◌<◌}
use mathlib.Core.Path.{◌≡◌, sym, ◌∙◌}
use mathlib.Core.List.{List}
use native.Mathlib.Omega.{arith}
use borrow.Author.Rules.{rules}
use lib.ListN.{length, get_or, drop}
use Rattle.text_classes.specs.Classes.{wschar}
use Rattle.text_classes.specs.Runs.{triple}
use Rattle.table_classes.specs.Classed.{class_of, byte_of}
use Rattle.table_classes.specs.Masks.{alone_of}
use Rattle.table_classes.specs.declared.Sign.{Sign}
use Rattle.table_classes.specs.declared.Sign.TheVariants as sign
use Rattle.table_classes.proofs.TableLaws.{byte_is, byte_is_not}
use Rattle.lexer_token.specs.declared.TokenKind.{TokenKind}
use Rattle.lexer_token.specs.declared.TokenKind.TheVariants.{Dot, Equals, Comma, LeftSquareBracket, RightSquareBracket, LeftCurlyBracket, RightCurlyBracket, Whitespace, Comment, Newline, LiteralString, BasicString, MlLiteralString, MlBasicString, Atom}
use Rattle.lexer.specs.Table.{kind_by, kind_of}
use Rattle.lexer.proofs.KindLaws.{KindThere, kind_at, atom_by}
use Rattle.table_lexer.proofs.table.kind_at.Goals as goal

-- the byte there, by its class
module _ (doc : List ℕ) (at class : ℕ) (low : get_or doc at 0 < 256) (is : class ≡ class_of (get_or doc at 0)) where
  met : (g : Sign) → class ≡ alone_of g → get_or doc at 0 ≡ byte_of g
  met g e = byte_is g (get_or doc at 0) low (sym is ∙ e)

  not_met : (g : Sign) → (class ≡ alone_of g → ⊥) → get_or doc at 0 ≡ byte_of g → ⊥
  not_met g n = byte_is_not g (get_or doc at 0) low (λ e. n (is ∙ e))

-- the kind by that byte is the kind of the token
said : (doc : List ℕ) (at : ℕ) (k : TokenKind) → at < length doc → KindThere doc at k → k ≡ kind_of (drop at doc)
said doc at k h e = sym (kind_at doc at h ∙ e)

pub returns-in-15 : goal.returns-in-15
unfolding kind_by wschar
returns-in-15 c =
    let is = c.args in
    let byte = met is.doc.now is.at _ (omega (arith, c.type_inv.doc is.at)) c.class_of.ensures sign.Dot c.in-15.is in
    said is.doc.now is.at Dot c.requires (rw byte)

pub returns-in-16 : goal.returns-in-16
unfolding kind_by wschar
returns-in-16 c =
    let is = c.args in
    let byte = met is.doc.now is.at _ (omega (arith, c.type_inv.doc is.at)) c.class_of.ensures sign.Equals c.in-16.is in
    said is.doc.now is.at Equals c.requires (rw byte)

pub returns-in-14 : goal.returns-in-14
unfolding kind_by wschar
returns-in-14 c =
    let is = c.args in
    let byte = met is.doc.now is.at _ (omega (arith, c.type_inv.doc is.at)) c.class_of.ensures sign.Comma c.in-14.is in
    said is.doc.now is.at Comma c.requires (rw byte)

pub returns-in-18 : goal.returns-in-18
unfolding kind_by wschar
returns-in-18 c =
    let is = c.args in
    let byte = met is.doc.now is.at _ (omega (arith, c.type_inv.doc is.at)) c.class_of.ensures sign.LeftSquare c.in-18.is in
    said is.doc.now is.at LeftSquareBracket c.requires (rw byte)

pub returns-in-20 : goal.returns-in-20
unfolding kind_by wschar
returns-in-20 c =
    let is = c.args in
    let byte = met is.doc.now is.at _ (omega (arith, c.type_inv.doc is.at)) c.class_of.ensures sign.RightSquare c.in-20.is in
    said is.doc.now is.at RightSquareBracket c.requires (rw byte)

pub returns-in-29 : goal.returns-in-29
unfolding kind_by wschar
returns-in-29 c =
    let is = c.args in
    let byte = met is.doc.now is.at _ (omega (arith, c.type_inv.doc is.at)) c.class_of.ensures sign.LeftCurly c.in-29.is in
    said is.doc.now is.at LeftCurlyBracket c.requires (rw byte)

pub returns-in-30 : goal.returns-in-30
unfolding kind_by wschar
returns-in-30 c =
    let is = c.args in
    let byte = met is.doc.now is.at _ (omega (arith, c.type_inv.doc is.at)) c.class_of.ensures sign.RightCurly c.in-30.is in
    said is.doc.now is.at RightCurlyBracket c.requires (rw byte)

pub returns-in-10 : goal.returns-in-10
unfolding kind_by wschar
returns-in-10 c =
    let is = c.args in
    let byte = met is.doc.now is.at _ (omega (arith, c.type_inv.doc is.at)) c.class_of.ensures sign.Space c.in-10.is in
    said is.doc.now is.at Whitespace c.requires (rw byte)

pub returns-in-7 : goal.returns-in-7
unfolding kind_by wschar
returns-in-7 c =
    let is = c.args in
    let byte = met is.doc.now is.at _ (omega (arith, c.type_inv.doc is.at)) c.class_of.ensures sign.Tab c.in-7.is in
    said is.doc.now is.at Whitespace c.requires (rw byte)

pub returns-in-12 : goal.returns-in-12
unfolding kind_by wschar
returns-in-12 c =
    let is = c.args in
    let byte = met is.doc.now is.at _ (omega (arith, c.type_inv.doc is.at)) c.class_of.ensures sign.NumberSign c.in-12.is in
    said is.doc.now is.at Comment c.requires (rw byte)

pub returns-in-9 : goal.returns-in-9
unfolding kind_by wschar
returns-in-9 c =
    let is = c.args in
    let byte = met is.doc.now is.at _ (omega (arith, c.type_inv.doc is.at)) c.class_of.ensures sign.Cr c.in-9.is in
    said is.doc.now is.at Newline c.requires (rw byte)

pub returns-in-8 : goal.returns-in-8
unfolding kind_by wschar
returns-in-8 c =
    let is = c.args in
    let byte = met is.doc.now is.at _ (omega (arith, c.type_inv.doc is.at)) c.class_of.ensures sign.Lf c.in-8.is in
    said is.doc.now is.at Newline c.requires (rw byte)

pub returns-then-is_triple : goal.returns-then-is_triple
unfolding kind_by wschar
returns-then-is_triple c =
    let is = c.args in
    let byte = met is.doc.now is.at _ (omega (arith, c.type_inv.doc is.at)) c.class_of.ensures sign.Apostrophe c.in-13.is in
    said is.doc.now is.at MlLiteralString c.requires (rw (byte, sym c.is_triple.ensures ∙ c.if-is_triple.true))

pub returns-else-is_triple : goal.returns-else-is_triple
unfolding kind_by wschar
returns-else-is_triple c =
    let is = c.args in
    let byte = met is.doc.now is.at _ (omega (arith, c.type_inv.doc is.at)) c.class_of.ensures sign.Apostrophe c.in-13.is in
    said is.doc.now is.at LiteralString c.requires (rw (byte, sym c.is_triple.ensures ∙ c.if-is_triple.false))

pub returns-then-is_triple-2 : goal.returns-then-is_triple-2
unfolding kind_by wschar
returns-then-is_triple-2 c =
    let is = c.args in
    let byte = met is.doc.now is.at _ (omega (arith, c.type_inv.doc is.at)) c.class_of.ensures sign.QuotationMark c.in-11.is in
    said is.doc.now is.at MlBasicString c.requires (rw (byte, sym c.is_triple-in-11.ensures ∙ c.if-is_triple-2.true))

pub returns-else-is_triple-2 : goal.returns-else-is_triple-2
unfolding kind_by wschar
returns-else-is_triple-2 c =
    let is = c.args in
    let byte = met is.doc.now is.at _ (omega (arith, c.type_inv.doc is.at)) c.class_of.ensures sign.QuotationMark c.in-11.is in
    said is.doc.now is.at BasicString c.requires (rw (byte, sym c.is_triple-in-11.ensures ∙ c.if-is_triple-2.false))

pub returns-in_default : goal.returns-in_default
returns-in_default c =
    let is = c.args in
    let b = get_or is.doc.now is.at 0 in
    let n : (g : Sign) → (c.class_of.result ≡ alone_of g → ⊥) → b ≡ byte_of g → ⊥ =
    not_met is.doc.now is.at _ (omega (arith, c.type_inv.doc is.at)) c.class_of.ensures in
    said is.doc.now is.at Atom c.requires
    (atom_by b (triple b (drop is.at is.doc.now)) ((((((((((((((tt, n sign.Dot (search rules)), n sign.Equals (search rules)), n sign.Comma (search rules)), n sign.LeftSquare (search rules)), n sign.RightSquare (search rules)), n sign.LeftCurly (search rules)), n sign.RightCurly (search rules)), n sign.Space (search rules)), n sign.Tab (search rules)), n sign.NumberSign (search rules)), n sign.Cr (search rules)), n sign.Lf (search rules)), n sign.Apostrophe (search rules)), n sign.QuotationMark (search rules)))
