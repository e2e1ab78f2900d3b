-- `look_basic` is right because three marks open the multi-line kind, and the token is its opening and the tail after it; and because
-- what is gone over up to the closing mark has no error.
use mathlib.Core.Path.{refl, sym, ◌∙◌}
use native.Mathlib.Omega.{arith}
use lib.Seq.{drop-drop}
use Rattle.text_classes.specs.Classes.{wschar}
use Rattle.lexer.specs.Table.{kind_by, extent}
use Rattle.text_classes.proofs.FirstLaws.{stands_there}
use Rattle.decoder_rules.specs.Encodings.{choice_in}
use Rattle.built_fronts.specs.declared.Line.TheVariants.{Basic}
use Rattle.decoder_rules.specs.declared.Encoding.TheVariants.{BasicString, MlBasicString}
use Rattle.built_broken.proofs.LookLaws.{decoding, sound}
use Rattle.built_broken.proofs.look.look_basic.Goals as goal

pub returns-then-is_triple : goal.returns-then-is_triple
unfolding kind_by wschar extent choice_in
returns-then-is_triple c =
    let a = c.args in
    let key = c.requires.1 in
    let three = sym c.is_triple.ensures ∙ c.if-is_triple.true in
    decoding a.doc.now a.at c.requires.0 a.v c.seen.result (MlBasicString a.v) (rw (key, three)) refl c.seen.ensures.0
    (c.seen.ensures.1 ∙ c.ml_basic_tail-end.ensures ∙ simp drop-drop (omega arith))

pub overflow_add-i : goal.overflow_add-i
overflow_add-i c = omega (arith, (stands_there 34 c.args.doc.now c.line_front-i.result (sym c.is_at.ensures ∙ c.if-is_at.true)).0)

pub returns-then-is_at : goal.returns-then-is_at
unfolding kind_by wschar extent choice_in
returns-then-is_at c =
    let a = c.args in
    let key = c.requires.1 in
    let one = sym c.is_triple.ensures ∙ c.if-is_triple.false in
    let closed = sym c.is_at.ensures ∙ c.if-is_at.true in
    sound a.doc.now a.at c.requires.0 a.v c.seen-then-is_at.result Basic c.line_front-i.result (rw (key, one)) refl refl key
    (c.line_front-i.ensures (omega (arith, c.requires.0))) closed c.seen-then-is_at.ensures.0 c.seen-then-is_at.ensures.1

pub returns : goal.returns
unfolding kind_by wschar extent choice_in
returns c =
    let a = c.args in
    let key = c.requires.1 in
    let one = sym c.is_triple.ensures ∙ c.if-is_triple.false in
    decoding a.doc.now a.at c.requires.0 a.v c.seen-2.result (BasicString a.v) (rw (key, one)) refl c.seen-2.ensures.0
    (c.seen-2.ensures.1 ∙ c.basic_tail-end.ensures ∙ simp drop-drop (omega arith))
