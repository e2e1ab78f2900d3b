-- `ml_basic_tail` is right because neither a run of plain bytes nor an escape nor
-- a mark alone moves the end of the string, and three marks that are met are the end, with up to two more.
use mathlib.Core.Path.{sym, ◌∙◌}
use mathlib.Core.Bool.{false}
use native.Mathlib.Omega.{arith}
use Rattle.text_classes.proofs.TripleLaws.{triple_fits_at}
use Rattle.lexer_scans.proofs.TailLaws.{ml_basic_found, ml_basic_on, ml_escaped, ml_last, ml_end, ml_close}
use Rattle.lexer_scans.proofs.ml_basic_tail.Goals as goal

pub overflow_add-i : goal.overflow_add-i
overflow_add-i c =
    let three = sym c.is_triple.ensures ∙ c.if-is_triple.true in
    omega (arith, triple_fits_at 34 c.args.doc.now c.find-i.result three)

pub over_marks-requires : goal.over_marks-requires
over_marks-requires c =
    let three = sym c.is_triple.ensures ∙ c.if-is_triple.true in
    omega (arith, triple_fits_at 34 c.args.doc.now c.find-i.result three)

pub returns-then-is_triple : goal.returns-then-is_triple
returns-then-is_triple c =
    let doc = c.args.doc.now in
    let i = c.find-i.result in
    let found = ml_basic_found doc c.loop-i.i i c.find-i.ensures in
    let three = sym c.is_triple.ensures ∙ c.if-is_triple.true in
    let fit = triple_fits_at 34 doc i three in
    let closed = ml_close 34 false doc i (omega arith) three in
    omega (arith, found.same, c.over_marks.ensures)

pub overflow_sub-doc : goal.overflow_sub-doc
overflow_sub-doc c =
    let found = ml_basic_found c.args.doc.now c.loop-i.i c.find-i.result c.find-i.ensures in
    omega (arith, found.within (omega arith))

pub returns-then-doc-i-lt2 : goal.returns-then-doc-i-lt2
returns-then-doc-i-lt2 c =
    let doc = c.args.doc.now in
    let i = c.find-i.result in
    let found = ml_basic_found doc c.loop-i.i i c.find-i.ensures in
    let fewer = sym c.is_triple.ensures ∙ c.if-is_triple.false in
    omega (arith, found.same, ml_last doc i 34 (found.within (omega arith)) (omega arith) fewer)

pub loop-i-preserved-then-doc-i-eq-ESCAPE : goal.loop-i-preserved-then-doc-i-eq-ESCAPE
loop-i-preserved-then-doc-i-eq-ESCAPE c =
    let doc = c.args.doc.now in
    let i = c.find-i.result in
    let found = ml_basic_found doc c.loop-i.i i c.find-i.ensures in
    let fewer = sym c.is_triple.ensures ∙ c.if-is_triple.false in
    omega (arith, found.same, ml_escaped doc i (omega arith) fewer c.if-doc-i-eq-ESCAPE.true)

pub loop-i-preserved : goal.loop-i-preserved
loop-i-preserved c =
    let doc = c.args.doc.now in
    let i = c.find-i.result in
    let found = ml_basic_found doc c.loop-i.i i c.find-i.ensures in
    let fewer = sym c.is_triple.ensures ∙ c.if-is_triple.false in
    omega (arith, found.same, ml_basic_on doc i (omega arith) fewer c.if-doc-i-eq-ESCAPE.false)

pub returns : goal.returns
returns c = omega (arith, ml_end 34 false c.args.doc.now c.loop-i.i (omega arith))
