-- `basic_tail` is right because neither a run of plain bytes nor an escape with the byte that it hides moves the end of the string,
-- and a mark or an LF that is met is the end, an LF behind an escape too.
use Prim.Native.Nat.{◌+◌}
use mathlib.Core.Path.{refl, sym, ◌∙◌}
use mathlib.Core.Bool.{true, false}
use native.Mathlib.Omega.{arith}
use borrow.Author.Tests.{eq-eqb, eqb-false}
use Rattle.text_classes.proofs.FirstLaws.{stands_there}
use Rattle.lexer_scans.proofs.MarkLaws.{stands_at}
use Rattle.lexer_scans.proofs.TailLaws.{basic_found, basic_halts, line_closed, line_escape, line_escaped, line_lf, line_end}
use Rattle.table_scans.proofs.basic_tail.Goals as goal

pub returns-then-is_at : goal.returns-then-is_at
returns-then-is_at c =
    let doc = c.args.doc.now in
    let i = c.class_run-i.result in
    let found = basic_found doc c.loop-i.i i c.class_run-i.ensures in
    let marked = sym c.is_at.ensures ∙ c.if-is_at.true in
    omega (arith, found.same, line_closed 34 doc i marked)

pub returns-then-not-is_at : goal.returns-then-not-is_at
returns-then-not-is_at c =
    let doc = c.args.doc.now in
    let i = c.class_run-i.result in
    let found = basic_found doc c.loop-i.i i c.class_run-i.ensures in
    let unmarked = sym c.is_at.ensures ∙ c.if-is_at.false in
    let unescaped = sym c.is_at-in-loop-i.ensures ∙ c.if-not-is_at.true in
    omega (arith, found.same, basic_halts doc c.loop-i.i i found unmarked unescaped)

pub returns-then-doc-i-lt2 : goal.returns-then-doc-i-lt2
returns-then-doc-i-lt2 c =
    let doc = c.args.doc.now in
    let i = c.class_run-i.result in
    let found = basic_found doc c.loop-i.i i c.class_run-i.ensures in
    let escape = stands_there 92 doc i (sym c.is_at-in-loop-i.ensures ∙ c.if-not-is_at.false) in
    omega (arith, found.same, escape.0, line_escape doc i escape.0 escape.1, line_end 34 true doc (i + 1) (omega (arith, escape.0)))

pub returns-then-is_at-2 : goal.returns-then-is_at-2
returns-then-is_at-2 c =
    let doc = c.args.doc.now in
    let i = c.class_run-i.result in
    let found = basic_found doc c.loop-i.i i c.class_run-i.ensures in
    let escape = stands_there 92 doc i (sym c.is_at-in-loop-i.ensures ∙ c.if-not-is_at.false) in
    let lf = stands_there 10 doc (i + 1) (sym c.is_at-in-loop-i-2.ensures ∙ c.if-is_at-2.true) in
    let hidden = line_lf 34 true doc (i + 1) lf.0 refl (eq-eqb _ _ lf.1) in
    omega (arith, found.same, line_escape doc i escape.0 escape.1)

pub loop-i-preserved : goal.loop-i-preserved
loop-i-preserved c =
    let doc = c.args.doc.now in
    let i = c.class_run-i.result in
    let found = basic_found doc c.loop-i.i i c.class_run-i.ensures in
    let escape = stands_there 92 doc i (sym c.is_at-in-loop-i.ensures ∙ c.if-not-is_at.false) in
    let other = sym (stands_at 10 refl doc (i + 1)) ∙ sym c.is_at-in-loop-i-2.ensures ∙ c.if-is_at-2.false in
    let over = line_escaped doc i (omega (arith, escape.0)) escape.1 (eqb-false _ _ other) in
    omega (arith, found.same, over)

pub returns : goal.returns
returns c = omega (arith, line_end 34 false c.args.doc.now c.loop-i.i (omega arith))
