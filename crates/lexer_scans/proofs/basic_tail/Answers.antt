-- `basic_tail` is right because neither a run of plain bytes nor escapes move the end of the string, and a mark or an LF
-- that is met is the end.
use mathlib.Core.Path.{sym, ◌∙◌}
use mathlib.Core.Bool.{false}
use native.Mathlib.Omega.{arith}
use Rattle.lexer_scans.proofs.TailLaws.{basic_found, basic_halts, line_closed, line_end}
use Rattle.lexer_scans.proofs.basic_tail.Goals as goal

pub returns-then-is_at : goal.returns-then-is_at
returns-then-is_at c =
    let doc = c.args.doc.now in
    let i = c.find-i.result in
    let found = basic_found doc c.loop-i.i i c.find-i.ensures in
    let marked = sym c.is_at.ensures ∙ c.if-is_at.true in
    omega (arith, found.same, line_closed 34 doc i marked)

pub returns-then-not-is_at : goal.returns-then-not-is_at
returns-then-not-is_at c =
    let doc = c.args.doc.now in
    let i = c.find-i.result in
    let found = basic_found doc c.loop-i.i i c.find-i.ensures in
    let unmarked = sym c.is_at.ensures ∙ c.if-is_at.false in
    let unescaped = sym c.is_at-in-loop-i.ensures ∙ c.if-not-is_at.true in
    omega (arith, found.same, basic_halts doc c.loop-i.i i found unmarked unescaped)

pub loop-i-preserved : goal.loop-i-preserved
loop-i-preserved c =
    let found = basic_found c.args.doc.now c.loop-i.i c.find-i.result c.find-i.ensures in
    omega (arith, c.over_escapes-i.ensures.1.1, found.same)

pub returns : goal.returns
returns c = omega (arith, line_end 34 false c.args.doc.now c.loop-i.i (omega arith))
