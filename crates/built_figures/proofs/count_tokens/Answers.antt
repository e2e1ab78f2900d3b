-- `count_tokens` is right because the counts, with what the tokens still to come add, make the whole; and the steps give these
-- tokens, one after the other, and then the end.
use Rattle.std.proofs.Common.{◌≡◌, Ok, None, sym, ap, ◌∙◌, rules}
use native.Mathlib.Omega.{arith}
use Rattle.built_figures.proofs.WalkLaws.{told, walk_start, walk_room, walk_on, walk_end}
use Rattle.built_figures.proofs.count_tokens.Goals as goal

pub loop-token-init : goal.loop-token-init
loop-token-init c = walk_start c.args.doc.now c.args.figures.now c.start_of.result c.requires.0 c.requires.1 c.start_of.ensures

pub count_token-requires : goal.count_token-requires
count_token-requires c =
    let so = c.loop-token.invariant in
    let step = told c.args.doc.now (omega arith) c.loop-token.cursor so.reached _
    (sym c.in-Ok-Some.ensures.answer ∙ ap Ok c.in-Ok-Some.field-0-is) in
    (step.runs, step.inside, walk_room so step)

pub loop-token-smaller : goal.loop-token-smaller
loop-token-smaller c =
    let so = c.loop-token.invariant in
    (told c.args.doc.now (omega arith) c.loop-token.cursor so.reached _
    (sym c.in-Ok-Some.ensures.answer ∙ ap Ok c.in-Ok-Some.field-0-is)).fewer

pub loop-token-preserved : goal.loop-token-preserved
loop-token-preserved c =
    let so = c.loop-token.invariant in
    let step = told c.args.doc.now (omega arith) c.loop-token.cursor so.reached _
    (sym c.in-Ok-Some.ensures.answer ∙ ap Ok c.in-Ok-Some.field-0-is) in
    walk_on so step _ c.count_token.ensures

pub returns-in_default : goal.returns-in_default
returns-in_default c =
    let so = c.loop-token.invariant in
    let none : c.in_default.field-0 ≡ None = search rules in
    walk_end so (told c.args.doc.now (omega arith) c.loop-token.cursor so.reached (Ok None) (sym c.step_by.ensures.answer ∙ c.in_default.is ∙ ap Ok none))

pub returns-in_default-2 : goal.returns-in_default-2
returns-in_default-2 c =
    let so = c.loop-token.invariant in
    absurd (told c.args.doc.now (omega arith) c.loop-token.cursor so.reached _ (sym c.step_by.ensures.answer ∙ c.in_default.is))
