-- `count_rest` is right because what is counted, and what is left to be spelt, are always the whole.
use Rattle.std.proofs.Common.{length, ap, sym, ◌∙◌, arith, length-append}
use Rattle.text_classes.specs.Classes.{basic_unescaped}
use Rattle.text_classes.proofs.RunLaws.{run_le}
use Rattle.built_writing.specs.Writing.{escape_of, spelt}
use Rattle.built_writing.proofs.SpellLaws.{spelt_six, spelt_run, run_some, spelt_byte, spelt_none}
use Rattle.built_writing.proofs.spell.count_rest.Goals as goal

-- ---- a run

pub split_at-requires : goal.split_at-requires
split_at-requires c = omega (arith, c.basic_run.ensures, run_le basic_unescaped c.loop-b.rest.now)

pub overflow_add-n : goal.overflow_add-n
overflow_add-n c =
    let cut = c.split_at.ensures in
    let said = ap length (spelt_run c.loop-b.rest.now _ _ _ c.basic_run.ensures cut.front cut.back) in
    omega (arith, said, length-append c.split_at.result.0.now (spelt c.split_at.result.1.now), c.loop-b.invariant, spelt_six c.args.s.now)

pub loop-b-smaller-then-is_basic_unescaped : goal.loop-b-smaller-then-is_basic_unescaped
loop-b-smaller-then-is_basic_unescaped c =
    let plain = sym c.is_basic_unescaped.ensures ∙ c.if-is_basic_unescaped.true in
    let some = run_some c.loop-b.rest.now _ _ c.in-Some.ensures.cases.0 plain in
    omega (arith, some, c.basic_run.ensures, c.split_at.ensures.back_len)

pub loop-b-preserved-then-is_basic_unescaped : goal.loop-b-preserved-then-is_basic_unescaped
loop-b-preserved-then-is_basic_unescaped c =
    let cut = c.split_at.ensures in
    let said = ap length (spelt_run c.loop-b.rest.now _ _ _ c.basic_run.ensures cut.front cut.back) in
    omega (arith, said, length-append c.split_at.result.0.now (spelt c.split_at.result.1.now), c.loop-b.invariant)

-- ---- a byte

pub overflow_add-n-else-is_basic_unescaped : goal.overflow_add-n-else-is_basic_unescaped
overflow_add-n-else-is_basic_unescaped c =
    let other = sym c.is_basic_unescaped.ensures ∙ c.if-is_basic_unescaped.false in
    let said = ap length (spelt_byte c.loop-b.rest.now _ _ c.in-Some.ensures.cases.0 other) in
    omega (arith, said, length-append (escape_of c.in-Some.b.now) (spelt c.in-Some.after.now), c.width-n.ensures, c.loop-b.invariant, spelt_six c.args.s.now)

pub loop-b-preserved : goal.loop-b-preserved
loop-b-preserved c =
    let other = sym c.is_basic_unescaped.ensures ∙ c.if-is_basic_unescaped.false in
    let said = ap length (spelt_byte c.loop-b.rest.now _ _ c.in-Some.ensures.cases.0 other) in
    omega (arith, said, length-append (escape_of c.in-Some.b.now) (spelt c.in-Some.after.now), c.width-n.ensures, c.loop-b.invariant)

pub returns : goal.returns
returns c = omega (arith, spelt_none c.loop-b.rest.now c.in_default.ensures.cases, c.loop-b.invariant)
