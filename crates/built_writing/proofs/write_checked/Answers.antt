-- `write_checked` is right because the text that is planned is the one that is written, and fits.
use Rattle.std.proofs.Common.{refl, arith}
use Rattle.std.proofs.lemmas.Result.{err_from_is_err_and}
use Rattle.built_writing.specs.Writing.{written, spelt, literal_text, basic_text}
use Rattle.built_writing.proofs.TextLaws.{around_long, by_plan, as_literal, as_basic, wrote_short, wrote_text}
use Rattle.built_writing.proofs.write_checked.Goals as goal

pub returns-in_err-plan_of : goal.returns-in_err-plan_of
returns-in_err-plan_of c =
    let up = err_from_is_err_and c.from_residual.result c.from_residual.ensures.1 in
    let planned = c.in_err-plan_of.ensures in
    rw (up.1, up.2, planned.0) (wrote_short (written c.args.value.now) c.args.output.now _ refl planned.1)

pub write_literal-requires : goal.write_literal-requires
write_literal-requires c = (omega arith, (by_plan _ _ _ _ c.in_ok-plan_of.ensures c.in-Literal.is).1)

pub write_basic-requires : goal.write_basic-requires
write_basic-requires c = (omega arith, (by_plan _ _ _ _ c.in_ok-plan_of.ensures c.in-Basic.is).1)

pub returns-in-Literal : goal.returns-in-Literal
returns-in-Literal c =
    let v = c.args.value.now in
    let planned = by_plan v _ _ _ c.in_ok-plan_of.ensures c.in-Literal.is in
    rw (as_literal v planned.0)
    (wrote_text (literal_text v) c.args.output.now _ _ c.write_literal.ensures (omega (arith, around_long 0x27 v, planned.1)))

pub returns-in-Basic : goal.returns-in-Basic
returns-in-Basic c =
    let v = c.args.value.now in
    let planned = by_plan v _ _ _ c.in_ok-plan_of.ensures c.in-Basic.is in
    rw (as_basic v planned.0)
    (wrote_text (basic_text v) c.args.output.now _ _ c.write_basic.ensures (omega (arith, around_long 0x22 (spelt v), planned.1)))
