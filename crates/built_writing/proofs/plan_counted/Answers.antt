-- `plan_counted` is right because the front and the rest together are the whole value, and the front is the whole value
-- exactly where a literal string could hold it.
use Rattle.std.proofs.Common.{◌≡◌, length, ap, arith}
use Rattle.text_classes.specs.Classes.{literal_char}
use Rattle.text_classes.specs.Runs.{run}
use Rattle.built_writing.specs.Writing.{spelt}
use Rattle.built_writing.specs.declared.Plan.TheVariants.{Literal, Basic}
use Rattle.built_writing.proofs.SpellLaws.{spelt_six}
use Rattle.built_writing.proofs.TextLaws.{around_long, as_literal, as_basic, plan_fits}
use Rattle.built_writing.proofs.plan_counted.Goals as goal

pub returns-then-front-eq0 : goal.returns-then-front-eq0
returns-then-front-eq0 c =
    let v = c.args.value.now in
    let all : run literal_char v ≡ length v = omega (arith, c.measure_front-front.ensures.1, c.if-front-eq0.true) in
    rw c.fitting.ensures (plan_fits v Literal _ c.args.room (omega (arith, ap length (as_literal v all), around_long 0x27 v)) (λ room. (all, room)))

pub overflow_add-front : goal.overflow_add-front
overflow_add-front c =
    omega (arith, c.measure_front-front.ensures.0, c.count.ensures, spelt_six c.args.value.now)

pub overflow_add-front-2 : goal.overflow_add-front-2
overflow_add-front-2 c =
    omega (arith, c.measure_front-front.ensures.0, c.count.ensures, spelt_six c.args.value.now)

pub returns : goal.returns
returns c =
    let v = c.args.value.now in
    let other : run literal_char v ≡ length v → ⊥ = λ all. c.if-front-eq0.false (omega (arith, c.measure_front-front.ensures.1, all)) in
    let size = ap length (as_basic v other) in
    rw c.fitting-2.ensures (plan_fits v Basic _ c.args.room
    (omega (arith, c.measure_front-front.ensures.0, c.count.ensures, size, around_long 0x22 (spelt v)))
    (λ room. (other, omega (arith, c.measure_front-front.ensures.0, c.count.ensures, room))))
