-- `put_body` is right because what is left to be spelt, stored from place o on, makes the whole body.
use Rattle.std.proofs.Common.{sym, refl, ◌∙◌, arith}
use Rattle.text_classes.specs.Classes.{basic_unescaped}
use Rattle.text_classes.proofs.RunLaws.{run_le}
use Rattle.built_writing.proofs.SpellLaws.{spelt_run, run_some, spelt_byte, putting_room, putting_turn, putting_end}
use Rattle.built_writing.proofs.spell.put_body.Goals as goal

pub loop-b-init : goal.loop-b-init
loop-b-init c = record { long = refl; left = refl; holds = refl }

-- ---- a run

pub split_at-requires : goal.split_at-requires
split_at-requires c = omega (arith, c.basic_run.ensures, run_le basic_unescaped c.loop-b.rest.now)

pub put-o-requires : goal.put-o-requires
put-o-requires c =
    let cut = c.split_at.ensures in
    let said = spelt_run c.loop-b.rest.now _ _ _ c.basic_run.ensures cut.front cut.back in
    putting_room _ _ _ said c.loop-b.invariant c.requires

pub loop-b-smaller-then-is_basic_unescaped : goal.loop-b-smaller-then-is_basic_unescaped
loop-b-smaller-then-is_basic_unescaped c =
    let plain = sym c.is_basic_unescaped.ensures ∙ c.if-is_basic_unescaped.true in
    let some = run_some c.loop-b.rest.now _ _ c.in-Some.ensures.cases.0 plain in
    omega (arith, some, c.basic_run.ensures, c.split_at.ensures.back_len)

pub loop-b-preserved-then-is_basic_unescaped : goal.loop-b-preserved-then-is_basic_unescaped
loop-b-preserved-then-is_basic_unescaped c =
    let cut = c.split_at.ensures in
    let said = spelt_run c.loop-b.rest.now _ _ _ c.basic_run.ensures cut.front cut.back in
    putting_turn _ _ _ said c.loop-b.invariant _ _ c.put-o.auto.output c.put-o.ensures

-- ---- a byte

pub put_escape-o-requires : goal.put_escape-o-requires
put_escape-o-requires c =
    let other = sym c.is_basic_unescaped.ensures ∙ c.if-is_basic_unescaped.false in
    putting_room _ _ _ (spelt_byte c.loop-b.rest.now _ _ c.in-Some.ensures.cases.0 other) c.loop-b.invariant c.requires

pub loop-b-preserved : goal.loop-b-preserved
loop-b-preserved c =
    let other = sym c.is_basic_unescaped.ensures ∙ c.if-is_basic_unescaped.false in
    let said = spelt_byte c.loop-b.rest.now _ _ c.in-Some.ensures.cases.0 other in
    putting_turn _ _ _ said c.loop-b.invariant _ _ c.put_escape-o.auto.output c.put_escape-o.ensures

pub returns : goal.returns
returns c = putting_end c.loop-b.rest.now c.in_default.ensures.cases c.loop-b.invariant
