-- `marks_in` is right because a bit that was set stays set.
use Rattle.std.proofs.Common.{refl, arith}
use Rattle.text_classes.specs.Classes.{literal_char}
use Rattle.text_classes.specs.Runs.{run}
use Rattle.text_scalars.proofs.FieldLaws.{bits_left, bits_right}
use Rattle.built_writing.specs.Writing.{spelt}
use Rattle.built_writing.proofs.WeighLaws.{weighs_more, run_more}
use Rattle.built_writing.proofs.weigh.marks_in.Goals as goal

pub loop-b-init : goal.loop-b-init
unfolding spelt run
loop-b-init c = (omega arith, λ off. (refl, refl))

pub loop-b-preserved : goal.loop-b-preserved
loop-b-preserved c =
    let l = c.loop-b in
    let s = c.args.block.now in
    let b = c.no_literal-bits.result in (
      omega (arith, l.invariant.0, c.mark-marks.ensures.1),
      λ off.
          let kept = l.invariant.1 (omega (arith, off, bits_left l.bits b)) in
          let plain = c.no_literal-bits.ensures (omega (arith, off, bits_right l.bits b)) in
          let more = weighs_more s l.b-index _ c.loop-b-test.true (c.mark-marks.ensures.0 plain) in
          (run_more literal_char s l.b-index c.loop-b-test.true plain kept.0, omega (arith, kept.1, more)),
    )
