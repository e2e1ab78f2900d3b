-- `width_of` is right because what is counted, and what is left to be spelt, are always the whole.
use Rattle.std.proofs.Common.{arith}
use Rattle.built_mending.proofs.SpellLaws.{respelt_six, widening_turn, widening_end}
use Rattle.built_mending.proofs.spell.width_of.Goals as goal

pub loop-b-init : goal.loop-b-init
loop-b-init c = record { sum = omega arith }

pub overflow_add-w : goal.overflow_add-w
overflow_add-w c =
    let s = c.args.s.now in
    let turned = widening_turn s (omega arith) c.width-w.ensures c.loop-b.invariant in
    omega (arith, turned.sum, respelt_six s)

pub loop-b-preserved : goal.loop-b-preserved
loop-b-preserved c = widening_turn c.args.s.now (omega arith) c.width-w.ensures c.loop-b.invariant

pub returns : goal.returns
returns c = widening_end c.args.s.now (omega arith) c.loop-b.invariant
