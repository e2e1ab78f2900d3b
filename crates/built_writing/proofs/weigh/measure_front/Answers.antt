-- `measure_front` is right because what the three pass over, one after the other, is counted.
use Rattle.std.proofs.Common.{arith}
use Rattle.built_writing.proofs.SpellLaws.{spelt_six}
use Rattle.built_writing.proofs.weigh.measure_front.Goals as goal

pub front_blocks-wide-requires : goal.front_blocks-wide-requires
front_blocks-wide-requires c = (omega (arith, spelt_six c.args.s.now), omega arith, omega arith)

pub front_blocks-requires : goal.front_blocks-requires
front_blocks-requires c = (omega (arith, spelt_six c.args.s.now, c.front_blocks-wide.ensures.left), omega arith, omega arith)

pub front_rest-requires : goal.front_rest-requires
front_rest-requires c = omega (arith, spelt_six c.args.s.now, c.front_blocks-wide.ensures.left, c.front_blocks.ensures.left)
