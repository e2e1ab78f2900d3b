-- `is_control` is right because the tab alone is 0 once its bits are turned.
use Rattle.std.proofs.Common.{arith}
use Rattle.built_writing.proofs.WeighLaws.{control_is}
use Rattle.built_writing.proofs.weigh.is_control.Goals as goal

pub returns : goal.returns
returns c = control_is c.args.b _ (omega arith) (omega arith) c.wrapping_sub_u8.ensures.value
