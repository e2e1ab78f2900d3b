-- `write_basic` is right because a mark, the body and a mark are stored one after the other, where they fit.
use Rattle.built_writing.proofs.TextLaws.{around}
use Rattle.built_writing.proofs.write_basic.Goals as goal

pub returns : goal.returns
returns c = around 0x22 c.args.output.now c.put_body-end.ensures
