-- `write_literal` is right because a mark, the value and a mark are stored one after the other, where they fit.
use Rattle.built_writing.proofs.TextLaws.{around}
use Rattle.built_writing.proofs.write_literal.Goals as goal

pub returns : goal.returns
returns c = around 0x27 c.args.output.now c.put-end.ensures
