-- `copy_all` is right because it copies only where it has asked for room, and then all.
use Rattle.decoder_writing.proofs.WriteLaws.{none_copied, all_copied}
use Rattle.decoder_writing.proofs.copy_all.Goals as goal

pub returns-then-output-n : goal.returns-then-output-n
returns-then-output-n c =
    let none = none_copied c.args.s.now c.args.output.now c.if-output-n.true in
    record { answer = none.0; output = none.1 }

pub returns : goal.returns
returns c =
    let all = all_copied c.args.s.now c.args.output.now c.if-output-n.false c.copy_in.ensures in
    record { answer = all.0; output = all.1 }
