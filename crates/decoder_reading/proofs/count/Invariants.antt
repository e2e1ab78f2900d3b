-- What is counted so far, with what the pieces still to come give and note, makes the whole; and each turn leaves fewer bytes.
use Rattle.std.proofs.Common.{length}
use Rattle.decoder_pieces.specs.Steps.{body_bytes}
use Rattle.decoder_reading.proofs.CountLaws.{CountedTo}
use Rattle.decoder_reading.proofs.count.Given as goal

abbrev pub invariant-loop-p : goal.invariant-loop-p
invariant-loop-p g l = CountedTo l.e l.text l.fn.start l.body l.bytes l.errors

abbrev pub decreases-loop-p : goal.decreases-loop-p
decreases-loop-p g l = length (body_bytes l.body l.text)
