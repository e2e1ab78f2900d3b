-- The body ends within the text, and what is written so far, with what the pieces still to come give and note, makes the whole; and
-- each turn leaves fewer bytes.
use Rattle.std.proofs.Common.{◌≤◌, length}
use Rattle.decoder_pieces.specs.Steps.{body_bytes}
use Rattle.decoder_writing.proofs.WriteLaws.{WrittenTo}
use Rattle.decoder_writing.proofs.write.write.Given as goal

abbrev pub invariant-loop-body : goal.invariant-loop-body
invariant-loop-body g l =
    (l.body.end ≤ length l.text)
    × WrittenTo l.e l.text l.fn.start l.fn.output l.fn.o0 l.fn.records l.fn.m0 l.output l.records l.body l.o l.m

abbrev pub decreases-loop-body : goal.decreases-loop-body
decreases-loop-body g l = length (body_bytes l.body l.text)
