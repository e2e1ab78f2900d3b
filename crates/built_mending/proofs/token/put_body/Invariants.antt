use Rattle.std.proofs.Common.{◌≤◌, length}
use Rattle.decoder_pieces.specs.Steps.{body_bytes}
use Rattle.built_mending.specs.Mending.{record_at}
use Rattle.built_mending.proofs.PieceLaws.{WrittenTo}
use Rattle.built_mending.proofs.token.put_body.Given as goal

abbrev pub invariant-loop-piece : goal.invariant-loop-piece
invariant-loop-piece l =
    (l.body.end ≤ length l.text)
    × WrittenTo l.e l.text l.fn.start (record_at l.span.start l.span.end) l.initial.output l.o0 l.initial.records l.m0
    l.output l.records l.body l.o l.m

abbrev pub decreases-loop-piece : goal.decreases-loop-piece
decreases-loop-piece l = length (body_bytes l.body l.text)
