use Rattle.std.proofs.Common.{◌≤◌, length}
use Rattle.decoder_pieces.specs.Steps.{body_bytes}
use Rattle.built_mending.proofs.PieceLaws.{CountedTo}
use Rattle.built_mending.proofs.token.count.Given as goal

abbrev pub invariant-loop-piece : goal.invariant-loop-piece
invariant-loop-piece l = (l.body.end ≤ length l.text) × CountedTo l.e l.text l.fn.start l.body l.n l.m

abbrev pub decreases-loop-piece : goal.decreases-loop-piece
decreases-loop-piece l = length (body_bytes l.body l.text)
