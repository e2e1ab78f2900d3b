use Rattle.std.proofs.Common.{◌≡◌, length}
use Rattle.decoder_pieces.specs.Steps.{body_bytes, errors_left}
use Rattle.built_mending.specs.Mending.{is_broken}
use Rattle.built_mending.proofs.token.has_error.Given as goal

abbrev pub invariant-loop-piece : goal.invariant-loop-piece
invariant-loop-piece l = is_broken (errors_left l.e l.text l.body) ≡ is_broken (errors_left l.e l.text l.fn.start)

abbrev pub decreases-loop-piece : goal.decreases-loop-piece
decreases-loop-piece l = length (body_bytes l.body l.text)
