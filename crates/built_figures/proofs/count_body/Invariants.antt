use lib.ListN.{length}
use Rattle.decoder_pieces.specs.Steps.{body_bytes}
use Rattle.built_figures.proofs.BodyLaws.{CountedTo}
use Rattle.built_figures.proofs.count_body.Given as goal

abbrev pub invariant-loop-body : goal.invariant-loop-body
invariant-loop-body l = CountedTo l.e l.text l.fn.figures l.fn.start l.figures l.body

abbrev pub decreases-loop-body : goal.decreases-loop-body
decreases-loop-body l = length (body_bytes l.body l.text)
