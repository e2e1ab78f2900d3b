use Prim.Native.Nat.{◌-◌}
use lib.ListN.{length}
use Rattle.lexer.specs.Tokens.{tokens_of}
use Rattle.decoder_rules.specs.Encodings.{edition_number}
use Rattle.built_broken.specs.Broken.{first_among}
use Rattle.built_broken.proofs.TurnLaws.{Walking}
use Rattle.built_broken.proofs.find.Given as goal

abbrev pub invariant-loop-at : goal.invariant-loop-at
invariant-loop-at l = Walking l.doc (edition_number l.v) (first_among l.doc (edition_number l.v) (tokens_of l.doc)) l.at

abbrev pub decreases-loop-at : goal.decreases-loop-at
decreases-loop-at l = length l.doc - l.at
