-- `note` is right because a verdict is clean, or has one error.
use mathlib.Core.Path.{ap}
use native.Mathlib.Omega.{arith}
use lib.ListN.{length}
use Rattle.decoder_rules.specs.Pieces.{notes_of}
use Rattle.decoder_rules.proofs.StoreLaws.{store_none}
use Rattle.built_mending.proofs.token.note.Goals as goal

pub put_record-requires : goal.put_record-requires
put_record-requires c = omega (arith, ap (λ w. length (notes_of w)) c.in-Some.is, c.requires)

pub returns-in-None : goal.returns-in-None
returns-in-None c = rw c.in-None.is (store_none _ _)

pub returns-in-Some : goal.returns-in-Some
returns-in-Some c = rw c.in-Some.is c.put_record.ensures
