-- `put_record` is right because the record that it stores is the span and the error's.
use native.Mathlib.Omega.{arith}
use Rattle.built_mending.proofs.token.put_record.Goals as goal

pub returns : goal.returns
returns c = record { place = omega arith; holds = rw c.number-number.ensures }
