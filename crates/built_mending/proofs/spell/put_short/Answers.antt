-- `put_short` is right because it stores a backslash, and the letter after it.
use mathlib.Core.Path.{refl}
use native.Mathlib.Numerals.{add-one}
use native.Mathlib.Omega.{arith}
use lib.ListN.{length-set}
use Rattle.built_mending.proofs.spell.put_short.Goals as goal

pub bounds-output-o-2 : goal.bounds-output-o-2
bounds-output-o-2 c = simp length-set (omega arith)

pub returns : goal.returns
returns c = record { place = refl; holds = rw add-one }
