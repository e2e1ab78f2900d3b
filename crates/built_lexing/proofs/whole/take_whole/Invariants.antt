use Prim.Native.Nat.{◌-◌}
use lib.ListN.{length}
use Rattle.built_lexing.specs.States.{idle_at}
use Rattle.built_lexing.specs.Whole.{Onward}
use Rattle.built_lexing.proofs.whole.take_whole.Given as goal

abbrev pub invariant-loop-kind : goal.invariant-loop-kind
invariant-loop-kind l =
    Onward (idle_at l.first l.line) l.part l.start l.n l.initial.records (idle_at l.at l.on) l.i l.count l.records

abbrev pub decreases-loop-kind : goal.decreases-loop-kind
decreases-loop-kind l = length l.part - l.i
