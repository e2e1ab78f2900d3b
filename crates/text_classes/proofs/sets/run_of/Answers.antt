-- `run_of` is right because a byte of the set leaves the end of the run where it was, and none stands beyond the end.
use mathlib.Core.Path.{sym, ◌∙◌}
use native.Mathlib.Omega.{arith}
use Rattle.text_classes.proofs.RunLaws.{run_step, run_stop, run_end}
use Rattle.text_classes.proofs.sets.run_of.Goals as goal

pub returns-then-not-holds : goal.returns-then-not-holds
returns-then-not-holds g c =
    let a = c.args in
    let i = c.loop-i.i in
    omega (arith, run_stop (g.S.ByteSet.holds a.set) a.s.now i (omega arith) (sym c.holds.ensures ∙ c.if-not-holds.true))

pub loop-i-preserved : goal.loop-i-preserved
loop-i-preserved g c =
    let a = c.args in
    let i = c.loop-i.i in
    omega (arith, run_step (g.S.ByteSet.holds a.set) a.s.now i (omega arith) (sym c.holds.ensures ∙ c.if-not-holds.false))

pub returns : goal.returns
returns g c =
    let a = c.args in
    omega (arith, run_end (g.S.ByteSet.holds a.set) a.s.now c.loop-i.i (omega arith))
