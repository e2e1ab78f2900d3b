-- `add_in` is right because the sums up to `i` and the old totals after them are the totals with the first figures added.
use Prim.Native.Nat.{ℕ}
use mathlib.Core.List.{List}
use mathlib.Core.Path.{sym, ap, ◌∙◌}
use native.Mathlib.Omega.{arith}
use native.Mathlib.Numerals.{add-one}
use lib.ListN.{get_or}
use lib.Seq.{take_all}
use Rattle.built_figures.specs.Figures.{added}
use Rattle.built_figures.proofs.AddLaws.{added_none, added_at, added_front, added_more}
use Rattle.built_figures.proofs.add_in.Goals as goal

pub loop-i-init : goal.loop-i-init
loop-i-init c = sym (added_none _)

pub overflow_add-totals : goal.overflow_add-totals
overflow_add-totals c =
    let a = c.args in
    let l = c.loop-i in
    let sum = ap (λ (r : List ℕ). get_or r l.i 0) l.invariant ∙ added_front a.totals.now a.figures.now l.i in
    omega (arith, c.requires.1 l.i, added_at a.totals.now a.figures.now l.i, sum)

pub loop-i-preserved : goal.loop-i-preserved
loop-i-preserved c =
    let a = c.args in
    let l = c.loop-i in
    let more = added_more a.totals.now a.figures.now l.i (omega (arith, c.requires.0)) (omega arith) in
    rw (l.invariant, add-one) more

pub returns : goal.returns
returns c =
    let a = c.args in
    let l = c.loop-i in
    let all = take_all l.i a.figures.now (omega arith) in
    l.invariant ∙ ap (λ (r : List ℕ). added a.totals.now r) all
