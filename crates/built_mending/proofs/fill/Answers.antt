-- `fill` is right because what is still to be copied, and what the tokens still to come become, stored from o and m on, make the
-- whole.
use mathlib.Core.Path.{◌∙◌}
use native.Mathlib.Omega.{arith}
use Rattle.built_mending.proofs.PassLaws.{filled_start, filled_left, filled_end, token_within, filled_kept, filled_space, filled_replaced}
use Rattle.built_mending.proofs.fill.Goals as goal

pub loop-at-init : goal.loop-at-init
loop-at-init c =
    let a = c.args in
    rw c.start_of-at.ensures (filled_start a.edition a.doc.now a.output.now a.records.now)

pub token_at-next-requires : goal.token_at-next-requires
token_at-next-requires c = (c.loop-at-test.true, c.loop-at.invariant.low, c.requires.0)

pub reading_of-requires : goal.reading_of-requires
reading_of-requires c =
    let a = c.args in
    let l = c.loop-at in
    let t = c.token_at-next in
    let fits = token_within a.doc.now l.at l.line c.loop-at-test.true t.result.token t.ensures.token in
    (omega (arith, fits.0, fits.1), fits.2)

pub copy_in-o1-requires : goal.copy_in-o1-requires
copy_in-o1-requires c =
    let a = c.args in
    let l = c.loop-at in
    let t = c.token_at-next in
    let r = c.reading_of in
    let pre = c.requires in
    let s = filled_space a.doc.now l.at l.line c.loop-at-test.true t.result.token t.ensures.token a.edition t.result.line t.ensures.line r.result r.ensures a.output.now a.records.now l.invariant c.in-Some.e c.in-Some.is pre.1 pre.2 in
    (l.invariant.back, l.invariant.within, omega (arith, s.0))

pub slice_bounds-replace-count : goal.slice_bounds-replace-count
slice_bounds-replace-count c =
    let a = c.args in
    let l = c.loop-at in
    let t = c.token_at-next in
    let fits = token_within a.doc.now l.at l.line c.loop-at-test.true t.result.token t.ensures.token in
    omega (arith, fits.1)

pub slice_bounds-replace-start : goal.slice_bounds-replace-start
slice_bounds-replace-start c =
    let a = c.args in
    let l = c.loop-at in
    let t = c.token_at-next in
    let fits = token_within a.doc.now l.at l.line c.loop-at-test.true t.result.token t.ensures.token in
    omega (arith, fits.1, fits.2)

pub slice_bounds-replace-end : goal.slice_bounds-replace-end
slice_bounds-replace-end c =
    let a = c.args in
    let l = c.loop-at in
    let t = c.token_at-next in
    let fits = token_within a.doc.now l.at l.line c.loop-at-test.true t.result.token t.ensures.token in
    fits.2

pub replace-done-requires : goal.replace-done-requires
replace-done-requires c =
    let a = c.args in
    let l = c.loop-at in
    let t = c.token_at-next in
    let r = c.reading_of in
    let pre = c.requires in
    let s = filled_space a.doc.now l.at l.line c.loop-at-test.true t.result.token t.ensures.token a.edition t.result.line t.ensures.line r.result r.ensures a.output.now a.records.now l.invariant c.in-Some.e c.in-Some.is pre.1 pre.2 in
    let copy = c.copy_in-o1 in
    (omega (arith, s.0, copy.ensures.place, copy.auto.output), s.1)

pub loop-at-smaller-in-Some : goal.loop-at-smaller-in-Some
loop-at-smaller-in-Some c =
    let a = c.args in
    let l = c.loop-at in
    let t = c.token_at-next in
    let fits = token_within a.doc.now l.at l.line c.loop-at-test.true t.result.token t.ensures.token in
    omega (arith, fits.1, fits.2)

pub loop-at-preserved-in-Some : goal.loop-at-preserved-in-Some
loop-at-preserved-in-Some c =
    let a = c.args in
    let l = c.loop-at in
    let t = c.token_at-next in
    let r = c.reading_of in
    let copy = c.copy_in-o1 in
    let put = c.replace-done in
    filled_replaced a.doc.now l.at l.line c.loop-at-test.true t.result.token t.ensures.token a.edition t.result.line t.ensures.line r.result r.ensures a.output.now a.records.now l.invariant c.in-Some.e c.in-Some.is
    (put.auto.output ∙ copy.auto.output) put.auto.records copy.ensures put.ensures.output put.ensures.records

pub overflow_sub-quoted : goal.overflow_sub-quoted
overflow_sub-quoted c =
    let a = c.args in
    let l = c.loop-at in
    let t = c.token_at-next in
    let fits = token_within a.doc.now l.at l.line c.loop-at-test.true t.result.token t.ensures.token in
    omega (arith, fits.1)

pub bounds-doc-end : goal.bounds-doc-end
bounds-doc-end c =
    let a = c.args in
    let l = c.loop-at in
    let t = c.token_at-next in
    let fits = token_within a.doc.now l.at l.line c.loop-at-test.true t.result.token t.ensures.token in
    omega (arith, fits.1, fits.2)

pub loop-at-smaller : goal.loop-at-smaller
loop-at-smaller c =
    let a = c.args in
    let l = c.loop-at in
    let t = c.token_at-next in
    let fits = token_within a.doc.now l.at l.line c.loop-at-test.true t.result.token t.ensures.token in
    omega (arith, fits.1, fits.2)

pub loop-at-preserved : goal.loop-at-preserved
loop-at-preserved c =
    let a = c.args in
    let l = c.loop-at in
    let t = c.token_at-next in
    let r = c.reading_of in
    filled_kept a.doc.now l.at l.line c.loop-at-test.true t.result.token t.ensures.token a.edition t.result.line t.ensures.line r.result r.ensures a.output.now a.records.now l.invariant c.in_default.is

pub copy_in-o1-requires-2 : goal.copy_in-o1-requires-2
copy_in-o1-requires-2 c =
    let a = c.args in
    let left = filled_left a.edition a.doc.now a.output.now a.records.now c.loop-at-test.false c.loop-at.invariant c.requires.1 in
    (left.0, omega arith, left.1)

pub shape_of-output : goal.shape_of-output
shape_of-output c = c.copy_in-o1-2.auto.output ∙ c.loop-at.invariant.out_long

pub shape_of-records : goal.shape_of-records
shape_of-records c = c.loop-at.invariant.recs_long

pub returns : goal.returns
returns c =
    let a = c.args in
    let end =
    filled_end a.edition a.doc.now a.output.now a.records.now c.loop-at-test.false c.loop-at.invariant c.copy_in-o1-2.ensures in
    record { output = end.0; records = end.1 }
