-- `needed` is right because n and m, with what the tokens still to come become and report, make the whole.
use Prim.Native.Nat.{◌+◌}
use mathlib.Core.Path.{◌≡◌}
use native.Mathlib.Omega.{arith}
use lib.ListN.{length}
use Rattle.decoder_rules.specs.Decoding.{bytes_of}
use Rattle.built_mending.specs.Mending.{replacement, gap as gap_of}
use Rattle.built_mending.specs.Passes.{between}
use Rattle.built_mending.proofs.BoundLaws.{mended_most, listed_few}
use Rattle.built_mending.proofs.TokenLaws.{part_long}
use Rattle.built_mending.proofs.PassLaws.{counted_start, counted_end, token_within, counted_replaced, counted_kept}
use Rattle.built_mending.proofs.needed.Goals as goal

pub loop-at-init : goal.loop-at-init
loop-at-init c = rw c.start_of-at.ensures (counted_start c.args.edition c.args.doc.now)

pub token_at-next-requires : goal.token_at-next-requires
token_at-next-requires c = (c.loop-at-test.true, c.loop-at.invariant.low, c.requires)

pub reading_of-requires : goal.reading_of-requires
reading_of-requires c =
    let a = c.args in
    let l = c.loop-at in
    let t = c.token_at-next in
    let fits = token_within a.doc.now l.at l.line c.loop-at-test.true t.result.token t.ensures.token in
    (omega (arith, fits.0, fits.1), fits.2)

pub slice_bounds-replacement_needs-count : goal.slice_bounds-replacement_needs-count
slice_bounds-replacement_needs-count c =
    let a = c.args in
    let l = c.loop-at in
    let t = c.token_at-next in
    let fits = token_within a.doc.now l.at l.line c.loop-at-test.true t.result.token t.ensures.token in
    omega (arith, fits.1)

pub slice_bounds-replacement_needs-start : goal.slice_bounds-replacement_needs-start
slice_bounds-replacement_needs-start c =
    let a = c.args in
    let l = c.loop-at in
    let t = c.token_at-next in
    let fits = token_within a.doc.now l.at l.line c.loop-at-test.true t.result.token t.ensures.token in
    omega (arith, fits.1, fits.2)

pub slice_bounds-replacement_needs-end : goal.slice_bounds-replacement_needs-end
slice_bounds-replacement_needs-end c =
    let a = c.args in
    let l = c.loop-at in
    let t = c.token_at-next in
    let fits = token_within a.doc.now l.at l.line c.loop-at-test.true t.result.token t.ensures.token in
    fits.2

pub replacement_needs-need-requires : goal.replacement_needs-need-requires
replacement_needs-need-requires c =
    let a = c.args in
    let l = c.loop-at in
    let t = c.token_at-next in
    let fits = token_within a.doc.now l.at l.line c.loop-at-test.true t.result.token t.ensures.token in
    omega (arith, part_long a.doc.now l.at t.result.token.span.end (omega (arith, fits.1)) fits.2, fits.2, c.requires)

pub overflow_add-n : goal.overflow_add-n
overflow_add-n c =
    let a = c.args in
    let l = c.loop-at in
    let t = c.token_at-next in
    let r = c.reading_of in
    let need = c.replacement_needs-need in
    let gap = c.gap_width in
    let same : gap.result + need.result.bytes ≡ length (gap_of l.quoted) + length (replacement (bytes_of c.in-Some.e (between a.doc.now l.at t.result.token.span.end))) =
    omega (arith, gap.ensures, need.ensures.bytes) in
    let v = counted_replaced a.doc.now l.at l.line c.loop-at-test.true t.result.token t.ensures.token a.edition t.result.line t.ensures.line r.result r.ensures c.in-Some.e c.in-Some.is l.invariant same need.ensures.records in
    omega (arith, v.bytes, mended_most a.edition a.doc.now, c.requires)

pub overflow_add-n-in-Some : goal.overflow_add-n-in-Some
overflow_add-n-in-Some c =
    let a = c.args in
    let l = c.loop-at in
    let t = c.token_at-next in
    let r = c.reading_of in
    let need = c.replacement_needs-need in
    let gap = c.gap_width in
    let same : gap.result + need.result.bytes ≡ length (gap_of l.quoted) + length (replacement (bytes_of c.in-Some.e (between a.doc.now l.at t.result.token.span.end))) =
    omega (arith, gap.ensures, need.ensures.bytes) in
    let v = counted_replaced a.doc.now l.at l.line c.loop-at-test.true t.result.token t.ensures.token a.edition t.result.line t.ensures.line r.result r.ensures c.in-Some.e c.in-Some.is l.invariant same need.ensures.records in
    omega (arith, v.bytes, mended_most a.edition a.doc.now, c.requires)

pub overflow_add-m : goal.overflow_add-m
overflow_add-m c =
    let a = c.args in
    let l = c.loop-at in
    let t = c.token_at-next in
    let r = c.reading_of in
    let need = c.replacement_needs-need in
    let gap = c.gap_width in
    let same : gap.result + need.result.bytes ≡ length (gap_of l.quoted) + length (replacement (bytes_of c.in-Some.e (between a.doc.now l.at t.result.token.span.end))) =
    omega (arith, gap.ensures, need.ensures.bytes) in
    let v = counted_replaced a.doc.now l.at l.line c.loop-at-test.true t.result.token t.ensures.token a.edition t.result.line t.ensures.line r.result r.ensures c.in-Some.e c.in-Some.is l.invariant same need.ensures.records in
    omega (arith, v.records, listed_few a.edition a.doc.now, c.requires)

pub loop-at-smaller-in-Some : goal.loop-at-smaller-in-Some
loop-at-smaller-in-Some c =
    let a = c.args in
    let l = c.loop-at in
    let t = c.token_at-next in
    let fits = token_within a.doc.now l.at l.line c.loop-at-test.true t.result.token t.ensures.token in
    omega (arith, fits.1, fits.2)

pub loop-at-preserved-in-Some : goal.loop-at-preserved-in-Some
loop-at-preserved-in-Some c =
    let a = c.args in
    let l = c.loop-at in
    let t = c.token_at-next in
    let r = c.reading_of in
    let need = c.replacement_needs-need in
    let gap = c.gap_width in
    let same : gap.result + need.result.bytes ≡ length (gap_of l.quoted) + length (replacement (bytes_of c.in-Some.e (between a.doc.now l.at t.result.token.span.end))) =
    omega (arith, gap.ensures, need.ensures.bytes) in
    let v = counted_replaced a.doc.now l.at l.line c.loop-at-test.true t.result.token t.ensures.token a.edition t.result.line t.ensures.line r.result r.ensures c.in-Some.e c.in-Some.is l.invariant same need.ensures.records in
    v

pub overflow_sub-n : goal.overflow_sub-n
overflow_sub-n c =
    let a = c.args in
    let l = c.loop-at in
    let t = c.token_at-next in
    let fits = token_within a.doc.now l.at l.line c.loop-at-test.true t.result.token t.ensures.token in
    omega (arith, fits.1)

pub overflow_add-n-in-loop-at : goal.overflow_add-n-in-loop-at
overflow_add-n-in-loop-at c =
    let a = c.args in
    let l = c.loop-at in
    let t = c.token_at-next in
    let r = c.reading_of in
    let v = counted_kept a.doc.now l.at l.line c.loop-at-test.true t.result.token t.ensures.token a.edition t.result.line t.ensures.line r.result r.ensures c.in_default.is l.invariant in
    omega (arith, v.bytes, mended_most a.edition a.doc.now, c.requires)

pub overflow_sub-quoted : goal.overflow_sub-quoted
overflow_sub-quoted c =
    let a = c.args in
    let l = c.loop-at in
    let t = c.token_at-next in
    let fits = token_within a.doc.now l.at l.line c.loop-at-test.true t.result.token t.ensures.token in
    omega (arith, fits.1)

pub bounds-doc-end : goal.bounds-doc-end
bounds-doc-end c =
    let a = c.args in
    let l = c.loop-at in
    let t = c.token_at-next in
    let fits = token_within a.doc.now l.at l.line c.loop-at-test.true t.result.token t.ensures.token in
    omega (arith, fits.1, fits.2)

pub loop-at-smaller : goal.loop-at-smaller
loop-at-smaller c =
    let a = c.args in
    let l = c.loop-at in
    let t = c.token_at-next in
    let fits = token_within a.doc.now l.at l.line c.loop-at-test.true t.result.token t.ensures.token in
    omega (arith, fits.1, fits.2)

pub loop-at-preserved : goal.loop-at-preserved
loop-at-preserved c =
    let a = c.args in
    let l = c.loop-at in
    let t = c.token_at-next in
    let r = c.reading_of in
    let v = counted_kept a.doc.now l.at l.line c.loop-at-test.true t.result.token t.ensures.token a.edition t.result.line t.ensures.line r.result r.ensures c.in_default.is l.invariant in
    v

pub returns : goal.returns
returns c =
    let end = counted_end c.args.edition c.args.doc.now c.loop-at-test.false c.loop-at.invariant in
    record { bytes = end.0; records = end.1 }
