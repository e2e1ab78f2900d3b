-- `front_blocks` is right because a block and what is left after it are what was left.
use Rattle.std.proofs.Common.{◌≡◌, ℕ, ◌+◌, ◌≤◌, List, ◌++◌, length, take, drop, sym, arith, length-take-le}
use Rattle.std.proofs.lemmas.List.{take-append-drop}
use Rattle.text_classes.specs.Classes.{literal_char}
use Rattle.text_classes.specs.Runs.{run}
use Rattle.built_writing.specs.Writing.{spelt}
use Rattle.built_writing.specs.Measured.{Passed}
use Rattle.built_writing.proofs.WeighLaws.{passed_on, passed_block}
use Rattle.built_writing.proofs.weigh.front_blocks.Goals as goal

on : (k : ℕ) (start rest block after : List ℕ) (n₀ n m : ℕ) → block ≡ take k rest → after ≡ drop k rest → k ≤ length rest
    → run literal_char block ≡ length block → length (spelt block) ≡ length block + m → Passed start n₀ rest n
    → Passed start n₀ after (n + (k + m))
on k start rest block after n₀ n m front back fits plain weighs so =
    let size = length-take-le k rest fits in
    let parts : rest ≡ block ++ after = rw (front, back) (sym (take-append-drop k rest)) in
    let whole : length block ≡ k = rw front size in
    passed_on so (passed_block rest block after n (k + m) parts plain (omega (arith, weighs, whole)))

pub overflow_add-bytes : goal.overflow_add-bytes
overflow_add-bytes g c =
    let cut = c.in-Some.ensures.cases in
    let next = on g.row.N c.args.front.rest.now c.loop-block.rest.now c.in-Some.block.now c.in-Some.after.now c.args.front.bytes c.loop-block.bytes _
    cut.0 cut.1 (omega (arith, cut.2)) c.in-Some-marks_in.ensures.0 c.in-Some-marks_in.ensures.1 c.loop-block.invariant in
    omega (arith, next.left, c.requires.0)

pub overflow_add-bytes-in-Some-marks_in : goal.overflow_add-bytes-in-Some-marks_in
overflow_add-bytes-in-Some-marks_in g c =
    let cut = c.in-Some.ensures.cases in
    let next = on g.row.N c.args.front.rest.now c.loop-block.rest.now c.in-Some.block.now c.in-Some.after.now c.args.front.bytes c.loop-block.bytes _
    cut.0 cut.1 (omega (arith, cut.2)) c.in-Some-marks_in.ensures.0 c.in-Some-marks_in.ensures.1 c.loop-block.invariant in
    omega (arith, next.left, c.requires.0)

pub loop-block-preserved : goal.loop-block-preserved
loop-block-preserved g c =
    let cut = c.in-Some.ensures.cases in
    on g.row.N c.args.front.rest.now c.loop-block.rest.now c.in-Some.block.now c.in-Some.after.now c.args.front.bytes c.loop-block.bytes _
    cut.0 cut.1 (omega (arith, cut.2)) c.in-Some-marks_in.ensures.0 c.in-Some-marks_in.ensures.1 c.loop-block.invariant
