-- `count` is right because a block and what is left after it are what was left.
use Rattle.std.proofs.Common.{◌≡◌, ℕ, ◌+◌, ◌≤◌, List, ◌++◌, length, take, drop, sym, ap, arith, length-append, length-take-le}
use Rattle.std.proofs.lemmas.List.{take-append-drop}
use Rattle.built_writing.specs.Writing.{spelt}
use Rattle.built_writing.proofs.SpellLaws.{spelt_six, spelt_append}
use Rattle.built_writing.proofs.weigh.count.Goals as goal

on : (rest block after : List ℕ) (m : ℕ) → block ≡ take 32 rest → after ≡ drop 32 rest → 32 ≤ length rest
    → length (spelt block) ≡ length block + m → length (spelt rest) ≡ 32 + m + length (spelt after)
on rest block after m front back fits weighs =
    let whole : length block ≡ 32 = rw front (length-take-le 32 rest fits) in
    let parts : rest ≡ block ++ after = rw (front, back) (sym (take-append-drop 32 rest)) in
    rw parts (omega (arith, ap length (spelt_append block after), length-append (spelt block) (spelt after), weighs, whole))

pub overflow_add-n : goal.overflow_add-n
overflow_add-n c =
    let cut = c.in-Some.ensures.cases in
    let said = on c.loop-block.rest.now c.in-Some.block.now c.in-Some.after.now _ cut.0 cut.1 (omega (arith, cut.2)) c.extra_in.ensures in
    omega (arith, said, c.loop-block.invariant, spelt_six c.args.s.now)

pub overflow_add-n-in-Some : goal.overflow_add-n-in-Some
overflow_add-n-in-Some c =
    let cut = c.in-Some.ensures.cases in
    let said = on c.loop-block.rest.now c.in-Some.block.now c.in-Some.after.now _ cut.0 cut.1 (omega (arith, cut.2)) c.extra_in.ensures in
    omega (arith, said, c.loop-block.invariant, spelt_six c.args.s.now)

pub loop-block-preserved : goal.loop-block-preserved
loop-block-preserved c =
    let cut = c.in-Some.ensures.cases in
    let said = on c.loop-block.rest.now c.in-Some.block.now c.in-Some.after.now _ cut.0 cut.1 (omega (arith, cut.2)) c.extra_in.ensures in
    omega (arith, said, c.loop-block.invariant)

pub overflow_add-result : goal.overflow_add-result
overflow_add-result c = omega (arith, c.loop-block.invariant, c.count_rest.ensures, spelt_six c.args.s.now)
