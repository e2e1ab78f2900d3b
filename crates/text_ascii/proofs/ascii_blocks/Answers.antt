-- `ascii_blocks` is right because a block of ASCII does not move the end of the run.
use Prim.Native.Nat.{◌-◌}
use mathlib.Core.Path.{sym, ap, ◌∙◌}
use native.Mathlib.Omega.{arith}
use borrow.Author.Tests.{eqb-true}
use lib.ListN.{length, take, drop}
use lib.Seq.{length-take-le}
use Rattle.text_scalars.specs.Utf8Read.{ascii}
use Rattle.text_classes.proofs.RunLaws.{same_end_block, chunk_block}
use Rattle.text_ascii.proofs.ascii_blocks.Goals as goal

pub loop-block-preserved : goal.loop-block-preserved
loop-block-preserved c =
    let a = c.args in
    let at = c.loop-block in
    let first = c.in-Some.ensures.cases in
    let size = ap length first.same ∙ length-take-le 64 (take (length a.s.now - at.i) (drop at.i a.s.now)) first.enough in
    let all = eqb-true _ _ (sym c.is_ascii_block.ensures ∙ c.if-not-is_ascii_block.false) ∙ size in
    let block = chunk_block ascii a.s.now at.i 64 (omega arith) first.enough first.same all in
    same_end_block ascii a.s.now a.start at.i 64 block.0 block.1 at.invariant
