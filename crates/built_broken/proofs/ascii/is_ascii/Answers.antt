-- `is_ascii` is right because the parts that were passed, and the last one, meet or overlap.
use mathlib.Core.Path.{sym, ◌∙◌}
use Prim.Native.Nat.{◌+◌, ◌-◌}
use native.Mathlib.Omega.{arith}
use lib.ListN.{length}
use Rattle.built_broken.proofs.ReadableLaws.{ascii_part, ascii_joined}
use Rattle.built_broken.proofs.ascii.is_ascii.Goals as goal

pub loop-i-init : goal.loop-i-init
loop-i-init c = (omega arith, λ k l m. absurd (omega arith))

pub loop-i-preserved : goal.loop-i-preserved
loop-i-preserved c =
    let s = c.args.s.now in
    let i = c.loop-i.i in
    let part = ascii_part s i (i + 16) (omega arith) (omega arith) (sym c.is_ascii_block.ensures ∙ c.if-not-is_ascii_block.false) in
    (omega arith, λ k l m. ascii_joined s i i (i + 16) (omega arith) c.loop-i.invariant.1 part k l m)

pub returns : goal.returns
returns c = λ e k l m.
    let s = c.args.s.now in
    let last = length s - 16 in
    let part = ascii_part s last (last + 16) (omega arith) (omega arith) (sym c.is_ascii_block-2.ensures ∙ e) in
    ascii_joined s last c.loop-i.i (length s) (omega arith) c.loop-i.invariant.1 (λ k l m. part k l (omega arith)) k l m
