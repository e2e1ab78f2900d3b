-- `is_ascii_ends` is right because the two parts meet or overlap.
use mathlib.Core.Path.{sym, ◌∙◌}
use Prim.Native.Nat.{◌+◌, ◌-◌}
use native.Mathlib.Omega.{arith}
use native.Mathlib.Nat.{sub-zero}
use lib.ListN.{length}
use Rattle.built_broken.proofs.ReadableLaws.{ascii_part, ascii_joined}
use Rattle.built_broken.proofs.ascii.is_ascii_ends.Goals as goal

pub returns-then-is_ascii_block : goal.returns-then-is_ascii_block
returns-then-is_ascii_block c = λ e k l m.
    let s = c.args.s.now in
    let n = c.args.n in
    let last = length s - n in
    let front = ascii_part s 0 n (omega arith) (omega arith) (rw sub-zero (sym c.is_ascii_block.ensures ∙ c.if-is_ascii_block.true)) in
    let back = ascii_part s last (last + n) (omega arith) (omega arith) (sym c.is_ascii_block-then-is_ascii_block.ensures ∙ e) in
    ascii_joined s last n (length s) (omega arith) front (λ k l m. back k l (omega arith)) k l m
