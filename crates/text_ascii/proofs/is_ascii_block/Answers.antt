-- `is_ascii_block` is right because bits joined are no less than any of the bytes, and stay below 80 where all of them are.
-- The invariant says so of the bytes passed.
use Prim.Native.Nat.{◌+◌, ◌<◌}
use mathlib.Core.Path.{◌≡◌}
use native.Mathlib.Nat.{zero-add}
use native.Mathlib.Omega.{arith}
use native.Mathlib.Decide.{dec_lt}
use borrow.Author.Tests.{lt-ltb, le-ltb, eq-eqb, ne_eqb}
use lib.ListN.{length, get_or}
use Rattle.std.proofs.lemmas.Nat.{or_lt}
use Rattle.text_scalars.specs.Utf8Read.{ascii}
use Rattle.text_scalars.proofs.FieldLaws.{bits_left, bits_right}
use Rattle.text_classes.specs.Runs.{run}
use Rattle.text_classes.proofs.RunLaws.{Block, block_start, block_step, run_end, run_halts}
use Rattle.text_ascii.proofs.is_ascii_block.Goals as goal

pub loop-b-init : goal.loop-b-init
loop-b-init c = record { all = λ _. block_start ascii c.args.block.now 0; other = λ h. absurd (omega arith) }

pub loop-b-preserved : goal.loop-b-preserved
loop-b-preserved c =
    let s = c.args.block.now in
    let at = c.loop-b in
    let byte = get_or s at.b-index 0 in
    record {
      all = λ h.
          let low : byte < 0x80 = omega (arith, bits_right at.bits byte) in
          let passed : Block ascii s 0 at.b-index = at.invariant.all (omega (arith, bits_left at.bits byte)) in
          block_step ascii s 0 at.b-index (omega arith) (rw zero-add (lt-ltb byte 0x80 low)) passed;
      other = λ h.
          elim (dec_lt at.bits 0x80) [
            | no g ↦ omega (arith, at.invariant.other (omega arith))
            | yes g ↦ elim (dec_lt byte 0x80) [
              | yes k ↦ absurd (omega (arith, or_lt 7 at.bits byte g k))
              | no k ↦ omega (arith, at.invariant.all g, run_halts ascii s (0 + at.b-index) (rw zero-add (le-ltb byte 0x80 (omega arith))))
            ]
          ];
    }

pub returns : goal.returns
returns c =
    let s = c.args.block.now in
    let at = c.loop-b in
    elim (dec_lt at.bits 0x80) [
      | yes h ↦
          let all : run ascii s ≡ length s = omega (arith, at.invariant.all h, run_end ascii s (0 + at.b-index) (omega arith)) in
          rw (lt-ltb at.bits 0x80 h, eq-eqb (run ascii s) (length s) all)
      | no h ↦
          let less : run ascii s ≡ length s → ⊥ = λ e. omega (arith, at.invariant.other (omega arith)) in
          rw (le-ltb at.bits 0x80 (omega arith), ne_eqb (run ascii s) (length s) less)
    ]
