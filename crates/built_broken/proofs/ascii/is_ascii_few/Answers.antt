-- `is_ascii_few` is right because up to three bytes are the first, the middle one and the last.
use Prim.Native.Nat.{◌-◌, ◌/◌, ◌<◌}
use lib.Bits.{bit_or}
use lib.ListN.{length, get_or}
use native.Mathlib.Omega.{arith}
use borrow.Author.Tests.{ltb-true}
use Rattle.text_scalars.proofs.FieldLaws.{bits_left, bits_right}
use Rattle.built_broken.proofs.ReadableLaws.{ascii_few}
use Rattle.built_broken.proofs.ascii.is_ascii_few.Goals as goal

pub returns-then-n-eq0 : goal.returns-then-n-eq0
returns-then-n-eq0 c = λ e k l m. absurd (omega arith)

pub returns : goal.returns
returns c = λ e.
    let s = c.args.s.now in
    let n = length s in
    let first = get_or s 0 0 in
    let middle = get_or s (n / 2) 0 in
    let last = get_or s (n - 1) 0 in
    let low : bit_or (bit_or first middle) last < 0x80 = ltb-true _ _ e in
    let front = bits_left (bit_or first middle) last in
    ascii_few s n c.requires
    (omega (arith, front, bits_left first middle)) (omega (arith, front, bits_right first middle))
    (omega (arith, bits_right (bit_or first middle) last))
