-- `put_bytes` is right because what is left to be spelt, stored from place o on, makes the whole.
use Rattle.std.proofs.Common.{arith}
use Rattle.built_mending.proofs.SpellLaws.{putting_start, putting_room, putting_turn, putting_end}
use Rattle.built_mending.proofs.spell.put_bytes.Goals as goal

pub loop-b-init : goal.loop-b-init
loop-b-init c = let a = c.args in putting_start a.s.now a.output.now a.o0

pub put_byte-o-requires : goal.put_byte-o-requires
put_byte-o-requires c =
    let a = c.args in
    putting_room a.s.now a.output.now a.o0 (omega arith) c.loop-b.invariant c.requires

pub loop-b-preserved : goal.loop-b-preserved
loop-b-preserved c =
    let a = c.args in
    let put = c.put_byte-o in
    putting_turn a.s.now a.output.now a.o0 (omega arith) c.loop-b.invariant put.auto.output put.ensures

pub shape_of-output : goal.shape_of-output
shape_of-output c = c.loop-b.invariant.long

pub returns : goal.returns
returns c =
    let a = c.args in
    putting_end a.s.now a.output.now a.o0 (omega arith) c.loop-b.invariant
