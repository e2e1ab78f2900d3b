-- `copy_in` is right because what is still to be copied, stored from place o + j on, makes the whole copy.
use mathlib.Core.Path.{refl}
use native.Mathlib.Omega.{arith}
use Rattle.decoder_rules.proofs.StoreLaws.{copying_start, copying_turn, copying_end}
use Rattle.decoder_writing.proofs.write.copy_in.Goals as goal

pub loop-j-init : goal.loop-j-init
loop-j-init c = copying_start c.args.s.now c.args.n c.args.output.now c.args.o

pub bounds-s-j : goal.bounds-s-j
bounds-s-j c = omega (arith, c.loop-j.invariant.within)

pub overflow_add-output : goal.overflow_add-output
overflow_add-output c = omega (arith, c.loop-j.invariant.within)

pub bounds-output-o : goal.bounds-output-o
bounds-output-o c = omega (arith, c.loop-j.invariant.within, c.loop-j.invariant.long)

pub loop-j-smaller : goal.loop-j-smaller
loop-j-smaller c = omega (arith, c.loop-j.invariant.within)

pub loop-j-preserved : goal.loop-j-preserved
loop-j-preserved c =
    let a = c.args in
    let l = c.loop-j in
    copying_turn a.s.now a.n a.output.now a.o l.output l.j (omega (arith, l.invariant.within)) (omega arith) l.invariant

pub shape_of-output : goal.shape_of-output
shape_of-output c = c.loop-j.invariant.long

pub returns : goal.returns
returns c =
    let a = c.args in
    let l = c.loop-j in
    copying_end a.s.now a.n a.output.now a.o l.output l.j _ (omega arith) (omega arith) refl l.invariant
