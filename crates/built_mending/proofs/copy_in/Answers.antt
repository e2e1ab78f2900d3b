-- `copy_in` is right because what is still to be copied, stored from place o + j on, makes the whole copy.
use Prim.Native.Nat.{◌+◌, ◌-◌}
use mathlib.Core.Path.{◌≡◌, refl}
use native.Mathlib.Omega.{arith}
use lib.ListN.{length}
use lib.Seq.{take-length}
use Rattle.decoder_rules.proofs.StoreLaws.{copying_start, copying_turn, copying_end}
use Rattle.built_mending.specs.Passes.{between}
use Rattle.built_mending.proofs.TokenLaws.{part_long}
use Rattle.built_mending.proofs.copy_in.Goals as goal

pub loop-j-init : goal.loop-j-init
loop-j-init c =
    let a = c.args in
    let s = between a.doc.now a.from a.to in
    copying_start s (length s) a.output.now a.o

pub bounds-s-j : goal.bounds-s-j
bounds-s-j c =
    let a = c.args in
    let size : length (between a.doc.now a.from a.to) ≡ a.to - a.from =
    part_long a.doc.now a.from a.to c.requires.0 c.requires.1 in
    omega arith

pub overflow_add-output : goal.overflow_add-output
overflow_add-output c =
    let a = c.args in
    let size : length (between a.doc.now a.from a.to) ≡ a.to - a.from =
    part_long a.doc.now a.from a.to c.requires.0 c.requires.1 in
    omega arith

pub bounds-output-o : goal.bounds-output-o
bounds-output-o c =
    let a = c.args in
    let size : length (between a.doc.now a.from a.to) ≡ a.to - a.from =
    part_long a.doc.now a.from a.to c.requires.0 c.requires.1 in
    omega arith

pub loop-j-smaller : goal.loop-j-smaller
loop-j-smaller c =
    let a = c.args in
    let size : length (between a.doc.now a.from a.to) ≡ a.to - a.from =
    part_long a.doc.now a.from a.to c.requires.0 c.requires.1 in
    omega arith

pub loop-j-preserved : goal.loop-j-preserved
loop-j-preserved c =
    let a = c.args in
    let size : length (between a.doc.now a.from a.to) ≡ a.to - a.from =
    part_long a.doc.now a.from a.to c.requires.0 c.requires.1 in
    let s = between a.doc.now a.from a.to in
    let l = c.loop-j in
    copying_turn s (length s) a.output.now a.o l.output l.j (omega arith) (omega arith) l.invariant

pub overflow_add-result : goal.overflow_add-result
overflow_add-result c =
    let a = c.args in
    let size : length (between a.doc.now a.from a.to) ≡ a.to - a.from =
    part_long a.doc.now a.from a.to c.requires.0 c.requires.1 in
    omega arith

pub shape_of-output : goal.shape_of-output
shape_of-output c = c.loop-j.invariant.long

pub returns : goal.returns
returns c =
    let a = c.args in
    let size : length (between a.doc.now a.from a.to) ≡ a.to - a.from =
    part_long a.doc.now a.from a.to c.requires.0 c.requires.1 in
    let s = between a.doc.now a.from a.to in
    let l = c.loop-j in
    rw (take-length s) at
    (copying_end s (length s) a.output.now a.o l.output l.j (a.o + length s) (omega arith) (omega arith) refl l.invariant)
