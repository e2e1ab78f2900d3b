-- `atom_front` is right because a byte that goes on leaves the end of the run where it was.
use Rattle.std.proofs.Common.{◌≡◌, ℕ, ◌+◌, ◌<◌, List, length, get_or, true, arith, sym, ◌∙◌}
use Rattle.text_classes.proofs.RunLaws.{run_step, run_stop, Block, block_step}
use Rattle.built_fronts.specs.Fronts.{ascii_atom}
use Rattle.built_fronts.proofs.atom_front.Goals as goal

-- the bytes of a turn that go on, one after another
module _ (doc : List ℕ) (i : ℕ) (within : i + 3 < length doc) where
  one : ascii_atom (get_or doc i 0) ≡ true → Block ascii_atom doc i 1
  one a = omega (arith, run_step ascii_atom doc i (omega arith) a)

  two : ascii_atom (get_or doc i 0) ≡ true → ascii_atom (get_or doc (i + 1) 0) ≡ true → Block ascii_atom doc i 2
  two a b = block_step ascii_atom doc i 1 (omega arith) b (one a)

  three : ascii_atom (get_or doc i 0) ≡ true → ascii_atom (get_or doc (i + 1) 0) ≡ true → ascii_atom (get_or doc (i + 2) 0) ≡ true
      → Block ascii_atom doc i 3
  three a b d = block_step ascii_atom doc i 2 (omega arith) d (two a b)

pub returns-then-not-holds : goal.returns-then-not-holds
returns-then-not-holds c =
    let stop = sym c.holds.ensures ∙ c.if-not-holds.true in
    omega (arith, run_stop ascii_atom c.args.doc.now c.loop-i.i (omega arith) stop)

pub returns-then-not-holds-2 : goal.returns-then-not-holds-2
returns-then-not-holds-2 c =
    let doc = c.args.doc.now in
    let i = c.loop-i.i in
    let a = sym c.holds.ensures ∙ c.if-not-holds.false in
    let stop = sym c.holds-in-loop-i.ensures ∙ c.if-not-holds-2.true in
    omega (arith, one doc i (omega arith) a, run_stop ascii_atom doc (i + 1) (omega arith) stop)

pub returns-then-not-holds-3 : goal.returns-then-not-holds-3
returns-then-not-holds-3 c =
    let doc = c.args.doc.now in
    let i = c.loop-i.i in
    let a = sym c.holds.ensures ∙ c.if-not-holds.false in
    let b = sym c.holds-in-loop-i.ensures ∙ c.if-not-holds-2.false in
    let stop = sym c.holds-in-loop-i-2.ensures ∙ c.if-not-holds-3.true in
    omega (arith, two doc i (omega arith) a b, run_stop ascii_atom doc (i + 2) (omega arith) stop)

pub returns-then-not-holds-4 : goal.returns-then-not-holds-4
returns-then-not-holds-4 c =
    let doc = c.args.doc.now in
    let i = c.loop-i.i in
    let a = sym c.holds.ensures ∙ c.if-not-holds.false in
    let b = sym c.holds-in-loop-i.ensures ∙ c.if-not-holds-2.false in
    let d = sym c.holds-in-loop-i-2.ensures ∙ c.if-not-holds-3.false in
    let stop = sym c.holds-in-loop-i-3.ensures ∙ c.if-not-holds-4.true in
    omega (arith, three doc i (omega arith) a b d, run_stop ascii_atom doc (i + 3) (omega arith) stop)

pub loop-i-preserved : goal.loop-i-preserved
loop-i-preserved c =
    let doc = c.args.doc.now in
    let i = c.loop-i.i in
    let a = sym c.holds.ensures ∙ c.if-not-holds.false in
    let b = sym c.holds-in-loop-i.ensures ∙ c.if-not-holds-2.false in
    let d = sym c.holds-in-loop-i-2.ensures ∙ c.if-not-holds-3.false in
    let e = sym c.holds-in-loop-i-3.ensures ∙ c.if-not-holds-4.false in
    let block = block_step ascii_atom doc i 3 (omega arith) e (three doc i (omega arith) a b d) in
    omega (arith, block)
