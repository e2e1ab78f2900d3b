-- `check_part` is right because what the bytes from the place i on come to is, at each turn, what the whole part comes to.
use Prim.Native.Nat.{ℕ}
use mathlib.Core.Path.{ap}
use native.Mathlib.Omega.{arith}
use native.Mathlib.Nat.{add-zero}
use Rattle.built_parts.specs.Checking.{checked}
use Rattle.built_parts.proofs.PassLaws.{check_fault, check_passed, check_done, check_broken, check_sound}
use Rattle.built_parts.proofs.checks.check_part.Goals as goal

pub turns-init : goal.turns-init
turns-init c = (omega arith, ap (λ (k : ℕ). checked c.args.character c.args.valid k c.args.part.now) (add-zero c.args.at))

pub passed-requires : goal.passed-requires
passed-requires c = (c.turns.invariant.0, omega arith)

pub overflow_add-result : goal.overflow_add-result
overflow_add-result c =
    let s = c.args.part.now in
    let at = c.args.at in
    let l = c.turns in
    omega (arith, (check_fault s l.c l.v at (checked c.args.character c.args.valid at s) l.i _ c.passed.result c.in-Err.is c.passed.ensures l.invariant.1).0)

pub returns-in-Err : goal.returns-in-Err
returns-in-Err c =
    let s = c.args.part.now in
    let at = c.args.at in
    let l = c.turns in
    (check_fault s l.c l.v at (checked c.args.character c.args.valid at s) l.i _ c.passed.result c.in-Err.is c.passed.ensures l.invariant.1).1

pub overflow_add-at : goal.overflow_add-at
overflow_add-at c =
    let s = c.args.part.now in
    let at = c.args.at in
    let l = c.turns in
    let u = check_passed s l.c l.v at (checked c.args.character c.args.valid at s) l.i _ c.passed.result c.in-Ok.is c.passed.ensures l.invariant.1 in
    omega (arith, u.1)

pub returns-then-part-e : goal.returns-then-part-e
returns-then-part-e c =
    let s = c.args.part.now in
    let at = c.args.at in
    let l = c.turns in
    let u = check_passed s l.c l.v at (checked c.args.character c.args.valid at s) l.i _ c.passed.result c.in-Ok.is c.passed.ensures l.invariant.1 in
    check_done s l.c l.v at (checked c.args.character c.args.valid at s) _ c.valid_at-w.result (omega arith) c.valid_at-w.ensures u.2

pub overflow_add-at-in-None : goal.overflow_add-at-in-None
overflow_add-at-in-None c =
    let s = c.args.part.now in
    let at = c.args.at in
    let l = c.turns in
    let u = check_passed s l.c l.v at (checked c.args.character c.args.valid at s) l.i _ c.passed.result c.in-Ok.is c.passed.ensures l.invariant.1 in
    omega (arith, u.1)

pub returns-in-None : goal.returns-in-None
returns-in-None c =
    let s = c.args.part.now in
    let at = c.args.at in
    let l = c.turns in
    let u = check_passed s l.c l.v at (checked c.args.character c.args.valid at s) l.i _ c.passed.result c.in-Ok.is c.passed.ensures l.invariant.1 in
    check_broken s l.c l.v at (checked c.args.character c.args.valid at s) _ c.valid_at-w.result c.faulty_len.result (omega arith) c.valid_at-w.ensures c.turn.result c.turn.ensures c.in-None.is c.faulty_len.ensures u.2

pub overflow_add-i : goal.overflow_add-i
overflow_add-i c =
    let s = c.args.part.now in
    let at = c.args.at in
    let l = c.turns in
    let u = check_passed s l.c l.v at (checked c.args.character c.args.valid at s) l.i _ c.passed.result c.in-Ok.is c.passed.ensures l.invariant.1 in
    omega (arith, u.1)

pub turns-smaller : goal.turns-smaller
turns-smaller c =
    let s = c.args.part.now in
    let at = c.args.at in
    let l = c.turns in
    let u = check_passed s l.c l.v at (checked c.args.character c.args.valid at s) l.i _ c.passed.result c.in-Ok.is c.passed.ensures l.invariant.1 in
    omega (arith, u.0, u.1)

pub turns-preserved : goal.turns-preserved
turns-preserved c =
    let s = c.args.part.now in
    let at = c.args.at in
    let l = c.turns in
    let u = check_passed s l.c l.v at (checked c.args.character c.args.valid at s) l.i _ c.passed.result c.in-Ok.is c.passed.ensures l.invariant.1 in
    (omega arith, check_sound s l.c l.v at (checked c.args.character c.args.valid at s) _ c.valid_at-w.result (omega arith) c.valid_at-w.ensures c.turn.result c.turn.ensures _ c.in-Some.is u.2)
