-- `leap` is right because a look ahead finds where the token in progress ends, or to which mode its bytes lead.
use mathlib.Core.Path.{refl}
use native.Mathlib.Omega.{arith}
use Rattle.built_lexing.proofs.LeapLaws.{whole_found, open_found, whole_leap, open_leap}
use Rattle.built_lexing.proofs.ahead.leap.Goals as goal

pub overflow_sub-at : goal.overflow_sub-at
overflow_sub-at c =
    let a = c.args in
    let w = whole_found a.l.mode a.part.now a.i (omega arith) c.look.result _ _ _ c.in-Whole.is c.look.ensures in
    omega (arith, w.1.0, w.1.1.0, w.1.1.1)

pub overflow_add-at : goal.overflow_add-at
overflow_add-at c =
    let a = c.args in
    let w = whole_found a.l.mode a.part.now a.i (omega arith) c.look.result _ _ _ c.in-Whole.is c.look.ensures in
    omega (arith, w.1.0, w.1.1.0, w.1.1.1)

pub overflow_add-l : goal.overflow_add-l
overflow_add-l c =
    let a = c.args in
    let w = whole_found a.l.mode a.part.now a.i (omega arith) c.look.result _ _ _ c.in-Whole.is c.look.ensures in
    omega (arith, w.1.0, w.1.1.0, w.1.1.1)

pub overflow_sub-result : goal.overflow_sub-result
overflow_sub-result c =
    let a = c.args in
    let w = open_found a.l.mode a.part.now a.i (omega arith) c.look.result _ _ _ c.in-Open.is c.look.ensures in
    omega (arith, w.1.0, w.1.1.0, w.1.1.1)

pub overflow_add-result : goal.overflow_add-result
overflow_add-result c =
    let a = c.args in
    let w = open_found a.l.mode a.part.now a.i (omega arith) c.look.result _ _ _ c.in-Open.is c.look.ensures in
    omega (arith, w.1.0, w.1.1.0, w.1.1.1)

pub overflow_add-result-in-Open : goal.overflow_add-result-in-Open
overflow_add-result-in-Open c =
    let a = c.args in
    let w = open_found a.l.mode a.part.now a.i (omega arith) c.look.result _ _ _ c.in-Open.is c.look.ensures in
    omega (arith, w.1.0, w.1.1.0, w.1.1.1)

pub returns-in-Whole : goal.returns-in-Whole
returns-in-Whole c =
    let a = c.args in
    let w = whole_found a.l.mode a.part.now a.i (omega arith) c.look.result _ _ _ c.in-Whole.is c.look.ensures in
    rw (c.token.ensures, c.idle.ensures)
    (whole_leap a.l a.part.now a.i (omega arith) (omega arith) _ _ _ _ _ w.0 refl refl)

pub returns-in-Open : goal.returns-in-Open
returns-in-Open c =
    let a = c.args in
    let w = open_found a.l.mode a.part.now a.i (omega arith) c.look.result _ _ _ c.in-Open.is c.look.ensures in
    open_leap a.l a.part.now a.i (omega arith) (omega arith) _ _ _ _ _ w.0 refl refl
