-- `fill` is right because what was stored and what is still given make up, at each turn, what the whole part gives.
-- The measure is what is left of the part.
use native.Mathlib.Omega.{arith}
use Rattle.built_lexing.proofs.CountLaws.{given_few, given_one}
use Rattle.built_lexing.proofs.PartLaws.{underway, few_stored, leapt, stepped, arrived}
use Rattle.built_lexing.proofs.WholeLaws.{leapt_passed}
use Rattle.built_lexing.proofs.fill.Goals as goal

pub turns-init : goal.turns-init
turns-init c = underway c.args.part.now c.args.lexing c.args.records.now c.requires.1

pub leap-leapt-requires : goal.leap-leapt-requires
leap-leapt-requires c =
    let u = c.turns.invariant in
    (u.within, omega (arith, u.at, u.within, c.requires.0), u.low)

pub put-n-requires : goal.put-n-requires
put-n-requires c =
    let u = c.turns.invariant in
    omega (arith, few_stored c.args.part.now c.args.lexing c.args.records.now u, c.requires.0)

pub take_tokens-passed-requires : goal.take_tokens-passed-requires
take_tokens-passed-requires c =
    let a = c.args in
    let r = c.leap-leapt in
    let p = c.put-n in
    let v = leapt a.part.now a.lexing a.records.now c.turns.invariant r.result r.ensures p.result p.new.records p.ensures.count p.ensures.memory in
    let few = given_few a.lexing a.part.now in
    (v.within, omega (arith, v.at, v.within, c.requires.0), v.low, omega (arith, v.stored.count, few, c.requires.0))

pub returns-then-part-passed : goal.returns-then-part-passed
returns-then-part-passed c =
    let a = c.args in
    let put = c.put-n.ensures in
    let w = leapt_passed a.part.now c.turns.invariant c.leap-leapt.ensures put.count put.memory c.take_tokens-passed.ensures in
    arrived a.part.now a.lexing a.records.now w (omega arith)

pub step-moved-requires : goal.step-moved-requires
step-moved-requires c =
    let a = c.args in
    let put = c.put-n.ensures in
    let w = leapt_passed a.part.now c.turns.invariant c.leap-leapt.ensures put.count put.memory c.take_tokens-passed.ensures in
    (omega (arith, w.at, c.requires.0, c.if-part-passed.false), w.low)

pub put-n-requires-in-turns : goal.put-n-requires-in-turns
put-n-requires-in-turns c =
    let a = c.args in
    let put = c.put-n.ensures in
    let w = leapt_passed a.part.now c.turns.invariant c.leap-leapt.ensures put.count put.memory c.take_tokens-passed.ensures in
    omega (arith, few_stored a.part.now a.lexing a.records.now w, c.requires.0)

pub put-n-requires-in-turns-2 : goal.put-n-requires-in-turns-2
put-n-requires-in-turns-2 c =
    let a = c.args in
    let put = c.put-n.ensures in
    let w = leapt_passed a.part.now c.turns.invariant c.leap-leapt.ensures put.count put.memory c.take_tokens-passed.ensures in
    omega (arith, few_stored a.part.now a.lexing a.records.now w, c.requires.0, c.put-n-in-turns.ensures.count, given_one c.step-moved.result.before)

pub turns-preserved : goal.turns-preserved
turns-preserved c =
    let a = c.args in
    let put = c.put-n.ensures in
    let w = leapt_passed a.part.now c.turns.invariant c.leap-leapt.ensures put.count put.memory c.take_tokens-passed.ensures in
    let x = c.put-n-in-turns in
    let y = c.put-n-in-turns-2 in
    stepped a.part.now a.lexing a.records.now w (omega (arith, c.if-part-passed.false)) c.step-moved.result c.step-moved.ensures
    x.result y.result x.new.records y.new.records x.ensures.count x.ensures.memory y.ensures.count y.ensures.memory
