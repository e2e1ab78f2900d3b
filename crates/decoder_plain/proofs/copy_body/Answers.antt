-- `copy_body` is right because the parts reach from the front to the end, and the last reaches back over what is copied.
-- The invariant: of the n bytes those before i are copied.
use Rattle.std.proofs.Common.{◌+◌, ◌-◌, ◌<◌, ◌≤◌, inl, inr, arith, rules}
use Rattle.decoder_rules.proofs.PlainLaws.{Held, held_none, held_part, held_pair, held_all}
use Rattle.decoder_plain.proofs.copy_body.Goals as goal

pub shape_of-output-then-n-lt4 : goal.shape_of-output-then-n-lt4
shape_of-output-then-n-lt4 c = c.copy_few.ensures.long

pub returns-then-n-lt4 : goal.returns-then-n-lt4
returns-then-n-lt4 c =
    let a = c.args in
    held_all a.text.now a.output.now a.n a.n _ (omega arith) (omega arith) (omega arith) c.copy_few.ensures

pub copy_part-requires-then-n-lt8 : goal.copy_part-requires-then-n-lt8
copy_part-requires-then-n-lt8 c = omega (arith, c.copy_part.ensures.long)

pub shape_of-output-then-n-lt8 : goal.shape_of-output-then-n-lt8
shape_of-output-then-n-lt8 c = omega (arith, c.copy_part.ensures.long, c.copy_part-then-n-lt8.ensures.long)

pub returns-then-n-lt8 : goal.returns-then-n-lt8
returns-then-n-lt8 c =
    let a = c.args in
    let t = a.text.now in
    let o = a.output.now in
    let n = a.n in
    let h = held_part t o n 0 4 0 4 o _ (omega arith) (omega arith) (inl (omega arith)) (held_none t o n) c.copy_part.ensures in
    let all = held_part t o n 4 n (n - 4) 4 _ _ (omega arith) (omega arith) (inl (omega arith)) h c.copy_part-then-n-lt8.ensures in
    held_all t o n n _ (omega arith) (omega arith) (omega arith) all

pub loop-i-init : goal.loop-i-init
loop-i-init c = held_none c.args.text.now c.args.output.now c.args.n

pub copy_part-requires-in-loop-i : goal.copy_part-requires-in-loop-i
copy_part-requires-in-loop-i c = omega (arith, c.min.ensures)

pub copy_part-requires-in-loop-i-2 : goal.copy_part-requires-in-loop-i-2
copy_part-requires-in-loop-i-2 c = omega (arith, c.min-in-loop-i.ensures, c.copy_part-in-loop-i.ensures.long)

pub loop-i-preserved : goal.loop-i-preserved
loop-i-preserved c =
    let a = c.args in
    let at = c.loop-i in
    held_pair a.text.now a.output.now a.n at.i (a.n - 8) _ _ _ _ _ (omega arith) c.min.ensures c.min-in-loop-i.ensures
    at.invariant c.copy_part-in-loop-i.ensures c.copy_part-in-loop-i-2.ensures

pub shape_of-output : goal.shape_of-output
shape_of-output c = c.loop-i.invariant.long

pub returns : goal.returns
returns c =
    let a = c.args in
    let at = c.loop-i in
    held_all a.text.now a.output.now a.n at.i _ (omega arith) (omega arith) (omega arith) at.invariant
