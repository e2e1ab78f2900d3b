-- `copy_few` is right because of up to three bytes each is the first, the middle one or the last.
use Rattle.std.proofs.Common.{◌+◌, ◌-◌, ◌/◌, inl, arith}
use Rattle.decoder_rules.proofs.PlainLaws.{held_none, held_part}
use Rattle.decoder_plain.proofs.copy_few.Goals as goal

pub returns : goal.returns
returns c =
    let t = c.args.text.now in
    let o = c.args.output.now in
    let n = c.args.n in
    let h1 = held_part t o n 0 1 0 1 o _ (omega arith) (omega arith) (inl (omega arith)) (held_none t o n) c.copy_part.ensures in
    let h2 = held_part t o n 1 (n / 2 + 1) (n / 2) 1 _ _ (omega arith) (omega arith) (inl (omega arith)) h1 c.copy_part-2.ensures in
    held_part t o n (n / 2 + 1) n (n - 1) 1 _ _ (omega arith) (omega arith) (inl (omega arith)) h2 c.copy_part-3.ensures
