-- `emit` is right because each of the three things that a piece gives has its arm.
use Rattle.std.proofs.Common.{length, ap, arith, length-take-le}
use Rattle.decoder_rules.proofs.PieceLaws.{gives_copy, gives_char, gives_nothing}
use Rattle.decoder_rules.proofs.StoreLaws.{store_none}
use Rattle.decoder_writing.proofs.write.emit.Goals as goal

pub copy_in-requires : goal.copy_in-requires
copy_in-requires c =
    let all = ap length (gives_copy c.args.p c.args.s.now c.in-Copy.is) in
    let fits = c.requires.0.fits in
    (fits, omega (arith, all, length-take-le c.args.p.take c.args.s.now fits))

pub put_char-requires : goal.put_char-requires
put_char-requires c =
    let all = ap length (gives_char c.args.p c.args.s.now c.in-Char.c c.in-Char.is) in
    (rw c.in-Char.is at c.requires.0.char, omega (arith, all))

pub returns-in-Copy : goal.returns-in-Copy
returns-in-Copy c = rw (gives_copy c.args.p c.args.s.now c.in-Copy.is) c.copy_in.ensures

pub returns-in-Char : goal.returns-in-Char
returns-in-Char c = rw (gives_char c.args.p c.args.s.now c.in-Char.c c.in-Char.is) c.put_char.ensures

pub returns-in-Nothing : goal.returns-in-Nothing
returns-in-Nothing c = rw (gives_nothing c.args.p c.args.s.now c.in-Nothing.is) (store_none _ _)
