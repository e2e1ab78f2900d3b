-- `width` is right because each way to give bytes has its arm.
use Rattle.std.proofs.Common.{sym, length-take-le}
use Rattle.decoder_rules.proofs.PieceLaws.{gives_copy, gives_char, gives_nothing}
use Rattle.decoder_rules.proofs.EncodedLaws.{encoded_len}
use Rattle.decoder_reading.proofs.width.Goals as goal

pub returns-in-Copy : goal.returns-in-Copy
returns-in-Copy c =
    λ s fits.
    let p = c.args.p in
    rw (gives_copy p s c.in-Copy.is) (sym (length-take-le p.take s fits))

pub returns-in-Char : goal.returns-in-Char
returns-in-Char c =
    λ s fits.
    let scalar = rw c.in-Char.is at c.requires in
    rw (gives_char c.args.p s c.in-Char.c c.in-Char.is) (encoded_len _ scalar c.encode.result c.encode.ensures)

pub returns-in-Nothing : goal.returns-in-Nothing
returns-in-Nothing c = λ s fits. rw (gives_nothing c.args.p s c.in-Nothing.is)
