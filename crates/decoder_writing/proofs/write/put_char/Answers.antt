-- `put_char` is right because a character of one byte is that byte, and of any other the encoding's answer holds the bytes in
-- front, and their count.
use mathlib.Core.Path.{refl, ap}
use native.Mathlib.Omega.{arith}
use lib.ListN.{length}
use Rattle.text_scalars.proofs.EncodeLaws.{encode_1}
use Rattle.decoder_rules.proofs.EncodedLaws.{encoded_len, encoded_fits, encoded_few, encoded_bytes}
use Rattle.decoder_writing.proofs.write.put_char.Goals as goal

pub bounds-output-o : goal.bounds-output-o
bounds-output-o c = omega (arith, ap length (encode_1 c.args.c c.if-c-lt128.true))

pub returns-then-c-lt128 : goal.returns-then-c-lt128
returns-then-c-lt128 c = rw (encode_1 c.args.c c.if-c-lt128.true) (record { place = refl; holds = refl })

pub copy_few-requires : goal.copy_few-requires
copy_few-requires c =
    let e = c.encode-e in (
      encoded_few c.args.c c.requires.0 e.result e.ensures,
      encoded_fits c.args.c c.requires.0 e.result e.ensures,
      omega (arith, encoded_len c.args.c c.requires.0 e.result e.ensures),
    )

pub returns : goal.returns
returns c =
    let e = c.encode-e in
    rw (encoded_bytes c.args.c c.requires.0 e.result e.ensures) at c.copy_few.ensures
