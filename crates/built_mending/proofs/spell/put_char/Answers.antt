-- `put_char` is right because the encoding's answer holds the character's bytes in front, and their count.
use mathlib.Core.Path.{ap}
use mathlib.Core.List.{List}
use Prim.Native.Nat.{ℕ}
use native.Mathlib.Omega.{arith}
use lib.ListN.{length}
use Rattle.text_scalars.proofs.EncodeLaws.{encode_length}
use Rattle.decoder_rules.proofs.EncodedLaws.{encoded_len, encoded_bytes}
use Rattle.built_mending.specs.Mending.{respelt}
use Rattle.built_mending.proofs.spell.put_char.Goals as goal

pub shared_ref_as_front-put_bytes : goal.shared_ref_as_front-put_bytes
shared_ref_as_front-put_bytes c =
    omega (arith, encoded_len c.args.c c.requires.0 c.encode-e.result c.encode-e.ensures, encode_length c.args.c)

pub put_bytes-requires : goal.put_bytes-requires
put_bytes-requires c =
    let a = c.args in
    let e = c.encode-e in
    let same = ap (λ (x : List ℕ). length (respelt x)) (encoded_bytes a.c c.requires.0 e.result e.ensures) in
    omega (arith, same)

pub returns : goal.returns
returns c =
    let a = c.args in
    let e = c.encode-e in
    rw (encoded_bytes a.c c.requires.0 e.result e.ensures) at c.put_bytes.ensures
