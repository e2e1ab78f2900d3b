-- `char_width` is right because the encoding's answer holds the character's bytes in front, and their count.
use mathlib.Core.Path.{◌∙◌, ap}
use mathlib.Core.List.{List}
use Prim.Native.Nat.{ℕ}
use native.Mathlib.Omega.{arith}
use lib.ListN.{length, length-take}
use Rattle.text_scalars.proofs.EncodeLaws.{encode_length}
use Rattle.decoder_rules.proofs.EncodedLaws.{encoded_len, encoded_few, encoded_bytes}
use Rattle.built_mending.specs.Mending.{respelt}
use Rattle.built_mending.proofs.spell.char_width.Goals as goal

pub shared_ref_as_front-width_of : goal.shared_ref_as_front-width_of
shared_ref_as_front-width_of c =
    omega (arith, encoded_len c.args.c c.requires c.encode-e.result c.encode-e.ensures, encode_length c.args.c)

pub width_of-requires : goal.width_of-requires
width_of-requires c =
    let a = c.args in
    let e = c.encode-e in
    omega (arith, length-take e.result.len e.result.bytes, encoded_few a.c c.requires e.result e.ensures)

pub returns : goal.returns
returns c =
    let a = c.args in
    let e = c.encode-e in
    c.width_of.ensures ∙ ap (λ (x : List ℕ). length (respelt x)) (encoded_bytes a.c c.requires e.result e.ensures)
