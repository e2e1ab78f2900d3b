-- A character's bytes, as the encoding's answer holds them.
-- Assumes nothing.
use Prim.Native.Nat.{ℕ, ◌-◌, ◌≤◌}
use mathlib.Core.Path.{◌≡◌, ap, ◌∙◌}
use native.Mathlib.Omega.{arith}
use lib.ListN.{length, take, replicate, length-append}
use lib.Seq.{take-append_seam}
use Rattle.text_scalars.specs.declared.Encoded.{Encoded}
use Rattle.text_scalars.specs.Utf8.{Scalar, encode_scalar}
use Rattle.text_scalars.specs.Encode.{padded, encoded_of}
use Rattle.text_scalars.proofs.EncodeLaws.{scalar_true, encode_length}

module _ (c : ℕ) (h : Scalar c) (e : Encoded) (f : e ≡ encoded_of c) where
  encoded_is : e ≡ padded (encode_scalar c)
  unfolding encoded_of
  encoded_is = rw (scalar_true c h) at f

  pub encoded_len : e.len ≡ length (encode_scalar c)
  encoded_len = ap (λ (x : Encoded). x.len) encoded_is

  pub encoded_fits : e.len ≤ length e.bytes
  encoded_fits =
      let all = ap (λ (x : Encoded). length x.bytes) encoded_is in
      omega (arith, encoded_len, all, length-append (encode_scalar c) (replicate (4 - length (encode_scalar c)) 0))

  pub encoded_few : e.len ≤ 16
  encoded_few = omega (arith, encoded_len, encode_length c)

  pub encoded_bytes : take e.len e.bytes ≡ encode_scalar c
  encoded_bytes =
      ap (λ (x : Encoded). take x.len x.bytes) encoded_is
      ∙ take-append_seam (encode_scalar c) (replicate (4 - length (encode_scalar c)) 0)
