use mathlib.Core.Path.{◌≡◌}
use Prim.Native.Nat.{◌≤◌}
use lib.ListN.{length}
use Rattle.decoder_pieces.specs.Steps.{body_bytes, errors_left}
use Rattle.built_broken.proofs.error.error_from.Given as goal

abbrev pub invariant-loop-body : goal.invariant-loop-body
invariant-loop-body l = record {
  fits : l.body.end ≤ length l.text;
  same : errors_left l.e l.text l.body ≡ errors_left l.e l.text l.initial.body;
}

abbrev pub decreases-loop-body : goal.decreases-loop-body
decreases-loop-body l = length (body_bytes l.body l.text)
