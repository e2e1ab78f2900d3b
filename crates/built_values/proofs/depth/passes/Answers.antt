-- `passes` is right because the difference passes the depth just where the larger number does with the depth added.
use Rattle.std.proofs.Common.{◌+◌, ◌-◌, ap, ◌∙◌, arith}
use lib.Dec.{ltb}
use Rattle.built_values.proofs.DepthLaws.{same_test}
use Rattle.built_values.proofs.depth.passes.Goals as goal

pub returns : goal.returns
returns c =
    let opened = c.args.opened in
    let closed = c.args.closed in
    ap (ltb 64) c.saturating_sub.ensures
    ∙ same_test 64 (opened - closed) (closed + 64) opened (λ h. omega arith) (λ h. omega arith)
