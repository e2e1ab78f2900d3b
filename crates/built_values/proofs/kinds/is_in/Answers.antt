-- `is_in` is right because each run has its test, and only a comment looks at the token after it.
use Prim.Native.Nat.{ℕ}
use mathlib.Core.Path.{ap, ◌∙◌}
use native.Mathlib.Omega.{arith}
use lib.Dec.{eqb}
use Rattle.built_values.proofs.KindLaws.{length_kinds}
use Rattle.built_values.proofs.kinds.is_in.Goals as goal

pub overflow_add-i : goal.overflow_add-i
overflow_add-i c = omega (arith, length_kinds c.args.records.now)

pub returns-in-Blanks : goal.returns-in-Blanks
returns-in-Blanks c =
    let is = c.args in
    let kind_at = c.kind_at-kind in
    ap (λ (k : ℕ). eqb k 32) kind_at.ensures ∙ rw c.in-Blanks.is

pub returns-in-Lines : goal.returns-in-Lines
returns-in-Lines c =
    let kind_at = c.kind_at-kind in
    let is_at = c.is_at in
    let is-line-part = c.is_line_part in
    is-line-part.ensures ∙ rw (kind_at.ensures, is_at.ensures, c.in-Lines.is)

pub returns-in-Parts : goal.returns-in-Parts
returns-in-Parts c =
    let kind_at = c.kind_at-kind in
    let is-scalar-part = c.is_scalar_part in
    is-scalar-part.ensures ∙ rw (kind_at.ensures, c.in-Parts.is)
