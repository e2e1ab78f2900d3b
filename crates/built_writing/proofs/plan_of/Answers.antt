-- `plan_of` is right because no text is longer than six bytes for each byte of the value, and two marks.
use Rattle.std.proofs.Common.{◌∙◌, arith}
use Rattle.built_writing.proofs.SpellLaws.{spelt_six}
use Rattle.built_writing.proofs.plan_of.Goals as goal

pub returns-else-plain_run-value : goal.returns-else-plain_run-value
returns-else-plain_run-value c =
    let v = c.args.value.now in
    let other = c.if-plain_run-value.false in
    (λ e. other (c.plain_run.ensures ∙ e), omega (arith, spelt_six v))
