-- `no_literal` is right because a byte that no test finds may stand in a literal string.
use Rattle.std.proofs.Common.{sym, ◌∙◌, arith}
use Rattle.built_writing.proofs.WeighLaws.{literal_else}
use Rattle.built_writing.proofs.weigh.no_literal.Goals as goal

pub returns-in_default : goal.returns-in_default
returns-in_default c =
    let no = sym c.is_control.ensures ∙ c.if-is_control.false in
    λ h. literal_else c.args.b (omega arith) no c.in_default.in_default-own.rest.1
