-- `is_edition` is right because a number that is read as an edition names it.
use Rattle.std.proofs.Common.{sym, ◌∙◌}
use Rattle.decoder.proofs.AtOnceLaws.{named_by}
use Rattle.decoder.proofs.is_edition.Goals as goal

pub returns : goal.returns
returns c = λ ok. named_by c.args.number _ (sym c.is_ok.ensures.value ∙ ok) c.try_from.ensures
