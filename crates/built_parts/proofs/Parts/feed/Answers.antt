-- `feed` is right because it answers by what the part came to.
use mathlib.Core.Path.{◌∙◌}
use Rattle.built_parts.proofs.NumberLaws.{fed_numbers}
use Rattle.built_parts.proofs.Parts.feed.Goals as goal

pub returns : goal.returns
returns c =
    let taken = c.taken-outcome.ensures in
    fed_numbers c.args.self c.args.part.now c.args.records.now c.answered.result c.taken-outcome.new.records
    (record { answer = c.answered.ensures ∙ taken.answer; memory = taken.memory })
