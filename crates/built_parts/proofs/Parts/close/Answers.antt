-- `close` is right because it answers by what the closing word came to.
use mathlib.Core.Path.{◌∙◌}
use Rattle.built_parts.proofs.NumberLaws.{closed_numbers}
use Rattle.built_parts.proofs.Parts.close.Goals as goal

pub returns : goal.returns
returns c =
    let ended = c.ended-outcome.ensures in
    closed_numbers c.args.self c.args.records.now c.answered.result c.ended-outcome.new.records
    (record { answer = c.answered.ensures ∙ ended.answer; memory = ended.memory })
