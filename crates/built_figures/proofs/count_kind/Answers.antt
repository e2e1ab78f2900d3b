-- `count_kind` is right because a kind is counted at its own place in the table.
use Rattle.built_figures.proofs.FigureLaws.{kind_at}
use Rattle.built_figures.proofs.count_kind.Goals as goal

pub count_one-requires : goal.count_one-requires
count_one-requires c =
    let slot = c.slot_of in
    let place = kind_at c.args.kind slot.result slot.ensures in
    (place.0, rw place.1 at c.requires)

pub returns : goal.returns
returns c =
    let slot = c.slot_of in
    let place = kind_at c.args.kind slot.result slot.ensures in
    rw place.1 c.count_one.ensures
