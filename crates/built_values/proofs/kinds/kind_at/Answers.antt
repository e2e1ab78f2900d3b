-- `kind_at` is right because the kind is a record's first number.
use mathlib.Core.List.{[]}
use native.Mathlib.Omega.{arith}
use Rattle.built_values.proofs.KindLaws.{length_kinds, kind_is}
use Rattle.built_values.proofs.kinds.kind_at.Goals as goal

pub offset_bounds-records-i : goal.offset_bounds-records-i
offset_bounds-records-i c = omega (arith, length_kinds c.args.records.now)

pub bounds-records-i : goal.bounds-records-i
bounds-records-i c = omega (arith, length_kinds c.args.records.now)

pub returns : goal.returns
returns c =
    let records = c.args.records.now in
    kind_is records c.args.i [] (omega (arith, length_kinds records, c.requires))
