-- The measure is twice the tokens left, and one more for `value` and `keyval`, which call the others at their own place.
use Rattle.std.proofs.Common.{true, ◌+◌, ◌-◌, ◌*◌, length}
use Rattle.built_values.specs.Answers.{kinds_of}
use Rattle.built_values.proofs.LoopLaws.{Going}
use Rattle.built_values.proofs.ArrayLaws.{arrays, tables}
use Rattle.built_values.proofs.check.+array_inline_table_keyval_value.Given as goal

abbrev pub decreases-array : goal.decreases-array
decreases-array l = 2 * (length (kinds_of l.records.now) - l.at)

abbrev pub decreases-inline_table : goal.decreases-inline_table
decreases-inline_table l = 2 * (length (kinds_of l.records.now) - l.at)

abbrev pub decreases-keyval : goal.decreases-keyval
decreases-keyval l = 2 * (length (kinds_of l.records.now) - l.at) + 1

abbrev pub decreases-value : goal.decreases-value
decreases-value l = 2 * (length (kinds_of l.records.now) - l.at) + 1

abbrev pub invariant-array-loop-p : goal.invariant-array-loop-p
invariant-array-loop-p l = Going (arrays l.v) (kinds_of l.records) l.at l.level l.p true

abbrev pub decreases-array-loop-p : goal.decreases-array-loop-p
decreases-array-loop-p l = length (kinds_of l.records) - l.p

abbrev pub invariant-inline_table-loop-p : goal.invariant-inline_table-loop-p
invariant-inline_table-loop-p l = Going (tables l.v) (kinds_of l.records) l.at l.level l.p l.shuts

abbrev pub decreases-inline_table-loop-p : goal.decreases-inline_table-loop-p
decreases-inline_table-loop-p l = length (kinds_of l.records) - l.p
