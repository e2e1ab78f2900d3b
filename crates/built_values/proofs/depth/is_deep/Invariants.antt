use Rattle.std.proofs.Common.{◌≡◌, ◌≤◌, drop}
use Rattle.built_values.specs.Answers.{kinds_of}
use Rattle.built_values.specs.Told.{deep_from}
use Rattle.built_values.proofs.depth.is_deep.Given as goal

abbrev pub invariant-loop-i : goal.invariant-loop-i
invariant-loop-i l = record {
  few_opened : l.opened ≤ l.i;
  few_closed : l.closed ≤ l.i;
  same : deep_from 0 0 (kinds_of l.records) ≡ deep_from l.opened l.closed (drop l.i (kinds_of l.records));
}
