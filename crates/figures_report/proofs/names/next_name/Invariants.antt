-- What is kept of a name is within its memory.
use Rattle.std.proofs.Common.{◌≡◌, ◌≤◌, length}
use Rattle.figures_report.proofs.names.next_name.Given as goal

abbrev pub invariant-loop : goal.invariant-loop
invariant-loop g l = (length l.input ≡ length l.initial.input) × (length l.name ≡ length l.initial.name) × (l.len ≤ length l.name)
