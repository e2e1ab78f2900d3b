-- `read_file` ends, since each turn leaves less to fill.
use Rattle.std.proofs.Common.{◌≡◌, ◌-◌, ◌≤◌, length}
use Rattle.figures_report.proofs.files.read_file.Given as goal

abbrev pub invariant-loop-len : goal.invariant-loop-len
invariant-loop-len g l = (length l.doc ≡ length l.initial.doc) × (l.len ≤ length l.doc)

abbrev pub decreases-loop-len : goal.decreases-loop-len
decreases-loop-len g l = length l.doc - l.len
