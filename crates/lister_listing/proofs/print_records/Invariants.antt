use Rattle.std.proofs.Common.{◌≡◌, ◌≤◌, length}
use Rattle.lister_listing.proofs.print_records.Given as goal

abbrev pub invariant-loop-r : goal.invariant-loop-r
invariant-loop-r g l = (l.at ≤ 16384) × (length l.lines ≡ 16384)
