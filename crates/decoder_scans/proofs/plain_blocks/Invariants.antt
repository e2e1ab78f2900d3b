use Rattle.std.proofs.Common.{◌-◌, length}
use Rattle.text_classes.specs.Runs.{run}
use Rattle.text_classes.proofs.RunLaws.{SameEnd}
use Rattle.decoder_rules.specs.Encodings.{plain}
use Rattle.decoder_scans.proofs.plain_blocks.Given as goal

abbrev pub invariant-loop-i : goal.invariant-loop-i
invariant-loop-i g l = SameEnd (run (plain g.S.Scanned.of)) l.s l.start l.i

abbrev pub decreases-loop-i : goal.decreases-loop-i
decreases-loop-i g l = length l.s - l.i
