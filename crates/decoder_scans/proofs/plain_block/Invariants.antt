-- The j bytes passed are plain while no flag is set.
use Rattle.std.proofs.Common.{◌≡◌, false}
use Rattle.text_classes.proofs.RunLaws.{Block}
use Rattle.decoder_rules.specs.Encodings.{plain}
use Rattle.decoder_scans.proofs.plain_block.Given as goal

abbrev pub invariant-loop-j : goal.invariant-loop-j
invariant-loop-j g l =
    l.first ≡ false → l.second ≡ false → l.delete ≡ false → l.low ≡ false → l.mid ≡ false → Block (plain g.S.Scanned.of) l.s l.i l.j
