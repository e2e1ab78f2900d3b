-- Where no bit is set, a literal string could hold all bytes so far, and the marks are what they have more.
use Rattle.std.proofs.Common.{◌≡◌, ◌+◌, ◌<◌, ◌≤◌, length, take}
use Rattle.text_classes.specs.Classes.{literal_char}
use Rattle.text_classes.specs.Runs.{run}
use Rattle.built_writing.specs.Writing.{spelt}
use Rattle.built_writing.proofs.weigh.marks_in.Given as goal

abbrev pub invariant-loop-b : goal.invariant-loop-b
invariant-loop-b l =
    (l.marks ≤ l.b-index)
    × (l.bits < 0x80 → (run literal_char (take l.b-index l.block) ≡ l.b-index) × (length (spelt (take l.b-index l.block)) ≡ l.b-index + l.marks))
