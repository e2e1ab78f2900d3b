-- `sound_at` is right because a run of plain bytes, outside a line-ending escape, and an escape that stands for a character are
-- each the rule's piece, and neither has an error.
use Rattle.built_figures.proofs.BodyLaws.{plain_sound, escape_sound}
use Rattle.built_figures.proofs.sound_at.Goals as goal

pub returns-then-n-gt0 : goal.returns-then-n-gt0
returns-then-n-gt0 c = λ h.
    let a = c.args in
    let run = c.plain_run-n in
    rw c.if-not-dropping.true (plain_sound a.e a.s.now run.result run.ensures h)

pub returns-in-Some : goal.returns-in-Some
returns-in-Some c = λ h.
    let a = c.args in
    escape_sound a.e a.dropping a.s.now _ c.in-Some.ensures
