-- `galoxumi_text` is right because the check's answer decides the definition too.
use Rattle.library_numbers.proofs.PartLaws.{parted}
use Rattle.galoxumi.proofs.galoxumi_text.Goals as goal

pub returns-clause-text : goal.returns-clause-text
returns-clause-text c =
    let a = c.args in
    let part = rw (c.check_span.ensures.answer, c.new.ensures) at c.part_of.ensures in
    (parted a.doc.now a.start a.end _ part).1
