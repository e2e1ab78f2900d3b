-- `letter_front` is right because a backslash with such a letter stands there.
use Rattle.std.proofs.Common.{sym, ◌∙◌, arith}
use Rattle.built_fronts.proofs.LineLaws.{sound_letter}
use Rattle.built_fronts.proofs.letter_front.Goals as goal

pub returns : goal.returns
returns c =
    let a = c.args in
    let letter = c.in_ok-letter_char in
    sound_letter a.doc.now a.i (omega arith) (omega arith) letter.field-0 (sym c.letter_char.ensures ∙ letter.was)
