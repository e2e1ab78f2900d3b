-- `char_front` is right because each of its sizes is that of a character that stands for itself, or of an escape of one letter.
use Rattle.std.proofs.Common.{sym, ◌∙◌, arith}
use Rattle.built_fronts.proofs.LineLaws.{sound_plain, sound_wide_if}
use Rattle.built_fronts.proofs.char_front.Goals as goal

pub returns-then-b-ge128 : goal.returns-then-b-ge128
returns-then-b-ge128 c =
    let a = c.args in
    sound_wide_if a.line a.doc.now a.i c.wide_at.result c.wide_at.ensures

pub returns-then-is_plain_in : goal.returns-then-is_plain_in
returns-then-is_plain_in c =
    let a = c.args in
    sound_plain a.line a.doc.now a.i (omega arith) (omega arith) (sym c.is_plain_in.ensures ∙ c.if-is_plain_in.true)
