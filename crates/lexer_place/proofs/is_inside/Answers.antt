-- `is_inside` is right because beyond the end stands no byte.
use mathlib.Core.Path.{sym, ◌∙◌}
use native.Mathlib.Omega.{arith}
use Rattle.text_classes.specs.Classes.{continuation}
use Rattle.text_classes.proofs.FirstLaws.{first_there, first_beyond}
use Rattle.lexer_place.proofs.is_inside.Goals as goal

pub returns-then-at-doc : goal.returns-then-at-doc
returns-then-at-doc c =
    let is = c.args in
    c.is_continuation.ensures ∙ sym (first_there continuation is.doc.now is.at (omega arith))

pub returns : goal.returns
returns c =
    let is = c.args in
    sym (first_beyond continuation is.doc.now is.at (omega arith))
