-- `count_error` is right because an error is counted at the place of its number, and no error adds nothing.
use mathlib.Core.Path.{sym, ap, ◌∙◌}
use native.Mathlib.Omega.{arith}
use Rattle.std.specs.Prelude.{Option}
use Rattle.decoder_rules.specs.declared.Wrong.{Wrong}
use Rattle.decoder_rules.specs.Pieces.{notes_of}
use Rattle.built_figures.specs.Figures.{added}
use Rattle.built_figures.specs.Counting.{error_figures}
use Rattle.built_figures.proofs.FigureLaws.{error_at, none_added}
use Rattle.built_figures.proofs.count_error.Goals as goal

pub overflow_add-number : goal.overflow_add-number
overflow_add-number c = omega (arith, (error_at c.in-Some.wrong.error c.number.result c.number.ensures).0)

pub count_one-requires : goal.count_one-requires
count_one-requires c =
    let at = error_at c.in-Some.wrong.error c.number.result c.number.ensures in
    let place = ap (λ (v : Option Wrong). error_figures (notes_of v)) c.in-Some.is ∙ at.1 in
    (at.0, rw place at c.requires)

pub returns-in_default : goal.returns-in_default
returns-in_default c =
    let none = none_added c.args.figures.now c.requires.long in
    sym (ap (λ (v : Option Wrong). added c.args.figures.now (error_figures (notes_of v))) c.in_default.is ∙ none)

pub returns-in-Some : goal.returns-in-Some
returns-in-Some c =
    let at = error_at c.in-Some.wrong.error c.number.result c.number.ensures in
    let place = ap (λ (v : Option Wrong). error_figures (notes_of v)) c.in-Some.is ∙ at.1 in
    rw place c.count_one.ensures
