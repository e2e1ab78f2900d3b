-- `tally` is right because the figures are the document's, and are added where each sum fits.
use mathlib.Core.Path.{sym, ap, ◌∙◌}
use borrow.Author.Rules.{rules}
use Rattle.built_figures.proofs.AddLaws.{each_fits}
use Rattle.built_figures.proofs.AnswerLaws.{outcome, answered, refused}
use Rattle.built_figures.proofs.NumberLaws.{numbers}
use Rattle.built_figures.proofs.tally.Goals as goal

pub returns-then-not-fits : goal.returns-then-not-fits
returns-then-not-fits c =
    let doc = c.args.doc.now in
    numbers doc c.args.totals _ (refused doc c.args.totals _ _ c.count_in-verdict.ensures (sym c.fits.ensures ∙ c.if-not-fits.true))

pub add_in-requires : goal.add_in-requires
add_in-requires c = (search rules, each_fits _ (sym c.fits.ensures ∙ c.if-not-fits.false))

pub returns : goal.returns
returns c =
    let doc = c.args.doc.now in
    let fit = sym c.fits.ensures ∙ c.if-not-fits.false in
    numbers doc c.args.totals _
    (ap (outcome doc c.count_in-verdict.result) c.add_in.ensures ∙ answered doc c.args.totals _ _ c.count_in-verdict.ensures fit)
