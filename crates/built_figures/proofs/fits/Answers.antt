-- `fits` is right because a figure is at most what a total leaves just where their sum fits.
use Rattle.std.proofs.Common.{◌-◌, ◌≤◌, get_or, rules, arith}
use Rattle.std.specs.Prelude.{IsTrue, ◌↔◌, EachIndex}
use Rattle.text_refusals.specs.Refusals.{greatest}
use Rattle.built_figures.proofs.AddLaws.{fits_told}
use Rattle.built_figures.proofs.fits.Goals as goal

pub returns : goal.returns
returns c =
    let totals = c.args.totals.now in
    let figures = c.args.figures.now in
    let told : IsTrue c.all.result ↔ EachIndex totals (λ i. get_or figures i 0 ≤ greatest - get_or totals i 0) = search rules in
    fits_told totals figures c.all.result c.requires (λ i. omega (arith, c.type_inv.totals i)) told
