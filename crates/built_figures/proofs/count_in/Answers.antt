-- `count_in` is right because what a document adds goes by its length and then by the check.
use Prim.Native.Nat.{ℕ}
use mathlib.Core.Path.{sym, ap, ◌∙◌}
use mathlib.Core.List.{List}
use native.Mathlib.Omega.{arith}
use lib.ListN.{length, set}
use Rattle.built_figures.proofs.AnswerLaws.{long, short}
use Rattle.built_figures.proofs.count_in.Goals as goal

pub bounds-figures-32 : goal.bounds-figures-32
bounds-figures-32 c = omega (arith, ap length c.requires)

pub returns-then-doc-gt-MOST : goal.returns-then-doc-gt-MOST
returns-then-doc-gt-MOST c =
    let is = long c.args.doc.now c.if-doc-gt-MOST.true in
    record { verdict = sym is.verdict; figures = ap (λ (r : List ℕ). set r 32 1) c.requires ∙ sym is.figures }

pub bounds-figures-31 : goal.bounds-figures-31
bounds-figures-31 c = omega (arith, ap length c.requires)

pub returns-in-Err : goal.returns-in-Err
returns-in-Err c =
    let check = sym c.check_utf8.ensures.answer ∙ c.in-Err.is in
    let is = short c.args.doc.now c.if-doc-gt-MOST.false _ check in
    record { verdict = sym is.verdict; figures = ap (λ (r : List ℕ). set r 31 1) c.requires ∙ sym is.figures }

pub returns : goal.returns
returns c =
    let check = sym c.check_utf8.ensures.answer ∙ c.in_default.is in
    let is = short c.args.doc.now c.if-doc-gt-MOST.false _ check in
    record { verdict = sym is.verdict; figures = c.count_tokens.ensures ∙ sym is.figures }
