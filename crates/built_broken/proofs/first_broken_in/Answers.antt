-- `first_broken_in` is right because it asks in the order of the refusals: the limit, the edition, then the tokens.
use mathlib.Core.Path.{ap, ◌∙◌}
use Rattle.std.specs.Prelude.{Ok, Err}
use Rattle.std.proofs.lemmas.Result.{err_from_is_err_and}
use Rattle.built_broken.proofs.NumberLaws.{answer_long, answer_by, found}
use Rattle.built_broken.proofs.first_broken_in.Goals as goal

pub returns-then-doc-gt-LIMIT : goal.returns-then-doc-gt-LIMIT
returns-then-doc-gt-LIMIT c = found c.args.doc.now c.args.edition _ (answer_long c.args.doc.now c.args.edition c.if-doc-gt-LIMIT.true)

pub returns-in_err-try_from : goal.returns-in_err-try_from
returns-in_err-try_from c =
    let doc = c.args.doc.now in
    let p = err_from_is_err_and c.from_residual.result c.from_residual.ensures.1 in
    found doc c.args.edition _
    (p.1 ∙ ap Err p.2 ∙ answer_by doc c.args.edition c.if-doc-gt-LIMIT.false (Err _) c.in_err-try_from.ensures)

pub returns : goal.returns
returns c =
    let doc = c.args.doc.now in
    found doc c.args.edition _ (c.find.ensures ∙ answer_by doc c.args.edition c.if-doc-gt-LIMIT.false (Ok _) c.in_ok-try_from.ensures)
