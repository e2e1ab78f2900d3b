-- `is_value_in` is right because its tests stand in the order of the rule's refusals.
use Rattle.std.proofs.lemmas.Result.{err_from_is_err_and}
use mathlib.Core.Logic.{inl, inr}
use Rattle.decoder_rules.proofs.EditionNumbers.{named_number}
use Rattle.built_values.specs.Answers.{Named, ValueAnswer}
use Rattle.built_values.proofs.NumberLaws.{unnamed_by, told}
use Rattle.built_values.proofs.is_value_in.Goals as goal

pub returns-then-n-end : goal.returns-then-n-end
returns-then-n-end c = told (ValueAnswer.outside (inl c.if-n-end.true))

pub returns-then-end-start : goal.returns-then-end-start
returns-then-end-start c = told (ValueAnswer.outside (inr c.if-end-start.true))

pub returns-in_err-try_from : goal.returns-in_err-try_from
returns-in_err-try_from c =
    let is = c.args in
    let p = err_from_is_err_and c.from_residual.result c.from_residual.ensures.1 in
    let refused = unnamed_by is.edition _ _ c.in_err-try_from.ensures in
    told (ValueAnswer.within c.if-n-end.false c.if-end-start.false (rw (p.1, p.2) refused))

pub returns : goal.returns
returns c =
    let is = c.args in
    let named = named_number is.edition _ c.in_ok-try_from.ensures in
    told (ValueAnswer.within c.if-n-end.false c.if-end-start.false (Named.named _ named c.judge.ensures))
