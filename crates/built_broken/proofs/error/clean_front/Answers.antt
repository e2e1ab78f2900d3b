-- `clean_front` is right because a run that ends before its eighth byte is the whole run, and so the rule's piece; and an escape
-- that is read off is one too.
use native.Mathlib.Omega.{arith}
use borrow.Author.Tests.{not-true}
use Rattle.built_broken.proofs.ErrorLaws.{few_front}
use Rattle.built_broken.proofs.error.clean_front.Goals as goal

pub returns-then-few-gt0 : goal.returns-then-few-gt0
returns-then-few-gt0 c =
    let a = c.args in
    few_front a.e a.body _ _ (not-true _ c.if-not-body.true) c.plain_few-few.ensures (omega arith) c.if-few-eq8.false
