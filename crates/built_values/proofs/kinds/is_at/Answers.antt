-- `is_at` is right because a token stands at a place below their number, and nowhere else.
use Rattle.std.proofs.Common.{ℕ, sym, ap, ◌∙◌, arith}
use borrow.Author.Tests.{le-ltb}
use lib.Dec.{eqb}
use Rattle.text_classes.proofs.FirstLaws.{first_there, first_beyond}
use Rattle.built_values.specs.Answers.{kinds_of}
use Rattle.built_values.proofs.KindLaws.{length_kinds}
use Rattle.built_values.proofs.kinds.is_at.Goals as goal

pub kind_at-requires : goal.kind_at-requires
kind_at-requires c = omega (arith, length_kinds c.args.records.now)

pub returns-then-i-records : goal.returns-then-i-records
returns-then-i-records c =
    let is = c.args in
    ap (λ (k : ℕ). eqb k is.kind) c.kind_at.ensures
    ∙ sym (first_there (λ k. eqb k is.kind) (kinds_of is.records.now) is.i (omega (arith, length_kinds is.records.now)))

pub returns-else-i-records : goal.returns-else-i-records
returns-else-i-records c =
    let is = c.args in
    le-ltb _ _ c.if-i-records.false
    ∙ sym (first_beyond (λ k. eqb k is.kind) (kinds_of is.records.now) is.i (omega (arith, length_kinds is.records.now)))
