-- `skip` is right because each turn leaves what stands after the run as it was.
use Rattle.std.proofs.Common.{◌≡◌, ℕ, length, drop, sym, ap, ◌∙◌, arith}
use Rattle.built_values.specs.Answers.{kinds_of}
use Rattle.built_values.proofs.KindLaws.{length_kinds}
use Rattle.built_values.proofs.RunLaws.{past_go, past_stop, past_end}
use Rattle.built_values.proofs.kinds.skip.Goals as goal

pub is_in-requires : goal.is_in-requires
is_in-requires c = omega (arith, length_kinds c.args.records.now)

pub loop-i-preserved : goal.loop-i-preserved
loop-i-preserved c =
    let is = c.args in
    let at = c.loop-i in
    let ks = kinds_of is.records.now in
    sym (past_go is.run ks at.i (omega (arith, length_kinds is.records.now)) (sym c.is_in.ensures ∙ c.if-not-is_in.false))
    ∙ at.invariant

pub returns-then-not-is_in : goal.returns-then-not-is_in
returns-then-not-is_in c =
    let is = c.args in
    let at = c.loop-i in
    let ks = kinds_of is.records.now in
    let few = length_kinds is.records.now in
    let stops = past_stop is.run ks at.i (omega (arith, few)) (sym c.is_in.ensures ∙ c.if-not-is_in.true) in
    record { left = sym stops ∙ at.invariant; place = (omega arith, omega (arith, few)) }

pub returns : goal.returns
returns c =
    let is = c.args in
    let at = c.loop-i in
    let ks = kinds_of is.records.now in
    let few = length_kinds is.records.now in
    let all : at.i ≡ length is.records.now = omega (arith, few) in
    let ends = past_end is.run ks at.i (omega (arith, few)) in
    record {
      left = ap (λ (n : ℕ). drop n ks) (sym all) ∙ sym ends ∙ at.invariant;
      place = (omega (arith, few), omega (arith, few));
    }
