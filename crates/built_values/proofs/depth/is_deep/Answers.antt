-- `is_deep` is right because each turn counts one kind more, and stops where the count passes the depth.
use Rattle.std.proofs.Common.{refl, sym, ap, ◌∙◌, arith}
use Rattle.built_values.specs.Depth.{is_opening, is_closing}
use Rattle.built_values.specs.Answers.{kinds_of}
use Rattle.built_values.proofs.KindLaws.{length_kinds}
use Rattle.built_values.proofs.DepthLaws.{counted, deep_now, deep_later, deep_never}
use Rattle.built_values.proofs.depth.is_deep.Goals as goal

pub kind_at-kind-requires : goal.kind_at-kind-requires
kind_at-kind-requires c = omega (arith, length_kinds c.args.records.now)

pub returns-then-passes : goal.returns-then-passes
returns-then-passes c =
    let at = c.loop-i in
    let ks = kinds_of c.args.records.now in
    let o = counted _ _ _ c.from-opened.ensures (c.is_opening.ensures ∙ ap is_opening c.kind_at-kind.ensures) in
    let k = counted _ _ _ c.from-closed.ensures (c.is_closing.ensures ∙ ap is_closing c.kind_at-kind.ensures) in
    sym (at.invariant.same
    ∙ deep_now ks at.i at.opened at.closed _ _ (omega (arith, length_kinds c.args.records.now)) o.0 k.0
    (sym c.passes.ensures ∙ c.if-passes.true))

pub overflow_add-opened : goal.overflow_add-opened
overflow_add-opened c = omega (arith, (counted _ _ _ c.from-opened.ensures refl).1)

pub overflow_add-closed : goal.overflow_add-closed
overflow_add-closed c = omega (arith, (counted _ _ _ c.from-closed.ensures refl).1)

pub loop-i-preserved : goal.loop-i-preserved
loop-i-preserved c =
    let at = c.loop-i in
    let ks = kinds_of c.args.records.now in
    let o = counted _ _ _ c.from-opened.ensures (c.is_opening.ensures ∙ ap is_opening c.kind_at-kind.ensures) in
    let k = counted _ _ _ c.from-closed.ensures (c.is_closing.ensures ∙ ap is_closing c.kind_at-kind.ensures) in
    record {
      few_opened = omega (arith, o.1);
      few_closed = omega (arith, k.1);
      same = at.invariant.same
          ∙ deep_later ks at.i at.opened at.closed _ _ (omega (arith, length_kinds c.args.records.now)) o.0 k.0
          (sym c.passes.ensures ∙ c.if-passes.false);
    }

pub returns : goal.returns
returns c =
    sym (c.loop-i.invariant.same
    ∙ deep_never (kinds_of c.args.records.now) c.loop-i.i c.loop-i.opened c.loop-i.closed
    (omega (arith, length_kinds c.args.records.now)))
