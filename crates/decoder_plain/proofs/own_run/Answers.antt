-- `own_run` is right because each turn goes over one whole character that stands for itself, and the closing mark is none. The
-- invariant: up to i all are.
use Rattle.std.proofs.Common.{sym, ◌∙◌}
use Rattle.decoder_rules.proofs.OwnLaws.{own_ascii, own_wide}
use Rattle.decoder_plain.proofs.own_run.Goals as goal

pub loop-e-preserved-then-b-lt128 : goal.loop-e-preserved-then-b-lt128
loop-e-preserved-then-b-lt128 c =
    own_ascii _ _ c.requires c.loop-e.invariant c.if-b-lt128.true (sym c.is_plain.ensures ∙ c.if-not-is_plain.false)

pub loop-e-preserved : goal.loop-e-preserved
loop-e-preserved c = own_wide _ _ c.requires c.loop-e.invariant c.in-Some.ensures
