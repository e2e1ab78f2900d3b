-- `simple_run` is right because each turn goes over one whole character that stands for itself, or one escape of one letter, and
-- the closing mark is neither. The invariant: up to i all are.
use Rattle.std.proofs.Common.{sym, ◌∙◌, arith}
use Rattle.decoder_short.proofs.ShortLaws.{simple_ascii, simple_escape, simple_wide}
use Rattle.decoder_short.proofs.simple_run.Goals as goal

pub loop-i-preserved-in-Some : goal.loop-i-preserved-in-Some
loop-i-preserved-in-Some c =
    simple_escape _ c.requires c.loop-i.invariant c.if-b-eq-ESCAPE.true (omega (arith, c.if-s-i.false)) _ (sym c.in-Some.ensures)

pub loop-i-preserved-else-b-eq-ESCAPE : goal.loop-i-preserved-else-b-eq-ESCAPE
loop-i-preserved-else-b-eq-ESCAPE c =
    simple_ascii _ c.requires c.loop-i.invariant c.if-b-lt128.true (sym c.is_plain.ensures ∙ c.if-not-is_plain.false)

pub loop-i-preserved : goal.loop-i-preserved
loop-i-preserved c = simple_wide _ c.requires c.loop-i.invariant c.in-Some-wide_at.ensures
