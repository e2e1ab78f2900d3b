-- `line_front` is right because it goes over blocks of plain ASCII and over characters without an error only.
use Rattle.std.proofs.Common.{arith}
use Rattle.built_fronts.proofs.LineLaws.{sound_start, sound_join}
use Rattle.built_fronts.proofs.line_front.Goals as goal

pub loop-line-init : goal.loop-line-init
loop-line-init c = sound_start c.args.line c.args.doc.now c.args.start (omega arith)

pub clear_blocks-i-requires : goal.clear_blocks-i-requires
clear_blocks-i-requires c = c.loop-line.invariant.along.1

pub returns-then-is_at : goal.returns-then-is_at
returns-then-is_at c = λ h. sound_join _ _ _ _ _ c.loop-line.invariant c.clear_blocks-i.ensures

pub few_chars-next-requires : goal.few_chars-next-requires
few_chars-next-requires c = c.clear_blocks-i.ensures.along.1

pub returns-then-next-i : goal.returns-then-next-i
returns-then-next-i c = λ h. sound_join _ _ _ _ _ c.loop-line.invariant c.clear_blocks-i.ensures

pub returns-then-is_at-2 : goal.returns-then-is_at-2
returns-then-is_at-2 c = λ h.
    sound_join _ _ _ _ _ (sound_join _ _ _ _ _ c.loop-line.invariant c.clear_blocks-i.ensures) c.few_chars-next.ensures

pub loop-line-smaller : goal.loop-line-smaller
loop-line-smaller c = omega (arith, c.clear_blocks-i.ensures.along, c.few_chars-next.ensures.along)

pub loop-line-preserved : goal.loop-line-preserved
loop-line-preserved c =
    sound_join _ _ _ _ _ (sound_join _ _ _ _ _ c.loop-line.invariant c.clear_blocks-i.ensures) c.few_chars-next.ensures
