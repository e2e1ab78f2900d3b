-- `few_chars` is right because each turn goes over a character without an error.
use Rattle.built_fronts.proofs.LineLaws.{sound_start, sound_join}
use Rattle.built_fronts.proofs.few_chars.Goals as goal

pub loop-init : goal.loop-init
loop-init c = sound_start c.args.line c.args.doc.now c.args.start c.requires

pub loop-preserved : goal.loop-preserved
loop-preserved c =
    let a = c.args in
    sound_join a.line a.doc.now a.start c.loop.i _ c.loop.invariant c.in-Some.ensures
