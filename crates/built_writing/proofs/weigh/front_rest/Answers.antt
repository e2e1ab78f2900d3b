-- `front_rest` is right because each byte that is passed over is one that a literal string could hold, and the first that is not
-- ends the run.
use Rattle.std.proofs.Common.{sym, ◌∙◌}
use Rattle.text_classes.specs.Classes.{literal_char}
use Rattle.built_writing.proofs.WeighLaws.{passed_on, passed_byte, run_ended, run_stopped}
use Rattle.built_writing.proofs.weigh.front_rest.Goals as goal
use Rattle.built_writing.proofs.weigh.front_rest.Goals.{in-Some+then-not-is_plain, in_default}

pub loop-b-preserved : goal.loop-b-preserved
loop-b-preserved c =
    let l = c.loop-b in
    let plain = sym c.is_plain.ensures ∙ c.if-not-is_plain.false in
    passed_on l.invariant (passed_byte l.rest.now _ _ l.bytes _ c.in-Some.ensures.cases.0 plain (c.mark.ensures.0 plain))

pub returns : goal.returns
returns c = (
  c.loop-b.invariant,
  elim c.match-split_first.branch [
    | in-Some+then-not-is_plain w ↦
        run_stopped literal_char c.loop-b.rest.now _ _ w.in-Some.ensures.cases.0 (sym w.is_plain.ensures ∙ w.if-not-is_plain.true)
    | in_default w ↦ run_ended literal_char c.loop-b.rest.now w.in_default.ensures.cases
  ],
)
