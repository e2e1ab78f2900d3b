-- `take_tokens` is right because a state between two tokens is known by its place and its line where a byte follows.
use mathlib.Core.Path.{ap}
use native.Mathlib.Omega.{arith}
use lib.ListN.{length}
use Rattle.built_lexing.proofs.WholeLaws.{idle_given, onward_none, onward_idle}
use Rattle.built_lexing.proofs.whole.take_tokens.Goals as goal

pub take_whole-requires : goal.take_whole-requires
take_whole-requires c =
    (c.requires.0, c.requires.1, c.requires.2, omega (arith, ap length (idle_given c.args.part.now c.args.l c.args.start c.in-Idle.is (omega arith)), c.requires.3))

pub shape_of-records-in-Idle : goal.shape_of-records-in-Idle
shape_of-records-in-Idle c = c.take_whole.ensures.room

pub returns-in-Idle : goal.returns-in-Idle
returns-in-Idle c =
    onward_idle c.args.part.now c.args.l c.args.start c.in-Idle.is (omega arith) c.take_whole.ensures

pub returns-in_default : goal.returns-in_default
returns-in_default c =
    onward_none c.args.part.now c.args.l c.args.start c.args.n c.args.records.now c.requires.0 c.requires.2

pub returns-else-start-part : goal.returns-else-start-part
returns-else-start-part c =
    onward_none c.args.part.now c.args.l c.args.start c.args.n c.args.records.now c.requires.0 c.requires.2
