-- `extra` is right because each length of an escape has its arms.
use Rattle.std.proofs.Common.{[], ◌∷◌, sym, ◌∙◌, arith}
use Rattle.text_classes.specs.Classes.{basic_unescaped}
use Rattle.built_writing.specs.Writing.{spelling_of, spell}
use Rattle.built_writing.proofs.WeighLaws.{arm, coded, unchanged}
use Rattle.built_writing.proofs.weigh.extra.Goals as goal

pub returns-in-34 : goal.returns-in-34
unfolding spell spelling_of basic_unescaped
returns-in-34 c = (arm 2 (0x08 ∷ 0x0A ∷ 0x0C ∷ 0x22 ∷ 0x5C ∷ []) tt c.args.b c.in-34.is, omega arith)

pub returns-in-13 : goal.returns-in-13
unfolding spell spelling_of basic_unescaped
returns-in-13 c = (arm 2 (0x0D ∷ []) tt c.args.b c.in-13.is, omega arith)

pub returns-in-127 : goal.returns-in-127
unfolding spell spelling_of basic_unescaped
returns-in-127 c = (arm 6 (0x7F ∷ []) tt c.args.b c.in-127.is, omega arith)

pub returns-then-is_control : goal.returns-then-is_control
returns-then-is_control c =
    let b = c.args.b in
    let rest = c.in_default.in_default-own.rest in
    let yes-control = sym c.is_control.ensures ∙ c.if-is_control.true in
    (coded b (omega arith) rest.0.0.1 rest.0.1 rest.1 yes-control, omega arith)

pub returns-else-is_control : goal.returns-else-is_control
returns-else-is_control c =
    let b = c.args.b in
    let rest = c.in_default.in_default-own.rest in
    let no-control = sym c.is_control.ensures ∙ c.if-is_control.false in
    (unchanged b (omega arith) rest.0.0.1 rest.0.1 rest.1 no-control, omega arith)
