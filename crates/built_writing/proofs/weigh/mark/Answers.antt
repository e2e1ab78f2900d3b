-- `mark` is right because of the bytes of a literal string these two alone have an escape.
use Rattle.std.proofs.Common.{[], ◌∷◌, arith}
use Rattle.built_writing.specs.Writing.{spelling_of, spell}
use Rattle.text_classes.specs.Classes.{basic_unescaped}
use Rattle.built_writing.proofs.WeighLaws.{arm, itself}
use Rattle.built_writing.proofs.weigh.mark.Goals as goal

pub returns-in-34 : goal.returns-in-34
unfolding spell spelling_of basic_unescaped
returns-in-34 c = (λ l. arm 2 (0x22 ∷ 0x5C ∷ []) tt c.args.b c.in-34.is, omega arith)

pub returns-in_default : goal.returns-in_default
returns-in_default c = (itself c.args.b (omega arith) c.in_default.in_default-own.rest.1, omega arith)
