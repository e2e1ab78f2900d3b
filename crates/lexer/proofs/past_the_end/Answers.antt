-- `past_the_end` is right because no bytes are the end.
use mathlib.Core.Path.{◌∙◌}
use Rattle.lexer.proofs.FoundLaws.{found_none}
use Rattle.lexer.proofs.past_the_end.Goals as goal

pub returns : goal.returns
returns c = c.found_of.ensures ∙ found_none c.args.doc.now c.args.at c.requires
