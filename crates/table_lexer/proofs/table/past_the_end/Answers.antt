-- `past_the_end` is right because no bytes are the end.
use Rattle.lexer.proofs.FoundLaws.{found_none}
use Rattle.table_lexer.proofs.table.past_the_end.Goals as goal

pub returns : goal.returns
returns c = found_none c.args.doc.now c.args.at c.requires
