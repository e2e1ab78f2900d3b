-- `is_two` is right because the ranges are those of the table for such a first byte.
use Rattle.lexer_comments.proofs.FrontLaws.{two_there}
use Rattle.lexer_comments.proofs.is_two.Goals as goal

pub returns : goal.returns
returns c = λ e. two_there _ _ (c.is_among.ensures.0 c.if-not-is_among.false) (c.is_among-2.ensures.0 e)
