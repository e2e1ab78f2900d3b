-- `line_feeds` is right because it counts the bytes that are an LF.
use mathlib.Core.Path.{sym, ◌∙◌}
use Rattle.lexer.proofs.LineLaws.{feeds_counted}
use Rattle.lexer.proofs.lines.line_feeds.Goals as goal

pub returns : goal.returns
returns c = c.count_of.ensures ∙ sym (feeds_counted c.args.s.now)
