-- `is_plain_in` is right because the bytes that stand for themselves are the same in every edition.
use Rattle.std.proofs.Common.{sym, ap, ◌∙◌}
use Rattle.built_fronts.specs.Fronts.{plain_of}
use Rattle.built_fronts.specs.declared.Line.{Line}
use Rattle.built_fronts.proofs.is_plain_in.Goals as goal

pub returns-in-Literal : goal.returns-in-Literal
returns-in-Literal c = c.is_plain.ensures ∙ ap (λ (x : Line). plain_of x c.args.b) (sym c.in-Literal.is)

pub returns-in-Basic : goal.returns-in-Basic
returns-in-Basic c = c.is_plain-in-Basic.ensures ∙ ap (λ (x : Line). plain_of x c.args.b) (sym c.in-Basic.is)
