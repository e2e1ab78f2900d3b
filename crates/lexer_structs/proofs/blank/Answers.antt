-- `blank` is right because it is the definition.
use mathlib.Core.Path.{ap, ◌∙◌}
use Rattle.lexer_token.specs.declared.Span.{Span}
use Rattle.lexer_token.specs.declared.TokenKind.TheVariants.{Eof}
use Rattle.lexer_token.specs.Records.{token_of}
use Rattle.lexer_structs.proofs.blank.Goals as goal

pub returns : goal.returns
returns c = c.new-2.ensures ∙ ap (λ (s : Span). token_of Eof s.start s.end 0) c.new.ensures
