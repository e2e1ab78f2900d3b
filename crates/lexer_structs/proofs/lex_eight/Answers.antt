-- `lex_eight` is right because it lends eight blank records to `lex_tokens`.
use mathlib.Core.Path.{ap, ◌∙◌}
use lib.ListN.{replicate}
use Rattle.lexer_token.specs.declared.Token.{Token}
use Rattle.lexer_structs.specs.TokenMemory.{token_memory}
use Rattle.lexer_structs.proofs.lex_eight.Goals as goal

pub returns : goal.returns
returns c =
    let lexed = c.lex_tokens-answer.ensures in
    let blank = ap (λ (t : Token). token_memory c.args.doc.now (replicate 8 t)) c.blank-tokens.ensures in
    rw (lexed.answer, lexed.memory ∙ blank)
