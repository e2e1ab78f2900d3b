-- `text_of` is right because the check's answer decides the definition too, and a span that passes lies in the document.
use Rattle.lexer_place.proofs.SpanLaws.{text_by_check}
use Rattle.lexer_place.proofs.text_of.Goals as goal

pub returns-in-Ok : goal.returns-in-Ok
returns-in-Ok c = text_by_check _ _ c.check_span.ensures.answer c.in-Ok.is

pub returns-in-Err : goal.returns-in-Err
returns-in-Err c = text_by_check _ _ c.check_span.ensures.answer c.in-Err.is
