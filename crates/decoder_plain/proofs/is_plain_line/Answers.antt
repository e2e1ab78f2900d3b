-- `is_plain_line` is right because it asks for the limit, for both marks, and for all between them: at once where that is
-- printable ASCII, else up to the closing mark.
use Rattle.std.proofs.Common.{arith, rules, eqb-true}
use Rattle.decoder_rules.proofs.PlainLaws.{clear_line}
use Rattle.decoder_rules.proofs.OwnLaws.{marks_close, own_line}
use Rattle.decoder_plain.proofs.is_plain_line.Goals as goal

pub returns-then-is_clear : goal.returns-then-is_clear
returns-then-is_clear c = λ h.
    clear_line c.requires c.args.text.now (omega arith) (omega arith) c.if-text-q.false
    c.if-text-n.false (c.is_clear.ensures c.if-is_clear.true)

pub own_run-requires : goal.own_run-requires
own_run-requires c =
    rw c.line_of.ensures (marks_close c.requires c.args.text.now (omega arith) c.if-text-n.false)

pub returns : goal.returns
returns c = λ h.
    own_line c.requires c.args.text.now (omega arith) (omega arith) c.if-text-q.false
    c.if-text-n.false (eqb-true _ _ h) (rw c.line_of.ensures at c.own_run.ensures)
