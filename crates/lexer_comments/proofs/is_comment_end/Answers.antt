-- `is_comment_end` is right because a comment goes on with no CR and no LF, and there is nothing after the end.
use Rattle.std.proofs.Common.{⊎_elim, arith}
use Rattle.text_classes.proofs.RunLaws.{run_end}
use Rattle.lexer_scans.specs.Extents.{in_comment}
use Rattle.lexer_comments.proofs.FrontLaws.{cr_ends, lf_ends}
use Rattle.lexer_comments.proofs.is_comment_end.Goals as goal

pub returns-then-doc-i : goal.returns-then-doc-i
returns-then-doc-i c = λ _. run_end in_comment c.args.doc.now c.args.i (omega arith)

pub returns-in-13 : goal.returns-in-13
returns-in-13 c = λ _.
    let a = c.args in
    ⊎_elim (lf_ends a.doc.now a.i) (cr_ends a.doc.now a.i) c.in-13.is
