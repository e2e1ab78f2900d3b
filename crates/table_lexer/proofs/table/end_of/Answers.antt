-- `end_of` is right because it has an arm for each kind of more than one byte: its opening and what the table finds after it.
use mathlib.Core.Path.{◌∙◌}
use lib.ListN.{drop}
use lib.Seq.{drop-drop}
use Rattle.lexer.specs.Table.{extent}
use Rattle.table_lexer.proofs.TagLaws.{Single, one_byte}
use native.Mathlib.Omega.{arith}
use Rattle.table_lexer.proofs.table.end_of.Goals as goal

pub returns-in-Whitespace : goal.returns-in-Whitespace
unfolding extent
returns-in-Whitespace c = rw c.in-Whitespace.is (c.class_run.ensures ∙ simp drop-drop (omega arith))

pub returns-in-Comment : goal.returns-in-Comment
unfolding extent
returns-in-Comment c = rw c.in-Comment.is (c.class_run-in-Comment.ensures ∙ simp drop-drop (omega arith))

pub returns-in-LiteralString : goal.returns-in-LiteralString
unfolding extent
returns-in-LiteralString c = rw c.in-LiteralString.is (c.literal_tail.ensures ∙ simp drop-drop (omega arith))

pub returns-in-BasicString : goal.returns-in-BasicString
unfolding extent
returns-in-BasicString c = rw c.in-BasicString.is (c.basic_tail.ensures ∙ simp drop-drop (omega arith))

pub returns-in-MlLiteralString : goal.returns-in-MlLiteralString
unfolding extent
returns-in-MlLiteralString c = rw c.in-MlLiteralString.is (c.ml_literal_tail.ensures ∙ simp drop-drop (omega arith))

pub returns-in-MlBasicString : goal.returns-in-MlBasicString
unfolding extent
returns-in-MlBasicString c = rw c.in-MlBasicString.is (c.ml_basic_tail.ensures ∙ simp drop-drop (omega arith))

pub returns-in-Atom : goal.returns-in-Atom
unfolding extent
returns-in-Atom c = rw c.in-Atom.is (c.class_run-in-Atom.ensures ∙ simp drop-drop (omega arith))

pub returns-in-Eof : goal.returns-in-Eof
unfolding extent
returns-in-Eof c = rw c.in-Eof.is (omega arith)

pub returns-in_default : goal.returns-in_default
returns-in_default c =
    let is = c.args in
    let others = c.in_default in
    let single : Single is.kind =
    record {
      no_whitespace = others.not-Whitespace;
      no_comment = others.not-Comment;
      no_newline = others.not-Newline;
      no_literal = others.not-LiteralString;
      no_basic = others.not-BasicString;
      no_ml_literal = others.not-MlLiteralString;
      no_ml_basic = others.not-MlBasicString;
      no_atom = others.not-Atom;
      no_eof = others.not-Eof;
    } in
    omega (arith, one_byte is.kind (drop is.at is.doc.now) single)
