-- `passed` is right because a run of ASCII is a run of characters, and so is what `chars_run` goes over; any other
-- character is one.
use native.Mathlib.Omega.{arith}
use borrow.Author.Tests.{lt-ltb}
use lib.ListN.{length-drop, drop}
use Rattle.text_scalars.proofs.ReadLaws.{char_le, passed_ascii, passed_char, valid_none}
use Rattle.text.proofs.utf8.passed.Goals as goal

pub returns-then-s-at-lt128 : goal.returns-then-s-at-lt128
returns-then-s-at-lt128 c =
    let a = c.args in
    let first = lt-ltb _ _ c.if-s-at-lt128.true in
    passed_ascii a.s.now a.at (omega arith) first _ c.ascii_run.ensures

pub returns-in_err-char_at : goal.returns-in_err-char_at
returns-in_err-char_at c = let a = c.args in rw c.from_residual.ensures (valid_none (drop a.at a.s.now) c.in_err-char_at.ensures)

pub overflow_add-result : goal.overflow_add-result
overflow_add-result c =
    let a = c.args in
    let n = c.in_ok-char_at.ensures in
    omega (arith, n.1, char_le (drop a.at a.s.now), length-drop a.at a.s.now)

pub returns : goal.returns
returns c =
    let a = c.args in
    let n = c.in_ok-char_at.ensures in
    passed_char a.s.now a.at (omega arith) _ n.0 n.1
