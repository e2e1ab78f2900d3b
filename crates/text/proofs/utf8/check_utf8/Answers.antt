-- `check_utf8` is right because the bytes before `at` are whole characters, so that the longest valid prefix is `at` and
-- that of the rest; and a short text that is ASCII is valid.
use native.Mathlib.Omega.{arith}
use Rattle.text_scalars.proofs.ReadLaws.{valid_end}
use Rattle.text.proofs.AnswerLaws.{answer_ascii, answer_valid, answer_broken, told}
use Rattle.text.proofs.utf8.check_utf8.Goals as goal

pub returns-then-is_short_ascii : goal.returns-then-is_short_ascii
returns-then-is_short_ascii c =
    let s = c.args.s.now in
    told s _ (answer_ascii s (omega arith) (c.is_short_ascii.ensures c.if-is_short_ascii.true))

pub returns-in_default : goal.returns-in_default
returns-in_default c =
    let none = c.in_default.ensures in
    let s = c.args.s.now in
    told s _ (answer_broken s _ _ (omega arith) (omega (arith, none)) (omega arith) c.fault_at-length.ensures)

pub returns : goal.returns
returns c =
    let s = c.args.s.now in
    told s _ (answer_valid s (omega arith) (omega (arith, valid_end s c.loop-at.at (omega arith))))
