-- `by_loop` is right because the tokens that begin at its place and before the next are one: after it the loop stops.
use Prim.Native.Nat.{◌+◌}
use mathlib.Core.Path.{◌≡◌, ◌∙◌}
use Rattle.lexer.proofs.UntilLaws.{until_few}
use Rattle.lexer.proofs.WholeLaws.{one_line, one_place}
use Rattle.lexer.proofs.FoundLaws.{feeds_at, found_parts}
use native.Mathlib.Omega.{arith}
use Rattle.lexer.proofs.by_loop.Goals as goal

pub lex_until-passed-requires : goal.lex_until-passed-requires
lex_until-passed-requires c =
    let is = c.args in
    let one = until_few 1 is.doc.now (is.at + 1) is.at 0 (omega arith) (omega arith) in
    (omega arith, omega arith, omega arith, one)

pub returns : goal.returns
returns c =
    let is = c.args in
    let passed = c.lex_until-passed.ensures in
    let end = one_place is.doc.now is.at 0 _ c.requires.0 passed.place.reached in
    let feeds : c.lex_until-passed.result.line ≡ feeds_at is.doc.now is.at =
    omega (arith, one_line is.doc.now is.at 0 _ c.requires.0 passed.line) in
    c.found_of.ensures ∙ found_parts is.doc.now is.at c.requires.1 end feeds
