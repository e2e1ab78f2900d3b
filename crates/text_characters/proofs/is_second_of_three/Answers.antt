-- `is_second_of_three` is right because the tests of the first byte find its row of the table.
use native.Mathlib.Omega.{arith}
use Rattle.text_characters.proofs.CharLaws.{asked}
use Rattle.text_characters.proofs.OnesLaws.{three_e0, three_ed, three_rest}
use Rattle.text_characters.proofs.is_second_of_three.Goals as goal

pub returns-then-a-eq224 : goal.returns-then-a-eq224
returns-then-a-eq224 c =
    let a = c.args.a in
    λ t. asked a 3 0xA0 0xBF _ (three_e0 a (omega arith) c.requires c.if-a-eq224.true) (c.is_among.ensures.0 t)

pub returns-then-a-eq237 : goal.returns-then-a-eq237
returns-then-a-eq237 c =
    let a = c.args.a in
    λ t. asked a 3 0x80 0x9F _ (three_ed a (omega arith) c.requires c.if-a-eq224.false c.if-a-eq237.true) (c.is_among-then-a-eq237.ensures.0 t)

pub returns : goal.returns
returns c =
    let a = c.args.a in
    λ t. asked a 3 0x80 0xBF _ (three_rest a (omega arith) c.requires c.if-a-eq224.false c.if-a-eq237.false) (c.is_among-2.ensures.0 t)
