-- `is_two` is right because fewer than three ones and C2 or more find the row of the table.
use native.Mathlib.Omega.{arith}
use Rattle.text_characters.proofs.CharLaws.{asked}
use Rattle.text_characters.proofs.OnesLaws.{two_ones}
use Rattle.text_characters.proofs.is_two.Goals as goal

pub returns-then-a-ge194 : goal.returns-then-a-ge194
returns-then-a-ge194 c =
    let a = c.args.a in
    λ t third fourth. record {
      some = omega arith;
      asked = asked a 2 0x80 0xBF _ (two_ones a (omega arith) c.requires (omega arith)) (c.is_among.ensures.0 t);
      third = λ k. absurd (omega arith);
      fourth = λ k. absurd (omega arith);
    }
