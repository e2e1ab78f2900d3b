-- `wide_at` is right because each way out that says a length has all of its bytes before it.
use native.Mathlib.Omega.{arith}
use Rattle.text_characters.proofs.CharLaws.{wide_found}
use Rattle.text_characters.proofs.wide_at.Goals as goal

pub returns-then-ones-lt3 : goal.returns-then-ones-lt3
returns-then-ones-lt3 c =
    let a = c.args in
    rw c.then_some.ensures (wide_found a.s.now a.at 2 _ (omega arith) (λ t. c.is_two.ensures t _ _))

pub returns-then-ones-eq3 : goal.returns-then-ones-eq3
returns-then-ones-eq3 c =
    let a = c.args in
    rw c.then_some-then-ones-eq3.ensures (wide_found a.s.now a.at 3 _ (omega arith) (λ t. c.is_three.ensures t _))
