-- `letter_of` is right because each letter's class has it alone.
use Rattle.std.proofs.Common.{◌≡◌, sym, ◌∙◌, arith, ne_eqb}
use Rattle.table_classes.specs.declared.Sign.TheVariants.{QuotationMark, Backslash, SmallB, SmallF, SmallN, SmallR, SmallT, SmallU, BigU}
use Rattle.table_classes.specs.Masks.{alone_of}
use Rattle.table_pieces.specs.Letters.{letter_by}
use Rattle.table_pieces.proofs.LetterLaws.{letter_by_lem}
use Rattle.table_pieces.proofs.TableBytes.letter_of.Goals as goal

pub returns-in_default : goal.returns-in_default
unfolding letter_by
returns-in_default c =
    let rest = c.in_default.in_default-own.rest in
    let new : c.new_letter.result ≡ letter_by c.args.v c.class_of-k.result =
    simp (
      ne_eqb _ (alone_of QuotationMark) rest.0.0.0.0.0.0.0.0.1,
      ne_eqb _ (alone_of Backslash) rest.0.0.0.0.0.0.0.1,
      ne_eqb _ (alone_of SmallB) rest.0.0.0.0.0.0.1,
      ne_eqb _ (alone_of SmallF) rest.0.0.0.0.0.1,
      ne_eqb _ (alone_of SmallN) rest.0.0.0.0.1,
      ne_eqb _ (alone_of SmallR) rest.0.0.0.1,
      ne_eqb _ (alone_of SmallT) rest.0.0.1,
      ne_eqb _ (alone_of SmallU) rest.0.1,
      ne_eqb _ (alone_of BigU) rest.1,
    )
    c.new_letter.ensures in
    new ∙ rw c.class_of-k.ensures (sym (letter_by_lem c.args.v c.args.b (omega arith)))
