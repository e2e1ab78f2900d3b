-- `is_sign` is right because the class of a single byte is that of no other.
use native.Mathlib.Omega.{arith}
use Rattle.table_classes.proofs.TableLaws.{is_alone}
use Rattle.table_classes.proofs.is_sign.Goals as goal

pub returns : goal.returns
returns c =
    let is = c.args in
    rw (c.class_of.ensures, c.alone_of.ensures) (is_alone is.sign is.b (omega arith))
