-- `is_in` is right because the mask of a set has a byte's class exactly where the set has the byte.
use native.Mathlib.Omega.{arith}
use Rattle.table_classes.proofs.TableLaws.{class_low, has_is}
use Rattle.table_classes.proofs.is_in.Goals as goal

pub has_class-requires : goal.has_class-requires
has_class-requires c = omega (arith, c.class_of.ensures, class_low c.args.b (omega arith))

pub returns : goal.returns
returns c =
    let is = c.args in
    rw (c.has_class.ensures, c.mask_of.ensures, c.class_of.ensures)
    (has_is is.set is.b (omega arith))
