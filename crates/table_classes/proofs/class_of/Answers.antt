-- `class_of` is right because each entry of its table is the class of its byte.
use native.Mathlib.Omega.{arith}
use Rattle.table_classes.specs.Masks.{table}
use Rattle.table_classes.proofs.TableLaws.{entry_is}
use Rattle.table_classes.proofs.class_of.Goals as goal

pub returns : goal.returns
unfolding table
returns c = entry_is c.args.b (omega arith)
