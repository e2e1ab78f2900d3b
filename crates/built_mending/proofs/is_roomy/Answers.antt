-- `is_roomy` is right because it tests each of the three bounds.
use Rattle.std.proofs.Common.{refl, arith}
use borrow.Author.Tests.{leb-true}
use Rattle.text_classes.proofs.Conds.{not_both}
use Rattle.built_mending.proofs.is_roomy.Goals as goal

pub returns-then-n-gt-LIMIT : goal.returns-then-n-gt-LIMIT
returns-then-n-gt-LIMIT c e = not_both e refl

pub returns-then-o-n : goal.returns-then-o-n
returns-then-o-n c e = not_both e refl

pub returns : goal.returns
returns c e = (omega arith, omega arith, leb-true c.args.n c.args.m e)
