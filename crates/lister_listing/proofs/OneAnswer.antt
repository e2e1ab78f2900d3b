-- The promises of this crate admit one answer only, where a call does not fail: its functions return nothing.
use Rattle.std.proofs.Common.{sym, ◌∙◌}
use Rattle.program_io.proofs.OneAnswer.{OneValue}
use Rattle.lister_listing.proofs as promised

pub list_input : (g : _) (laws : _) (console : _) (d : _) → OneValue (promised.list_input.Reads.Learnt g laws console d)
list_input g laws console d κs a x y s t p q = p.0 ∙ sym q.0

pub list : (g : _) (laws : _) (console : _) (d : _) → OneValue (promised.list.Reads.Learnt g laws console d)
list g laws console d κs a x y s t p q = p.0 ∙ sym q.0
