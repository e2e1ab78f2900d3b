-- The promise of this crate admits one answer only, where a call does not fail: its function returns nothing.
use Rattle.std.proofs.Common.{sym, ◌∙◌}
use Rattle.program_io.proofs.OneAnswer.{OneValue}
use Rattle.answers_spelling.proofs as promised

pub print_answer : (g : _) (laws : _) (console : _) (d : _) → OneValue (promised.print_answer.Reads.Learnt g laws console d)
print_answer g laws console d κs a x y s t p q = p.0 ∙ sym q.0
