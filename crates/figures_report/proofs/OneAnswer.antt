-- The promise of this crate admits one answer only, where a call does not fail: its function returns nothing. It holds over any
-- console and any files: of their types t, the laws l, and what each of their traits says (a ghost and a dictionary for each).
use Rattle.std.proofs.Common.{sym, ◌∙◌}
use Rattle.program_io.proofs.OneAnswer.{OneValue}
use Rattle.figures_report.proofs as promised

pub report_input :
    (t1 t2 t3 : _) (l1 : _) (l2 : _) (l3 : _) (console : _) (d1 : _) (files : _) (d2 : _) (read : _) (d3 : _) (write : _) (d4 : _)
    (seek : _) (d5 : _) (open_file : _) (d6 : _) (input : _) (d7 : _) (d8 : _) (d9 : _)
    → OneValue (promised.report_input.Reads.Learnt t1 t2 t3 l1 l2 l3 console d1 files d2 read d3 write d4 seek d5 open_file d6 input d7 d8 d9)
report_input t1 t2 t3 l1 l2 l3 console d1 files d2 read d3 write d4 seek d5 open_file d6 input d7 d8 d9 κs a x y s t p q = p.0 ∙ sym q.0
