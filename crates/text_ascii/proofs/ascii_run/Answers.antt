-- `ascii_run` is right because neither a word, nor a block, nor a byte of ASCII moves the end of the run.
use native.Mathlib.Omega.{arith}
use Rattle.text_scalars.specs.Utf8Read.{ascii}
use Rattle.text_classes.proofs.RunLaws.{run_end}
use Rattle.text_ascii.proofs.ascii_run.Goals as goal

pub returns-then-s-start : goal.returns-then-s-start
returns-then-s-start c =
    let a = c.args in
    omega (arith, run_end ascii a.s.now a.start (omega arith))
