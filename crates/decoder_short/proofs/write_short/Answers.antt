-- `write_short` is right because at each place stands a byte that stands for itself, or an escape of one letter, which is known.
use Rattle.std.proofs.Common.{◌+◌, ◌<◌, length, sym, ◌∙◌, arith, rules}
use Rattle.decoder_short.proofs.ShortLaws.{spelling_byte, spelling_letter}
use Rattle.decoder_short.proofs.write_short.Goals as goal
use Rattle.decoder_short.proofs.write_short.Goals.{then-b-eq-ESCAPE, else-b-eq-ESCAPE}

pub loop-i-preserved : goal.loop-i-preserved
loop-i-preserved c =
    let at = c.loop-i in
    let more : at.i + 1 < length c.args.text.now = omega (arith, c.loop-i-test.true) in
    elim c.if-b-eq-ESCAPE.branch [
      | then-b-eq-ESCAPE w ↦
          rw (w.output-is, w.i-is)
          (spelling_letter at.invariant w.unwrap.result more w.if-b-eq-ESCAPE.true (sym w.letter_char.ensures ∙ w.unwrap.ensures))
      | else-b-eq-ESCAPE w ↦ rw (w.output-is, w.i-is) (spelling_byte at.invariant more w.if-b-eq-ESCAPE.false)
    ]
