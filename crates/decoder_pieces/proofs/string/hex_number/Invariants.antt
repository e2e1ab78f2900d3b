use Rattle.decoder_pieces.proofs.HexLaws.{Digits}
use Rattle.decoder_pieces.proofs.string.hex_number.Given as goal

abbrev pub invariant-loop-i : goal.invariant-loop-i
invariant-loop-i g l = Digits l.digits l.rest l.i l.value
