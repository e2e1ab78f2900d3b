-- `Body::step_by` is right because the piece at the front is the rule's, and takes no more than there is.
use Rattle.std.proofs.Common.{◌<◌, length, ap, arith}
use Rattle.decoder_rules.specs.Bodies.{piece_of}
use Rattle.decoder_rules.proofs.Fine.{Turn}
use Rattle.decoder_pieces.specs.Steps.{body_bytes}
use Rattle.decoder_pieces.proofs.StepLaws.{step_some, turn_fits}
use Rattle.decoder_pieces.proofs.body.Body.step_by.Goals as goal

-- the piece is the rule's
pub overflow_add-next : goal.overflow_add-next
overflow_add-next g c =
    let a = c.args in
    let turn : Turn (piece_of a.e) a.self.dropping a.self.at (body_bytes a.self a.text.now) c.piece_at-p.result =
    record { more = omega (arith, ap length c.bytes-s.ensures); reads = rw c.bytes-s.ensures at c.piece_at-p.ensures } in
    omega (arith, turn_fits a.e a.text.now a.self c.piece_at-p.result turn)

pub returns : goal.returns
returns g c =
    let a = c.args in
    let more : 0 < length (body_bytes a.self a.text.now) = omega (arith, ap length c.bytes-s.ensures) in
    step_some a.e a.text.now a.self more c.piece_at-p.result (rw c.bytes-s.ensures at c.piece_at-p.ensures)
