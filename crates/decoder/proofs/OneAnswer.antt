-- The promises of `decode`, `decode_in` and `decode_by` admit one answer only, with one content of the output and one of the error
-- records. Each theorem bears its function's name, and is about the function's own contract: what a caller learns of its
-- `ensures`. Its first three clauses say it; the others say the numbers of the answer, which the first one fixes.
-- Assumes nothing.
use denote.RattleType.{RattleType}
use denote.Param.Laws.{Laws}
use mir.Syntax.{Dict}
use mathlib.Core.Path.{◌≡◌, sym, ◌∙◌}
use Rattle.text_classes.proofs.OneAnswer.{OneOutcome, ◌and◌, both}
use Rattle.decoder_pieces.specs.declared.engine.Bytes as Bytes
use Rattle.decoder_pieces.specs.declared.engine.Engine as Engine
use Rattle.decoder.proofs as promised

pub decode : OneOutcome promised.decode.Reads.Learnt (λ κs r s. r and s.1.1.0.now and s.1.1.1.0.now)
decode κs a x y s t p q =
    let answer : x ≡ y = p.0 ∙ sym q.0 in
    both answer (both (rw answer at p.1.0 ∙ sym q.1.0) (rw answer at p.1.1.0 ∙ sym q.1.1.0))

pub decode_in : OneOutcome promised.decode_in.Reads.Learnt (λ κs r s. r and s.1.1.1.0.now and s.1.1.1.1.0.now)
decode_in κs a x y s t p q =
    let answer : x ≡ y = p.0 ∙ sym q.0 in
    both answer (both (rw answer at p.1.0 ∙ sym q.1.0) (rw answer at p.1.1.0 ∙ sym q.1.1.0))

-- whatever the engine
module _ (T : RattleType) (L : Laws T) (G : Engine.Ghosts T.Denot) (d : Dict) (G' : Bytes.Ghosts T.Denot) (d' : Dict) where
  pub decode_by : OneOutcome (promised.decode_by.Reads.Learnt T L G d G' d') (λ κs r s. r and s.1.1.1.0.now and s.1.1.1.1.0.now)
  decode_by κs a x y s t p q =
      let answer : x ≡ y = p.0 ∙ sym q.0 in
      both answer (both (rw answer at p.1.0 ∙ sym q.1.0) (rw answer at p.1.1.0 ∙ sym q.1.1.0))
