-- Each promise of this crate admits one answer only, with one content of the lent memory. A theorem bears its function's name, and is
-- about the function's own contract: what a caller learns of its `ensures`.
-- Assumes nothing.
use denote.RattleType.{RattleType}
use denote.Param.Laws.{Laws}
use mir.Syntax.{Dict}
use mathlib.Core.Path.{◌≡◌, sym, ◌∙◌}
use Rattle.text_classes.proofs.OneAnswer.{OneOutcome, ◌and◌, both}
use Rattle.decoder_pieces.specs.declared.engine.Bytes as Bytes
use Rattle.decoder_pieces.specs.declared.engine.Engine as Engine
use Rattle.decoder_writing.proofs as promised

pub copy_all : OneOutcome promised.copy_all.Reads.Learnt (λ κs r s. r and s.1.0.now)
copy_all κs a x y s t p q = both (p.0 ∙ sym q.0) (p.1 ∙ sym q.1)

-- whatever the engine
module _ (T : RattleType) (L : Laws T) (G : Engine.Ghosts T.Denot) (d : Dict) (G' : Bytes.Ghosts T.Denot) (d' : Dict) where
  pub decode_as : OneOutcome (promised.decode_as.Reads.Learnt T L G d G' d') (λ κs r s. r and s.1.1.0.now and s.1.1.1.0.now)
  decode_as κs a x y s t p q =
      let answer : x ≡ y = p.0 ∙ sym q.0 in
      both answer (both (rw answer at p.1.0 ∙ sym q.1.0) (rw answer at p.1.1 ∙ sym q.1.1))
