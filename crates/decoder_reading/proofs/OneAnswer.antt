-- Each promise of this crate admits one answer only. A theorem bears its function's name, and is about the function's
-- own contract: what a caller learns of its `ensures`.
-- Assumes nothing.
use denote.RattleType.{RattleType}
use denote.Param.Laws.{Laws}
use mir.Syntax.{Dict}
use mathlib.Core.Path.{sym, ◌∙◌}
use Rattle.text_classes.proofs.OneAnswer.{OneAnswer}
use Rattle.decoder_pieces.specs.declared.engine.Bytes.{Ghosts}
use Rattle.decoder_reading.proofs as promised

pub noted : OneAnswer promised.noted.Reads.Learnt
noted κs a x y s t p q = p ∙ sym q

-- whatever the engine
module _ (T : RattleType) (L : Laws T) (G : Ghosts T.Denot) (d : Dict) where
  pub count : OneAnswer (promised.count.Reads.Learnt T L G d)
  count κs a x y s t p q = p ∙ sym q
