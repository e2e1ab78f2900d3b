-- Each promise of this crate admits one answer only, and those of `lex` and `lex_by` one content of the records too. A theorem bears
-- its function's name, and is about the function's own contract: what a caller learns of its `ensures`.
-- Where a promise says an answer's number and value too, its first clause, an equation, already admits one answer.
-- Assumes nothing.
use mathlib.Core.Path.{sym, ◌∙◌}
use denote.RattleType.{RattleType}
use denote.Param.Laws.{Laws}
use mir.Syntax.{Dict}
use Rattle.lexer.specs.declared.Engine
use Rattle.lexer.specs.declared.StepEngine
use Rattle.text_classes.proofs.OneAnswer.{OneAnswer, OneOutcome, ◌and◌, both}
use Rattle.lexer.proofs as promised

pub start : OneAnswer promised.Cursor.start.Reads.Learnt
start κs a x y s t p q = p.0 ∙ sym q.0

pub step : OneAnswer promised.Cursor.step.Reads.Learnt
step κs a x y s t p q = p.0 ∙ sym q.0

-- by any engine
module _ (E : RattleType) (L : Laws E) (S : StepEngine.Ghosts E.Denot) (d : Dict) (G : Engine.Ghosts E.Denot) (e : Dict) where
  pub step_by : OneAnswer (promised.Cursor.step_by.Reads.Learnt E L S d G e)
  step_by κs a x y s t p q = p.0 ∙ sym q.0

  -- what the trait says of a step by itself
  pub step_engine_step_token : OneAnswer (promised.StepEngine.step_token.Reads.Learnt E L S d G e)
  step_engine_step_token κs a x y s t p q = p ∙ sym q

-- the answer, and what the records hold
pub lex : OneOutcome promised.lex.Reads.Learnt (λ κs r s. r and s.1.0.now)
lex κs a x y s t p q = both (p.0 ∙ sym q.0) (p.1.1.1.1 ∙ sym q.1.1.1.1)

module _ (E : RattleType) (L : Laws E) (G : Engine.Ghosts E.Denot) (e : Dict) where
  pub lex_by : OneOutcome (promised.lex_by.Reads.Learnt E L G e) (λ κs r s. r and s.1.0.now)
  lex_by κs a x y s t p q = both (p.0 ∙ sym q.0) (p.1.1.1.1 ∙ sym q.1.1.1.1)

pub start_of : OneAnswer promised.start_of.Reads.Learnt
start_of κs a x y s t p q = p ∙ sym q

pub line_feeds : OneAnswer promised.lines.line_feeds.Reads.Learnt
line_feeds κs a x y s t p q = p ∙ sym q

pub line_of : OneAnswer promised.line_of.Reads.Learnt
line_of κs a x y s t p q = p ∙ sym q

-- what `Ranges` says of a place, in the loop and in a step
pub token : OneAnswer promised.RangesEngine.token.Reads.Learnt
token κs a x y s t p q = p ∙ sym q

pub step_token : OneAnswer promised.RangesStepEngine.step_token.Reads.Learnt
step_token κs a x y s t p q = p ∙ sym q
