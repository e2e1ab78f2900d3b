-- Each promise of this crate admits one answer only, and one content of each lent memory. A theorem bears its function's
-- name, and is about the function's own contract: what a caller learns of its `ensures`.
use mathlib.Core.Path.{sym, ap, ◌∙◌}
use Rattle.text_classes.proofs.OneAnswer.{OneAnswer, OneOutcome, ◌and◌, both}
use Rattle.built_values.proofs.NumberLaws.{one_answer}
use Rattle.library_numbers.specs.Numbers.{flag_numbers}
use Rattle.galoxumi.proofs as promised

pub galoxumi_check_utf8 : OneAnswer promised.galoxumi_check_utf8.Reads.Learnt
galoxumi_check_utf8 κs a x y s t p q = p ∙ sym q

pub galoxumi_start : OneAnswer promised.galoxumi_start.Reads.Learnt
galoxumi_start κs a x y s t p q = p ∙ sym q

pub galoxumi_step : OneAnswer promised.galoxumi_step.Reads.Learnt
galoxumi_step κs a x y s t p q = p ∙ sym q

-- the answer, and what the records hold
pub galoxumi_lex : OneOutcome promised.galoxumi_lex.Reads.Learnt (λ κs r s. r and s.1.0.now)
galoxumi_lex κs a x y s t p q = both (p.0 ∙ sym q.0) (p.1 ∙ sym q.1)

pub galoxumi_check_span : OneAnswer promised.galoxumi_check_span.Reads.Learnt
galoxumi_check_span κs a x y s t p q = p ∙ sym q

-- the first clause already admits one answer
pub galoxumi_text : OneAnswer promised.galoxumi_text.Reads.Learnt
galoxumi_text κs a x y s t p q = p.0 ∙ sym q.0

pub galoxumi_position : OneAnswer promised.galoxumi_position.Reads.Learnt
galoxumi_position κs a x y s t p q = p ∙ sym q

-- the answer, and what the output and the error records hold
pub galoxumi_decode : OneOutcome promised.galoxumi_decode.Reads.Learnt (λ κs r s. r and s.1.1.0.now and s.1.1.1.0.now)
galoxumi_decode κs a x y s t p q = both (p.0 ∙ sym q.0) (both (p.1.0 ∙ sym q.1.0) (p.1.1 ∙ sym q.1.1))

-- the same of the call that names an edition
pub galoxumi_decode_in :
    OneOutcome promised.galoxumi_decode_in.Reads.Learnt (λ κs r s. r and s.1.1.1.0.now and s.1.1.1.1.0.now)
galoxumi_decode_in κs a x y s t p q = both (p.0 ∙ sym q.0) (both (p.1.0 ∙ sym q.1.0) (p.1.1 ∙ sym q.1.1))

pub galoxumi_open_text : OneAnswer promised.galoxumi_open_text.Reads.Learnt
galoxumi_open_text κs a x y s t p q = p ∙ sym q

pub galoxumi_piece : OneAnswer promised.galoxumi_piece.Reads.Learnt
galoxumi_piece κs a x y s t p q = p ∙ sym q

pub galoxumi_description : OneAnswer promised.galoxumi_description.Reads.Learnt
galoxumi_description κs a x y s t p q = p ∙ sym q

pub galoxumi_encoding : OneAnswer promised.galoxumi_encoding.Reads.Learnt
galoxumi_encoding κs a x y s t p q = p ∙ sym q

-- the answer, and what the output holds
pub galoxumi_write_value : OneOutcome promised.galoxumi_write_value.Reads.Learnt (λ κs r s. r and s.1.0.now)
galoxumi_write_value κs a x y s t p q = both (p.0 ∙ sym q.0) (p.1 ∙ sym q.1)

-- the answer, and what the output and the records hold
pub galoxumi_put_right : OneOutcome promised.galoxumi_put_right.Reads.Learnt (λ κs r s. r and s.1.0.now and s.1.1.0.now)
galoxumi_put_right κs a x y s t p q = both (p.0 ∙ sym q.0) (both (p.1.0 ∙ sym q.1.0) (p.1.1 ∙ sym q.1.1))

pub galoxumi_put_right_in :
    OneOutcome promised.galoxumi_put_right_in.Reads.Learnt (λ κs r s. r and s.1.1.0.now and s.1.1.1.0.now)
galoxumi_put_right_in κs a x y s t p q = both (p.0 ∙ sym q.0) (both (p.1.0 ∙ sym q.1.0) (p.1.1 ∙ sym q.1.1))

pub galoxumi_error_words : OneAnswer promised.galoxumi_error_words.Reads.Learnt
galoxumi_error_words κs a x y s t p q = p ∙ sym q

-- the answer, and what the table of marks holds
pub galoxumi_tick : OneOutcome promised.galoxumi_tick.Reads.Learnt (λ κs r s. r and s.1.0.now)
galoxumi_tick κs a x y s t p q = both (p.0 ∙ sym q.0) (p.1 ∙ sym q.1)

pub galoxumi_untick : OneOutcome promised.galoxumi_untick.Reads.Learnt (λ κs r s. r and s.1.0.now)
galoxumi_untick κs a x y s t p q = both (p.0 ∙ sym q.0) (p.1 ∙ sym q.1)

pub galoxumi_is_ticked : OneAnswer promised.galoxumi_is_ticked.Reads.Learnt
galoxumi_is_ticked κs a x y s t p q = p ∙ sym q

pub galoxumi_ticks : OneAnswer promised.galoxumi_ticks.Reads.Learnt
galoxumi_ticks κs a x y s t p q = p ∙ sym q

-- the numbers of one answer, which the rule admits
pub galoxumi_is_value : OneAnswer promised.galoxumi_is_value.Reads.Learnt
galoxumi_is_value κs a x y s t p q = p.2 ∙ ap flag_numbers (one_answer p.1 q.1) ∙ sym q.2

pub galoxumi_is_value_in : OneAnswer promised.galoxumi_is_value_in.Reads.Learnt
galoxumi_is_value_in κs a x y s t p q = p.2 ∙ ap flag_numbers (one_answer p.1 q.1) ∙ sym q.2

pub galoxumi_first_broken : OneAnswer promised.galoxumi_first_broken.Reads.Learnt
galoxumi_first_broken κs a x y s t p q = p ∙ sym q

pub galoxumi_first_broken_in : OneAnswer promised.galoxumi_first_broken_in.Reads.Learnt
galoxumi_first_broken_in κs a x y s t p q = p ∙ sym q

pub galoxumi_tally : OneAnswer promised.galoxumi_tally.Reads.Learnt
galoxumi_tally κs a x y s t p q = p ∙ sym q

pub galoxumi_parts_start : OneAnswer promised.galoxumi_parts_start.Reads.Learnt
galoxumi_parts_start κs a x y s t p q = p ∙ sym q

-- the answer with the state after it, and what the records hold
pub galoxumi_parts_feed : OneOutcome promised.galoxumi_parts_feed.Reads.Learnt (λ κs r s. r and s.1.1.0.now)
galoxumi_parts_feed κs a x y s t p q = both (p.0 ∙ sym q.0) (p.1 ∙ sym q.1)

pub galoxumi_parts_close : OneOutcome promised.galoxumi_parts_close.Reads.Learnt (λ κs r s. r and s.1.0.now)
galoxumi_parts_close κs a x y s t p q = both (p.0 ∙ sym q.0) (p.1 ∙ sym q.1)
