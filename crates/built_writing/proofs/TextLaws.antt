-- A text between two marks, stored and answered; and what the call answers by the check and by the kind of string.
-- Assumes nothing.
use Rattle.std.proofs.Common.{◌≡◌, ℕ, ◌+◌, ◌<◌, ◌≤◌, List, [], ◌∷◌, ◌++◌, length, set, refl, ap, Ok, Err, arith, length-append, le-ltb, lt-ltb, eq-eqb, ne_eqb}
use Rattle.text_classes.specs.Classes.{literal_char}
use Rattle.text_classes.specs.Runs.{run}
use Rattle.text_classes.proofs.Conds.{by_lt}
use Rattle.text.specs.CheckMeans.{check_of}
use Rattle.text_refusals.specs.declared.Refusal.{Refusal}
use Rattle.text_refusals.specs.declared.Refusal.TheVariants.{ShortOutput}
use Rattle.decoder_rules.proofs.StoreLaws.{Stored, sets_append, front_long, overwritten}
use Rattle.built_writing.specs.Writing.{literal_text, basic_text, written, fit_text, write_answer}
use Rattle.built_writing.specs.WroteText.{WroteText}
use Rattle.built_writing.specs.Measured.{Planned, fitting}
use Rattle.built_writing.specs.declared.Plan.{Plan}

-- ---- between two marks q

pub around_long : (q : ℕ) (body : List ℕ) → length (q ∷ (body ++ (q ∷ []))) ≡ length body + 2
around_long q body = omega (arith, length-append body (q ∷ []))

-- a mark at the front, the body after it, and a mark after that
pub around : (q : ℕ) (old : List ℕ) {body held : List ℕ} {end : ℕ} → Stored (set old 0 q) 1 body end held
    → Stored old 0 (q ∷ (body ++ (q ∷ []))) (end + 1) (set held end q)
around q old {body} s =
    record {
      place = omega (arith, s.place, around_long q body);
      holds = rw (sets_append (set old 0 q) 1 body (q ∷ []), ← s.place, ← s.holds);
    }

-- ---- the answer

module _ (text old : List ℕ) (n : ℕ) where
  pub wrote_short : n ≡ length text → length old < n → WroteText text old (Err (ShortOutput n)) old
  unfolding fit_text
  wrote_short e h = record { answer = rw (← e, lt-ltb (length old) n h); output = refl }

  pub wrote_text : (held : List ℕ) → Stored old 0 text n held → length text ≤ length old → WroteText text old (Ok n) held
  unfolding fit_text
  wrote_text held s h =
      let e = front_long s in
      record { answer = rw (← e, le-ltb (length old) n (omega arith)); output = overwritten s h }

module _ (value : List ℕ) where
  pub by_plan : (room : ℕ) (r x : Plan) → Planned value room (Ok r) → r ≡ x → Planned value room (Ok x)
  by_plan room r x p e = rw e at p

  pub as_literal : run literal_char value ≡ length value → written value ≡ literal_text value
  unfolding written
  as_literal e = rw (eq-eqb (run literal_char value) (length value) e)

  pub as_basic : (run literal_char value ≡ length value → ⊥) → written value ≡ basic_text value
  unfolding written
  as_basic d = rw (ne_eqb (run literal_char value) (length value) d)

  pub answer_refused : (o : ℕ) (r : Refusal) → Err r ≡ check_of value → Err r ≡ write_answer value o
  unfolding write_answer
  answer_refused o r e = rw (← e)

  pub answer_checked : (o : ℕ) → Ok tt ≡ check_of value → fit_text (written value) o ≡ write_answer value o
  unfolding write_answer
  answer_checked o e = rw (← e)

  -- a plan of a text of n bytes, if it fits
  pub plan_fits : (plan : Plan) (n room : ℕ) → n ≡ length (written value) → (n ≤ room → Planned value room (Ok plan))
      → Planned value room (fitting plan n room)
  plan_fits plan n room is planned =
      by_lt (Planned value room) room n (λ short. (ap ShortOutput is, omega (arith, is))) planned
