-- RULE. What `is_value_in` answers, given records of tokens, the number of an edition, and a run of the records from
-- `start` up to `end`, which is not included. It is said in the order of the refusals: 6, then 9, then 10. `is_value`
-- reads TOML 1.0.
use Rattle.std.specs.Prelude.{ℕ, ◌-◌, ◌≤◌, ◌<◌, Result, Ok, Err}
use mathlib.Core.{Path.◌≡◌, Bool.Bool, Bool.true, Bool.false, Logic.◌⊎◌, List.List, List.[], List.◌∷◌}
use lib.{ListN.length, ListN.get_or, ListN.take, ListN.drop}
use Rattle.text_refusals.specs.declared.Refusal.{Refusal}
use Rattle.text_refusals.specs.declared.Refusal.TheVariants.{OutOfPlace, NoEdition, TooDeep}
use Rattle.decoder_rules.specs.declared.Edition.{Edition}
use Rattle.decoder_rules.specs.Encodings.{edition_number}
use Rattle.built_values.specs.Values.{Val}
use Rattle.built_values.specs.Depth.{Deep}

-- the kinds of some records: the first number of each
unfoldable pub kinds_of : List (List ℕ) → List ℕ
kinds_of [] = []
kinds_of (r ∷ records) = get_or r 0 0 ∷ kinds_of records

abbrev pub run_of : List (List ℕ) → ℕ → ℕ → List ℕ
run_of records start end = kinds_of (take (end - start) (drop start records))

-- a run, by an edition: refusal 10 exactly where it is too deep; else a value exactly where the rules derive the whole run
pub data Judged (v : Edition) (run : List ℕ) : Result Bool Refusal → Type 0 where
  too_deep : Deep run → Judged v run (Err TooDeep)
  value : (Deep run → ⊥) → Val v run → Judged v run (Ok true)
  no_value : (Deep run → ⊥) → (Val v run → ⊥) → Judged v run (Ok false)

-- by the number of an edition: refusal 9 with the number, exactly where it is none's
pub data Named (edition : ℕ) (run : List ℕ) : Result Bool Refusal → Type 0 where
  no_edition : ((v : Edition) → edition_number v ≡ edition → ⊥) → Named edition run (Err (NoEdition edition))
  named : {answer : Result Bool Refusal} (v : Edition) → edition_number v ≡ edition → Judged v run answer → Named edition run answer

-- refusal 6 with the number of records, exactly where the run passes them or starts after its end
pub data ValueAnswer (records : List (List ℕ)) (edition start end : ℕ) : Result Bool Refusal → Type 0 where
  outside : (length records < end) ⊎ (end < start) → ValueAnswer records edition start end (Err (OutOfPlace (length records)))
  within : {answer : Result Bool Refusal} → end ≤ length records → start ≤ end → Named edition (run_of records start end) answer
      → ValueAnswer records edition start end answer
