-- STATEMENT. What the answers of `is_value` and `is_value_in` tell. Proved in proofs/TellLaws.antt, EditionLaws.antt,
-- KindLaws.antt and NestLaws.antt, each under the name that stands before it.
--
-- The names: `ValueAnswer`, `run_of`, `Val`, `Deep` (crate built_values) are what the calls promise, the kinds of a run,
-- the grammar of a value, and a run whose brackets are nested too deep.
use Rattle.std.specs.Prelude.{ℕ, zero, suc, ◌≤◌, ◌<◌, Result, Ok, Err}
use mathlib.Core.{Path.◌≡◌, Bool.Bool, Bool.true, Bool.false, Logic.◌⊎◌, Logic.◌↔◌, List.List, List.[], List.◌∷◌, List.◌++◌}
use lib.{ListN.length}
use Rattle.text_refusals.specs.Refusals.{depth}
use Rattle.text_refusals.specs.declared.Refusal.{Refusal}
use Rattle.text_refusals.specs.declared.Refusal.TheVariants.{OutOfPlace, NoEdition, TooDeep}
use Rattle.text_scalars.specs.{Utf8.All}
use Rattle.lexer_token.specs.{KindNumbers.kind_number, Told.is_kind}
use Rattle.lexer_token.specs.declared.TokenKind.TheVariants.{LeftSquareBracket, RightSquareBracket}
use Rattle.decoder_rules.specs.declared.Edition.{Edition}
use Rattle.decoder_rules.specs.declared.Edition.TheVariants.{Toml10, Toml11}
use Rattle.decoder_rules.specs.Encodings.{edition_number}
use Rattle.built_values.specs.Values.{Val}
use Rattle.built_values.specs.Depth.{Deep}
use Rattle.built_values.specs.Answers.{run_of, ValueAnswer}

-- the run is within the records
abbrev pub Within : List (List ℕ) → ℕ → ℕ → Type 0
Within records start end = (end ≤ length records) × (start ≤ end)

-- the call is served: the run is within the records, the number is that of the edition v, and the run is not too deep
pub record Served (records : List (List ℕ)) (edition start end : ℕ) (v : Edition) : Type 0 where
  pub within : Within records start end
  pub named : edition_number v ≡ edition
  pub shallow : Deep (run_of records start end) → ⊥

-- `tells`: each answer is given exactly when its conditions hold
pub record Tells (records : List (List ℕ)) (edition start end : ℕ) (answer : Result Bool Refusal) : Type 0 where
  pub yes_value : (answer ≡ Ok true) ↔ ((v : Edition) × Served records edition start end v × Val v (run_of records start end))
  pub not_value : (answer ≡ Ok false)
      ↔ ((v : Edition) × Served records edition start end v × (Val v (run_of records start end) → ⊥))
  pub outside : (answer ≡ Err (OutOfPlace (length records))) ↔ ((length records < end) ⊎ (end < start))
  pub no_edition : (answer ≡ Err (NoEdition edition))
      ↔ (Within records start end × ((v : Edition) → edition_number v ≡ edition → ⊥))
  pub too_deep : (answer ≡ Err TooDeep)
      ↔ (Within records start end × ((v : Edition) × (edition_number v ≡ edition)) × Deep (run_of records start end))

abbrev pub AnswersTell : Type 0
AnswersTell =
    (records : List (List ℕ)) (edition start end : ℕ) (answer : Result Bool Refusal) → ValueAnswer records edition start end answer
    → Tells records edition start end answer

-- `kinds_alone`: the answer depends on the kinds of the run alone, and on the edition: not on the other numbers of the
-- records, nor on the records around the run
abbrev pub KindsAlone : Type 0
KindsAlone =
    (records others : List (List ℕ)) (edition start end from to : ℕ) (answer other : Result Bool Refusal)
    → Within records start end → Within others from to → run_of records start end ≡ run_of others from to
    → ValueAnswer records edition start end answer → ValueAnswer others edition from to other → answer ≡ other

-- `only_kinds`: a run that holds a number of no kind is no value
abbrev pub OnlyKinds : Type 0
OnlyKinds = (v : Edition) (run : List ℕ) → Val v run → All (λ k. is_kind k ≡ true) run

-- `ten_in_eleven`: what is a value by TOML 1.0.0 is one by TOML 1.1.0, and so the calls answer
abbrev pub TenInEleven : Type 0
TenInEleven = (run : List ℕ) → Val Toml10 run → Val Toml11 run

abbrev pub YesInBoth : Type 0
YesInBoth =
    (records : List (List ℕ)) (start end : ℕ) (answer : Result Bool Refusal) → ValueAnswer records (edition_number Toml10) start end (Ok true)
    → ValueAnswer records (edition_number Toml11) start end answer → answer ≡ Ok true

-- so many arrays, each the one item of the one around it: n opening brackets, before the same number of closing ones
abbrev pub opened : ℕ → List ℕ → List ℕ
opened zero s = s
opened (suc n) s = kind_number LeftSquareBracket ∷ opened n s

abbrev pub closed : ℕ → List ℕ
closed zero = []
closed (suc n) = kind_number RightSquareBracket ∷ closed n

abbrev pub nested : ℕ → List ℕ
nested n = opened n (closed n)

-- `nested_answers`: arrays nested as deep as the depth are answered, and are a value; one deeper is refused
pub record NestedAnswers (records : List (List ℕ)) (start end n : ℕ) (v : Edition) (answer : Result Bool Refusal) : Type 0 where
  pub answered : 1 ≤ n → n ≤ depth → answer ≡ Ok true
  pub refused : depth < n → answer ≡ Err TooDeep

abbrev pub NestedTell : Type 0
NestedTell =
    (records : List (List ℕ)) (start end n : ℕ) (v : Edition) (answer : Result Bool Refusal) → Within records start end
    → run_of records start end ≡ nested n → ValueAnswer records (edition_number v) start end answer
    → NestedAnswers records start end n v answer
