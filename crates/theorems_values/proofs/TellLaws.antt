-- Each answer is given exactly when its conditions hold, and the kinds of the run decide it.
use Prim.Native.Nat.{ℕ, ◌≤◌, ◌<◌}
use mathlib.Core.Path.{◌≡◌, refl, sym, subst, ◌∙◌}
use mathlib.Core.Bool.{Bool, true, false}
use mathlib.Core.Logic.{◌⊎◌, inl, inr, ◌↔◌}
use mathlib.Core.List.{List}
use native.Mathlib.Omega.{arith}
use lib.ListN.{length}
use Rattle.std.specs.Prelude.{Result, Ok, Err}
use Rattle.text_refusals.specs.declared.Refusal.{Refusal}
use Rattle.text_refusals.specs.declared.Refusal.TheVariants.{OutOfPlace, NoEdition, TooDeep}
use Rattle.decoder_rules.specs.declared.Edition.{Edition}
use Rattle.decoder_rules.specs.Encodings.{edition_number}
use Rattle.built_values.specs.Values.{Val}
use Rattle.built_values.specs.Depth.{Deep}
use Rattle.built_values.specs.Answers.{run_of, Judged, Named, ValueAnswer}
use Rattle.built_values.proofs.NumberLaws.{named_one, one_answer, away}
use Rattle.theorems_values.specs.ValuesTell.{Within, Served, Tells, AnswersTell, KindsAlone}

-- ---- the conditions give the answer

module _ (records : List (List ℕ)) (edition start end : ℕ) where
  served_value : (v : Edition) → Served records edition start end v → Val v (run_of records start end)
      → ValueAnswer records edition start end (Ok true)
  served_value v s d = ValueAnswer.within s.within.0 s.within.1 (Named.named v s.named (Judged.value s.shallow d))

  served_none : (v : Edition) → Served records edition start end v → (Val v (run_of records start end) → ⊥)
      → ValueAnswer records edition start end (Ok false)
  served_none v s d = ValueAnswer.within s.within.0 s.within.1 (Named.named v s.named (Judged.no_value s.shallow d))

  unnamed : Within records start end → ((v : Edition) → edition_number v ≡ edition → ⊥)
      → ValueAnswer records edition start end (Err (NoEdition edition))
  unnamed w n = ValueAnswer.within w.0 w.1 (Named.no_edition n)

  deep : Within records start end → (v : Edition) → edition_number v ≡ edition → Deep (run_of records start end)
      → ValueAnswer records edition start end (Err TooDeep)
  deep w v e d = ValueAnswer.within w.0 w.1 (Named.named v e (Judged.too_deep d))

  -- ---- and the answer the conditions

  -- what each answer says
  abbrev Says : Result Bool Refusal → Type 0
  Says answer =
      (answer ≡ Ok true → (v : Edition) × Served records edition start end v × Val v (run_of records start end))
      × ((answer ≡ Ok false → (v : Edition) × Served records edition start end v × (Val v (run_of records start end) → ⊥))
      × ((answer ≡ Err (OutOfPlace (length records)) → (length records < end) ⊎ (end < start))
      × ((answer ≡ Err (NoEdition edition) → Within records start end × ((v : Edition) → edition_number v ≡ edition → ⊥))
      × (answer ≡ Err TooDeep
      → Within records start end × ((v : Edition) × (edition_number v ≡ edition)) × Deep (run_of records start end)))))

  differ : {P : Type 0} → ◌≡◌ {A = ℕ} 0 1 → P
  differ z = absurd (omega arith)

  says : (answer : Result Bool Refusal) → ValueAnswer records edition start end answer → Says answer
  says answer (ValueAnswer.outside h) = (
    (λ e. differ cc),
    ((λ e. differ cc), ((λ e. h), ((λ e. differ cc), λ e. differ cc))),
  )
  says answer (ValueAnswer.within a b (Named.no_edition n)) = (
    (λ e. differ cc),
    ((λ e. differ cc), ((λ e. differ cc), ((λ e. ((a, b), n)), λ e. differ cc))),
  )
  says answer (ValueAnswer.within a b (Named.named v m (Judged.too_deep d))) = (
    (λ e. differ cc),
    ((λ e. differ cc), ((λ e. differ cc), ((λ e. differ cc), λ e. ((a, b), (v, m), d)))),
  )
  says answer (ValueAnswer.within a b (Named.named v m (Judged.value n d))) = (
    (λ e. (v, record { within = (a, b); named = m; shallow = n }, d)),
    ((λ e. differ cc), ((λ e. differ cc), ((λ e. differ cc), λ e. differ cc))),
  )
  says answer (ValueAnswer.within a b (Named.named v m (Judged.no_value n d))) = (
    (λ e. differ cc),
    (
      (λ e. (v, record { within = (a, b); named = m; shallow = n }, d)),
      ((λ e. differ cc), ((λ e. differ cc), λ e. differ cc)),
    ),
  )

pub tells : AnswersTell
tells records edition start end answer a =
    let s = says records edition start end answer a in
    record {
      yes_value = (s.0, λ (v, w, d). one_answer a (served_value records edition start end v w d));
      not_value = (s.1.0, λ (v, w, d). one_answer a (served_none records edition start end v w d));
      outside = (s.1.1.0, λ h. one_answer a (ValueAnswer.outside h));
      no_edition = (s.1.1.1.0, λ (w, n). one_answer a (unnamed records edition start end w n));
      too_deep = (s.1.1.1.1, λ (w, (v, e), d). one_answer a (deep records edition start end w v e d));
    }

-- ---- the kinds of the run decide

pub named_of : (records : List (List ℕ)) (edition start end : ℕ) (answer : Result Bool Refusal) → Within records start end
    → ValueAnswer records edition start end answer → Named edition (run_of records start end) answer
named_of records edition start end answer w (ValueAnswer.outside h) = absurd (away (length records) h w.0 w.1)
named_of records edition start end answer w (ValueAnswer.within a b d) = d

pub kinds_alone : KindsAlone
kinds_alone records others edition start end from to answer other w x e a b =
    let first = named_of records edition start end answer w a in
    named_one (subst (λ (run : List ℕ). Named edition run answer) e first) (named_of others edition from to other x b)
