-- The text that is written is the one that is asked for: the literal string where there is one, since no basic string is
-- shorter; else the basic string that leads all others. It is one, it is read back, and the call says so.
use Prim.Native.Nat.{ℕ, ◌≤◌, ◌<◌}
use mathlib.Core.Path.{◌≡◌, refl, sym, ◌∙◌, ap, subst}
use mathlib.Core.Logic.{◌⊎◌, inl, inr, ⊎_elim}
use mathlib.Core.List.{List}
use native.Mathlib.Decide.{ℕ_discrete}
use native.Mathlib.Omega.{arith}
use lib.ListN.{length}
use borrow.Author.Tests.{lt-ltb, le-ltb}
use Rattle.text_classes.specs.Classes.{literal_char}
use Rattle.text_classes.specs.Runs.{run}
use Rattle.text_scalars.specs.Utf8.{Scalar, All, encodes, Utf8}
use Rattle.text_refusals.specs.Refusals.{limit}
use Rattle.std.specs.Prelude.{Ok, Err}
use Rattle.text_refusals.specs.declared.Refusal.TheVariants.{ShortOutput}
use Rattle.text_scalars.proofs.ReadLaws.{utf8_iff}
use Rattle.text.proofs.AnswerLaws.{answer_valid}
use Rattle.decoder_rules.specs.declared.Edition.{Edition}
use Rattle.decoder_rules.specs.declared.Edition.TheVariants.{Toml10}
use Rattle.theorems_grammar.specs.Grammar.{basic_string}
use Rattle.theorems_grammar.specs.Strings.{StringKind, literal, basic, ml_literal, ml_basic, Derived}
use Rattle.theorems_grammar.proofs.ScalarTexts.{derived_scalar}
use Rattle.theorems_grammar.proofs.LineMarks.{marked}
use Rattle.built_writing.specs.Writing.{spelt, literal_text, basic_text, written, fit_text, write_answer}
use Rattle.built_writing.proofs.TextLaws.{around_long, as_literal, as_basic, answer_checked}
use Rattle.theorems_writing.specs.Shortest.{OneLine, Has, Shortest, ReadBack, WritesShortest}
use Rattle.theorems_writing.proofs.Order.{not_after_both, Leads, leads_long, leads_level}
use Rattle.theorems_writing.proofs.Bodies.{spelt_derived, basic_bytes, basic_leads, spelt_long, literal_derived, literal_bytes, literal_shape}
use Rattle.theorems_writing.proofs.BackLaws.{read_back}

-- ---- what any literal, and any basic, string with a value is

literal_has : {t value : List ℕ} → Has literal t value → (t ≡ literal_text value) × (run literal_char value ≡ length value)
literal_has {t} {value} h =
    let shape = literal_shape h.derived.derives in (
      sym h.derived.text ∙ shape.0 ∙ ap literal_text h.bytes,
      subst (λ (x : List ℕ). run literal_char x ≡ length x) h.bytes shape.1,
    )

basic_has : {t value : List ℕ} → Has basic t value → Leads (basic_text value) t
basic_has {t} {value} h =
    let leads = basic_leads h.derived.derives.0 in
    subst (λ (x : List ℕ). Leads (basic_text x) t) h.bytes
    (subst (λ (x : List ℕ). Leads (basic_text (encodes h.scalars)) x) h.derived.text leads)

either : (k : StringKind) → OneLine k → (k ≡ literal) ⊎ (k ≡ basic)
either literal h = inl refl
either basic h = inr refl
either ml_literal h = absurd h
either ml_basic h = absurd h

not_basic : literal ≡ basic → ⊥
not_basic e = let z : ◌≡◌ {A = ℕ} 0 1 = cc in omega arith

-- ---- the text is what is asked for

module _ (v : List ℕ) (scalar : All Scalar v) where
  abbrev value : List ℕ
  value = encodes v

  has : (k : StringKind) (cs t : List ℕ) → Derived Toml10 k cs v → encodes cs ≡ t → Has k t value
  has k cs t d e =
      record {
        scalars = v;
        derived = record { points = cs; scalar = derived_scalar Toml10 k cs v d; text = e; derives = d };
        bytes = refl;
      }

  module _ (all : run literal_char value ≡ length value) where
    literal_shorter : (k : StringKind) → OneLine k → (t : List ℕ) → Has k t value → length (literal_text value) ≤ length t
    literal_shorter literal l t h = omega (arith, ap length (literal_has h).0)
    literal_shorter basic l t h =
        omega (arith, leads_long (basic_has h), around_long 0x27 value, around_long 0x22 (spelt value), spelt_long value)
    literal_shorter ml_literal l t h = absurd l
    literal_shorter ml_basic l t h = absurd l

    literal_best : Shortest value (literal_text value)
    literal_best =
        record {
          kind = literal;
          one_line = tt;
          has = has literal (marked 0x27 v) (literal_text value) (literal_derived v scalar all) (literal_bytes v);
          shortest = literal_shorter;
          literal_first = λ t h e. refl;
          smallest = λ e t h s. absurd (not_basic e);
        }

    literal_one : (t : List ℕ) → Shortest value t → t ≡ literal_text value
    unfolding literal_best
    literal_one t b =
        let best = literal_best in
        let not-longer = best.shortest b.kind b.one_line t b.has in
        let not-shorter = b.shortest literal tt (literal_text value) best.has in
        let long : length (literal_text value) ≡ length t = omega arith in
        let kind = b.literal_first (literal_text value) best.has long in
        (literal_has (subst (λ (k : StringKind). Has k t value) kind b.has)).0

    literal_back : length (literal_text value) ≤ limit → ReadBack literal value (literal_text value)
    literal_back small =
        let derived = literal_derived v scalar all in
        read_back literal tt (marked 0x27 v) v (literal_text value) (λ ed. derived) (literal_bytes v) refl small

  module _ (other : run literal_char value ≡ length value → ⊥) where
    basic_shorter : (k : StringKind) → OneLine k → (t : List ℕ) → Has k t value → length (basic_text value) ≤ length t
    basic_shorter literal l t h = absurd (other (literal_has h).1)
    basic_shorter basic l t h = leads_long (basic_has h)
    basic_shorter ml_literal l t h = absurd l
    basic_shorter ml_basic l t h = absurd l

    derived : (ed : Edition) → Derived ed basic (marked 0x22 (spelt v)) v
    derived ed = (basic_string (spelt_derived ed v scalar), scalar)

    basic_best : Shortest value (basic_text value)
    basic_best =
        record {
          kind = basic;
          one_line = tt;
          has = has basic (marked 0x22 (spelt v)) (basic_text value) (derived Toml10) (basic_bytes v);
          shortest = basic_shorter;
          literal_first = λ t h e. absurd (other (literal_has h).1);
          smallest = λ e t h s. leads_level (basic_has h) s;
        }

    basic_one : (t : List ℕ) → Shortest value t → t ≡ basic_text value
    unfolding basic_best
    basic_one t b =
        let best = basic_best in
        let not-longer = best.shortest b.kind b.one_line t b.has in
        let not-shorter = b.shortest basic tt (basic_text value) best.has in
        let long : length (basic_text value) ≡ length t = omega arith in
        ⊎_elim (λ e. absurd (other (literal_has (subst (λ (k : StringKind). Has k t value) e b.has)).1))
        (λ e.
        let h = subst (λ (k : StringKind). Has k t value) e b.has in
        not_after_both (b.smallest e (basic_text value) best.has long) (best.smallest refl t h (sym long)))
        (either b.kind b.one_line)

    basic_back : length (basic_text value) ≤ limit → ReadBack basic value (basic_text value)
    basic_back small = read_back basic tt (marked 0x22 (spelt v)) v (basic_text value) derived (basic_bytes v) refl small

-- ---- the theorem

-- what the call answers for a value in UTF-8 within the limit, and an output of o bytes
module _ (value : List ℕ) (u : Utf8 value) (small : length value ≤ limit) (o : ℕ) where
  answer_is : fit_text (written value) o ≡ write_answer value o
  answer_is = answer_checked value o (answer_valid value small ((utf8_iff value).1 u))

  answer_text : length (written value) ≤ o → write_answer value o ≡ Ok (length (written value))
  unfolding fit_text
  answer_text h = sym answer_is ∙ rw (le-ltb o (length (written value)) h)

  answer_short : o < length (written value) → write_answer value o ≡ Err (ShortOutput (length (written value)))
  unfolding fit_text
  answer_short h = sym answer_is ∙ rw (lt-ltb o (length (written value)) h)

-- a text that is the best, is so alone, and is read back
pub record Chosen (value text : List ℕ) : Type 0 where
  pub best : Shortest value text
  pub one : (t : List ℕ) → Shortest value t → t ≡ text
  pub back : length text ≤ limit → ReadBack best.kind value text

chosen : (v : List ℕ) → All Scalar v → Chosen (encodes v) (written (encodes v))
unfolding literal_best basic_best
chosen v scalar =
    let value = encodes v in
    elim (ℕ_discrete (run literal_char value) (length value)) [
      | yes e ↦ subst (Chosen value) (sym (as_literal value e))
          (record { best = literal_best v scalar e; one = literal_one v scalar e; back = literal_back v scalar e })
      | no d ↦ subst (Chosen value) (sym (as_basic value d))
          (record { best = basic_best v scalar d; one = basic_one v scalar d; back = basic_back v scalar d })
    ]

pub writes_shortest : WritesShortest
writes_shortest value (v, scalar, is) =
    let c : Chosen value (written value) = subst (λ (x : List ℕ). Chosen x (written x)) is (chosen v scalar) in
    let u : Utf8 value = (v, scalar, is) in
    record {
      best = c.best;
      one = c.one;
      back = c.back;
      answered = λ small out. answer_text value u small (length out);
      output = λ small out h. rw (answer_text value u small (length out) h);
      refused = λ small out. answer_short value u small (length out);
    }
