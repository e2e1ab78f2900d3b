-- What demand 3 says of the call: what `decode_in` answers for a text of a kind of string, within the limit.
use Prim.Native.Nat.{ℕ, ◌≤◌, ◌<◌}
use mathlib.Core.Path.{◌≡◌, refl, sym, ◌∙◌, ap, subst}
use mathlib.Core.Logic.{◌↔◌}
use mathlib.Core.List.{List, [], ◌++◌}
use native.Mathlib.Decide.{dec_lt}
use native.Mathlib.Omega.{arith}
use lib.ListN.{length, drop}
use Rattle.text_scalars.specs.Utf8.{encodes, Utf8}
use Rattle.text_refusals.specs.Refusals.{limit}
use Rattle.text_scalars.proofs.ReadLaws.{utf8_iff}
use Rattle.text.proofs.AnswerLaws.{answer_valid}
use Rattle.decoder_rules.specs.declared.Encoding.{Encoding}
use Rattle.std.specs.Prelude.{Result, Ok}
use Rattle.text_refusals.specs.declared.Refusal.{Refusal}
use Rattle.text_refusals.specs.Told.{told_number}
use Rattle.decoder_rules.specs.declared.Decoded.{Decoded}
use Rattle.decoder_rules.specs.declared.Edition.{Edition}
use Rattle.decoder_rules.specs.declared.Edition.TheVariants.{Toml10, Toml11}
use Rattle.decoder_rules.specs.Encodings.{choice_in, choice_by, edition_number}
use Rattle.decoder_rules.specs.Decoding.{bytes_of, errors_of, written, fitted, decoded_by}
use Rattle.decoder_rules.specs.Told.{decoded_value, decoded_errors}
use Rattle.decoder_rules.proofs.DecodeLaws.{fitted_short, fitted_few, fitted_written, decode_valid}
use Rattle.lexer_token.specs.KindNumbers.{kind_number}
use Rattle.theorems_grammar.specs.Strings.{StringKind, literal, basic, ml_literal, ml_basic, token_kind, encoding}
use Rattle.theorems_grammar.specs.Demand3.{TextDerived, TextMeans, answer_of, output_of, Called}
use Rattle.decoder_rules.proofs.AnswerLaws.{nil}

-- ---- what is answered where only the sizes of the lent memory decide

-- n is the answer's number, for b bytes and m errors, an output of o bytes and e error records
data Outcome (b m o e n : ℕ) : Type 0 where
  too_short : o < b → n ≡ 4 → Outcome b m o e n
  too_few : b ≤ o → e < m → n ≡ 5 → Outcome b m o e n
  fits : b ≤ o → m ≤ e → n ≡ 0 → Outcome b m o e n

module _ (bytes : List ℕ) (errors : List (List ℕ)) (o e : ℕ) (a : Result Decoded Refusal) (answer_is : fitted bytes errors o e ≡ a) where
  in_room : length bytes ≤ o → length errors ≤ e → written (length bytes) (length errors) ≡ a
  in_room bytes_fit errors-fit =
      fitted_written bytes errors o e (length bytes) (length errors) refl refl bytes_fit errors-fit ∙ answer_is

  outcome : Outcome (length bytes) (length errors) o e (told_number a)
  outcome = elim (dec_lt o (length bytes)) [
    | yes too_long ↦ too_short too_long
        (ap told_number (sym (fitted_short bytes errors o e (length bytes) refl too_long ∙ answer_is)))
    | no bytes_fit ↦ elim (dec_lt e (length errors)) [
      | yes too_many ↦ too_few (omega arith) too_many (ap told_number (sym (
          fitted_few bytes errors o e (length bytes) (length errors) refl refl (omega arith) too_many ∙ answer_is)))
      | no errors-fit ↦ fits (omega arith) (omega arith) (ap told_number (sym (in_room (omega arith) (omega arith))))
    ]
  ]

  -- n bytes and no error are answered exactly where there are n bytes, they fit, and there is no error
  clean : (n : ℕ) → (a ≡ written n 0) ↔ ((errors ≡ []) × (n ≡ length bytes) × (length bytes ≤ o))
  clean n = (λ answered. to answered outcome, from)
    where
      to : a ≡ written n 0 → Outcome (length bytes) (length errors) o e (told_number a)
          → (errors ≡ []) × (n ≡ length bytes) × (length bytes ≤ o)
      to answered (too_short too_long number) = absurd (omega (arith, ap told_number answered))
      to answered (too_few bytes_fit too_many number) = absurd (omega (arith, ap told_number answered))
      to answered (fits bytes_fit errors-fit number) =
          let same = in_room bytes_fit errors-fit ∙ answered in
          (nil errors (ap decoded_errors same), sym (ap decoded_value same), bytes_fit)

      from : (errors ≡ []) × (n ≡ length bytes) × (length bytes ≤ o) → a ≡ written n 0
      from (no_errors, count, bytes_fit) =
          let none : length errors ≡ 0 = ap length no_errors in
          sym (in_room bytes_fit (omega arith))
          ∙ (ap (λ (i : ℕ). written (length bytes) i) none ∙ ap (λ (i : ℕ). written i 0) (sym count))

module _ {b m o e n : ℕ} where
  never : (k : ℕ) → (k ≡ 4 → ⊥) → (k ≡ 5 → ⊥) → (k ≡ 0 → ⊥) → Outcome b m o e n → n ≡ k → ⊥
  never k not-4 not-5 not-0 (too_short too_long number) is = not-4 (sym is ∙ number)
  never k not-4 not-5 not-0 (too_few bytes_fit too_many number) is = not-5 (sym is ∙ number)
  never k not-4 not-5 not-0 (fits bytes_fit errors-fit number) is = not-0 (sym is ∙ number)

  when_short : Outcome b m o e n → (n ≡ 4) ↔ (o < b)
  when_short (too_short too_long number) = ((λ z. too_long), λ z. number)
  when_short (too_few bytes_fit too_many number) = ((λ z. omega arith), λ z. omega arith)
  when_short (fits bytes_fit errors-fit number) = ((λ z. omega arith), λ z. omega arith)

  when_few : Outcome b m o e n → (n ≡ 5) ↔ ((b ≤ o) × (e < m))
  when_few (too_short too_long number) = ((λ z. absurd (omega arith)), λ z. omega (arith, z.0))
  when_few (too_few bytes_fit too_many number) = ((λ z. (bytes_fit, too_many)), λ z. number)
  when_few (fits bytes_fit errors-fit number) = ((λ z. absurd (omega arith)), λ z. omega (arith, z.1))

  when_fits : Outcome b m o e n → (n ≡ 0) ↔ ((b ≤ o) × (m ≤ e))
  when_fits (too_short too_long number) = ((λ z. absurd (omega arith)), λ z. omega (arith, z.0))
  when_fits (too_few bytes_fit too_many number) = ((λ z. absurd (omega arith)), λ z. omega (arith, z.1))
  when_fits (fits bytes_fit errors-fit number) = ((λ z. (bytes_fit, errors-fit)), λ z. number)

-- ---- the call

known_kind : (ed : Edition) (s : StringKind) → Ok (encoding ed s) ≡ choice_by (edition_number ed) (kind_number (token_kind s))
unfolding choice_by choice_in
known_kind Toml10 literal = refl
known_kind Toml10 basic = refl
known_kind Toml10 ml_literal = refl
known_kind Toml10 ml_basic = refl
known_kind Toml11 literal = refl
known_kind Toml11 basic = refl
known_kind Toml11 ml_literal = refl
known_kind Toml11 ml_basic = refl

module _ (ed : Edition) (s : StringKind) (t : List ℕ) (u : Utf8 t) (small : length t ≤ limit)
    (derived : (errors_of (encoding ed s) t ≡ []) ↔ ((v : List ℕ) × TextDerived ed s t v))
    (meant : (errors_of (encoding ed s) t ≡ []) ↔ ((v : List ℕ) × TextMeans ed s t v))
    (value : (v : List ℕ) → TextMeans ed s t v → bytes_of (encoding ed s) t ≡ encodes v) (out : List ℕ) (e : ℕ) where
  abbrev bytes : List ℕ
  bytes = bytes_of (encoding ed s) t

  abbrev errors : List (List ℕ)
  errors = errors_of (encoding ed s) t

  answer_is : fitted bytes errors (length out) e ≡ answer_of ed s t out e
  answer_is =
      ap (λ (c : Result Encoding Refusal). decoded_by (Ok tt) c t (length out) e) (known_kind ed s)
      ∙ decode_valid t (edition_number ed) (kind_number (token_kind s)) (length out) e (answer_valid t small ((utf8_iff t).1 u))

  answer_clean : (n : ℕ)
      → (answer_of ed s t out e ≡ written n 0) ↔ ((errors ≡ []) × (n ≡ length bytes) × (length bytes ≤ length out))
  answer_clean = clean bytes errors (length out) e (answer_of ed s t out e) answer_is

  answer_means : (n : ℕ) → (answer_of ed s t out e ≡ written n 0)
      ↔ ((v : List ℕ) × TextMeans ed s t v × (n ≡ length (encodes v)) × (length (encodes v) ≤ length out))
  answer_means n = (
    λ answered.
        let no_error = (answer_clean n).0 answered in
        let meaning = meant.0 no_error.0 in
        let same_bytes = value meaning.0 meaning.1 in (
          meaning.0,
          meaning.1,
          no_error.1 ∙ ap length same_bytes,
          subst (λ (z : List ℕ). length z ≤ length out) same_bytes no_error.2,
        ),
    λ meaning.
        let same_bytes = value meaning.0 meaning.1 in
        let room = subst (λ (z : List ℕ). length z ≤ length out) (sym same_bytes) meaning.3 in
        (answer_clean n).1 (meant.1 (meaning.0, meaning.1), meaning.2 ∙ sym (ap length same_bytes), room),
  )

  output_is : (v : List ℕ) → TextMeans ed s t v → length (encodes v) ≤ length out
      → output_of ed s t out e ≡ encodes v ++ drop (length (encodes v)) out
  output_is v means room =
      let answered = (answer_means (length (encodes v))).1 (v, means, refl, room) in
      rw (answered, ← known_kind ed s, value v means)

  pub called_is : Called ed s t out e
  called_is =
      let result = outcome bytes errors (length out) e (answer_of ed s t out e) answer_is in
      record {
        within_limit = never 2 (λ z. omega arith) (λ z. omega arith) (λ z. omega arith) result;
        valid = never 1 (λ z. omega arith) (λ z. omega arith) (λ z. omega arith) result;
        known = never 7 (λ z. omega arith) (λ z. omega arith) (λ z. omega arith) result;
        named = never 9 (λ z. omega arith) (λ z. omega arith) (λ z. omega arith) result;
        short = when_short result;
        few = when_few result;
        answered = when_fits result;
        no_error = λ room.
            let clean-iff = answer_clean (length bytes) in
            (λ answered. derived.0 (clean-iff.0 answered).0, λ text. clean-iff.1 (derived.1 text, refl, room));
        meaning = answer_means;
        output = output_is;
      }
