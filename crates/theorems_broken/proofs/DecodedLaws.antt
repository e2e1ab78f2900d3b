-- What the answer says of the tokens in turn: on UTF-8 it is that of whole lexing and decoding.
use Prim.Native.Nat.{ℕ, ◌+◌, ◌*◌, ◌-◌, ◌≤◌}
use mathlib.Core.Path.{◌≡◌, refl, sym, ap, ◌∙◌}
use mathlib.Core.Bool.{Bool, true, false, cond}
use mathlib.Core.Logic.{◌⊎◌, inl, inr, ⊎_elim}
use mathlib.Core.List.Memᴰ
use mathlib.Core.List.{List, [], ◌∷◌, ◌++◌, Memᴰ}
use native.Mathlib.Omega.{arith}
use Rattle.std.specs.Prelude.{None, Result, Ok, Err}
use borrow.Author.Tests.{ne_eqb}
use lib.ListN.{length, drop, length-take, length-drop}
use Rattle.text_refusals.specs.Refusals.{limit}
use Rattle.text_refusals.specs.declared.Refusal.{Refusal}
use Rattle.text_scalars.specs.Utf8.{Utf8}
use Rattle.text_scalars.proofs.ReadLaws.{utf8_iff}
use Rattle.text.specs.CheckMeans.{check_of}
use Rattle.text.proofs.AnswerLaws.{answer_valid}
use Rattle.lexer_token.specs.Encodings.{kind_encoding}
use Rattle.lexer_token.specs.Records.{text_of}
use Rattle.lexer_token.specs.declared.Token.{Token}
use Rattle.decoder_rules.specs.Encodings.{choice_by}
use Rattle.decoder_rules.specs.Decoding.{written, bytes_of, errors_of, errors_by, decoded_by, decode_in, after}
use Rattle.decoder_rules.specs.declared.Encoding.{Encoding}
use Rattle.decoder_rules.proofs.DecodeLaws.{decode_valid, fitted_written}
use Rattle.decoder_rules.proofs.Bounds.{bytes_most, errors_few}
use Rattle.built_broken.specs.Broken.{BrokenFound, is_utf8, token_errors, broken_by, not_utf8, first_among}
use Rattle.built_broken.proofs.ReadableLaws.{readable}
use Rattle.theorems_broken.specs.Theorems.{first_decoded, by_call, first_called}

-- ---- over the definitions

pub among_decoded : (doc : List ℕ) (edition : ℕ) (ts : List Token) → ((t : Token) → Memᴰ t ts → Utf8 (text_of doc t))
    → first_among doc edition ts ≡ first_decoded doc edition ts
unfolding first_among first_decoded
among_decoded doc edition [] u = refl
among_decoded doc edition (t ∷ ts) u =
    rw (readable (text_of doc t) (u t (Memᴰ.head refl)))
    (ap (broken_by t (token_errors doc edition t)) (among_decoded doc edition ts (λ x m. u x (Memᴰ.tail m))))

-- ---- over the calls

-- what a call leaves decides as the errors do
by_errors : (t : Token) (errors errs : List (List ℕ)) (bytes : ℕ) (rest : BrokenFound)
    → by_call t (written bytes (length errors)) (errors ++ drop (length errors) errs) rest ≡ broken_by t errors rest
by_errors t [] errs bytes rest = refl
by_errors t (e ∷ es) errs bytes rest =
    let some : length (e ∷ es) ≡ 0 → ⊥ = λ z. omega arith in
    rw (ne_eqb (length (e ∷ es)) 0 some)

by_choice : (t : Token) (choice : Result Encoding Refusal) (text : List ℕ) (room : ℕ) (errs : List (List ℕ)) (rest : BrokenFound)
    → 3 * length text ≤ 2 * room → length text + 2 ≤ length errs
    → let answer = decoded_by (Ok (tt {0})) choice text room (length errs) in
    by_call t answer (after answer (errors_by choice text) errs) rest ≡ broken_by t (errors_by choice text) rest
by_choice t (Err r) text room errs rest enough many = refl
by_choice t (Ok e) text room errs rest enough many =
    let bytes = length (bytes_of e text) in
    let noted = length (errors_of e text) in
    let fits : bytes ≤ room = omega (arith, bytes_most e text) in
    let few : noted ≤ length errs = omega (arith, errors_few e text) in
    let answer = sym (fitted_written (bytes_of e text) (errors_of e text) room (length errs) bytes noted refl refl fits few) in
    rw answer (by_errors t (errors_of e text) errs bytes rest)

by_call_lem : (doc : List ℕ) (edition : ℕ) (t : Token) (room : ℕ) (errs : List (List ℕ)) (rest : BrokenFound)
    → Utf8 (text_of doc t) → length (text_of doc t) ≤ limit → 3 * length (text_of doc t) ≤ 2 * room
    → length (text_of doc t) + 2 ≤ length errs
    → let answer = decode_in (text_of doc t) edition (kind_encoding t.kind) room (length errs) in
    by_call t answer (after answer (token_errors doc edition t) errs) rest ≡ broken_by t (token_errors doc edition t) rest
by_call_lem doc edition t room errs rest u small enough many =
    let text = text_of doc t in
    let valid : Ok (tt {0}) ≡ check_of text = answer_valid text small ((utf8_iff text).1 u) in
    rw (← decode_valid text edition (kind_encoding t.kind) room (length errs) valid)
    (by_choice t (choice_by edition (kind_encoding t.kind)) text room errs rest enough many)

text_fits : (doc : List ℕ) (t : Token) → length (text_of doc t) ≤ length doc
text_fits doc t =
    omega (arith, length-take (t.span.end - t.span.start) (drop t.span.start doc), length-drop t.span.start doc)

pub decoded_called : (doc : List ℕ) (edition room : ℕ) (errs : List (List ℕ)) (ts : List Token)
    → ((t : Token) → Memᴰ t ts → Utf8 (text_of doc t)) → length doc ≤ limit → 3 * length doc ≤ 2 * room
    → length doc + 2 ≤ length errs → first_decoded doc edition ts ≡ first_called doc edition room errs ts
unfolding first_decoded first_called
decoded_called doc edition room errs [] u small enough many = refl
decoded_called doc edition room errs (t ∷ ts) u small enough many =
    let size = text_fits doc t in
    let rest = decoded_called doc edition room errs ts (λ x m. u x (Memᴰ.tail m)) small enough many in
    ap (broken_by t (token_errors doc edition t)) rest
    ∙ sym (by_call_lem doc edition t room errs (first_called doc edition room errs ts) (u t (Memᴰ.head refl))
    (omega arith) (omega arith) (omega arith))

-- ---- what an answer says of the tokens

sound_head : (doc : List ℕ) (t : Token) (u : Bool) (errors : List (List ℕ)) (rest : BrokenFound)
    → cond u (broken_by t errors rest) (not_utf8 doc) ≡ Ok None → (u ≡ true) × (errors ≡ []) × (rest ≡ Ok None)
sound_head doc t true [] rest e = (refl, refl, e)
sound_head doc t true (x ∷ xs) rest e = absurd (let z : ◌≡◌ {A = ℕ} 0 1 = cc in omega arith)
sound_head doc t false errors rest e = absurd (let z : ◌≡◌ {A = ℕ} 0 1 = cc in omega arith)

-- where none decides, each is UTF-8 and has no error
pub sound_tokens : (doc : List ℕ) (edition : ℕ) (ts : List Token) → first_among doc edition ts ≡ Ok None
    → (t : Token) → Memᴰ t ts → token_errors doc edition t ≡ []
unfolding first_among
sound_tokens doc edition [] e t m = absurd (Memᴰ.not-nil m)
sound_tokens doc edition (x ∷ ts) e t m =
    let h = sound_head doc x (is_utf8 (text_of doc x)) (token_errors doc edition x) (first_among doc edition ts) e in
    elim (Memᴰ.cases_cons m) [
      | inl same ↦ ap (token_errors doc edition) same ∙ h.1
      | inr k ↦ sound_tokens doc edition ts h.2 t k
    ]

refused_head : (doc : List ℕ) (t : Token) (u : Bool) (errors : List (List ℕ)) (rest : BrokenFound) (r : Refusal)
    → cond u (broken_by t errors rest) (not_utf8 doc) ≡ Err r
    → ((u ≡ false) × (not_utf8 doc ≡ Err r)) ⊎ (rest ≡ Err r)
refused_head doc t true [] rest r e = inr e
refused_head doc t true (x ∷ xs) rest r e = absurd (let z : ◌≡◌ {A = ℕ} 0 1 = cc in omega arith)
refused_head doc t false errors rest r e = inl (refl, e)

-- where one is refused, some token is not UTF-8, and the refusal is the rule's
pub record Refuses (doc : List ℕ) (ts : List Token) (r : Refusal) : Type 0 where
  pub token : Token
  pub listed : Memᴰ token ts
  pub bad : is_utf8 (text_of doc token) ≡ false
  pub is : not_utf8 doc ≡ Err r

pub refused_token : (doc : List ℕ) (edition : ℕ) (ts : List Token) (r : Refusal) → first_among doc edition ts ≡ Err r → Refuses doc ts r
unfolding first_among
refused_token doc edition [] r e = absurd (let z : ◌≡◌ {A = ℕ} 0 1 = cc in omega arith)
refused_token doc edition (x ∷ ts) r e =
    ⊎_elim
    (λ w. record { token = x; listed = Memᴰ.head refl; bad = w.0; is = w.1 })
    (λ w.
    let rest = refused_token doc edition ts r w in
    record { token = rest.token; listed = Memᴰ.tail rest.listed; bad = rest.bad; is = rest.is })
    (refused_head doc x (is_utf8 (text_of doc x)) (token_errors doc edition x) (first_among doc edition ts) r e)
