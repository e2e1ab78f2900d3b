-- The theorems of specs/Theorems.antt.
use Prim.Native.Nat.{ℕ, zero, suc, ◌+◌, ◌≤◌, ◌<◌}
use mathlib.Core.Path.{◌≡◌, refl, sym, ap, ◌∙◌, subst}
use mathlib.Core.Bool.{Bool, true, false, cond}
use mathlib.Core.List.{List, [], ◌∷◌}
use native.Mathlib.Omega.{arith}
use Rattle.std.specs.Prelude.{None, Ok, Err}
use native.Mathlib.Decide.{dec_lt}
use lib.Dec.{eqb}
use lib.ListN.{length, get_or, take, drop, length-take}
use lib.Seq.{take-take, take_all, take-suc, get_or-take}
use Rattle.text_classes.specs.Classes.{wschar, token_start}
use Rattle.text_classes.specs.Runs.{run, stands}
use Rattle.text_classes.proofs.FirstLaws.{first_take}
use Rattle.text_refusals.specs.Refusals.{limit, refusal_number}
use Rattle.text_refusals.specs.declared.Refusal.{Refusal}
use Rattle.text_refusals.specs.declared.Refusal.TheVariants.{TooLong, NoEdition, NotUtf8}
use Rattle.text_scalars.specs.Utf8.{Utf8}
use Rattle.text_scalars.specs.Utf8Read.{valid_prefix}
use Rattle.text_scalars.proofs.ReadLaws.{valid_le, utf8_iff}
use Rattle.text_characters.specs.Lead.{fault_len}
use Rattle.text.specs.CheckMeans.{check_of}
use Rattle.text.proofs.AnswerLaws.{answer_broken}
use Rattle.lexer_token.specs.Encodings.{kind_encoding}
use Rattle.lexer_token.specs.Records.{text_of}
use Rattle.lexer_token.specs.declared.Token.{Token}
use Rattle.lexer.specs.Table.{kind_by, kind_of, extent, token_len}
use Rattle.lexer.specs.Tokens.{tokens_of, has_bom, start_of}
use Rattle.lexer.proofs.LineLaws.{mark_bytes}
use Rattle.lexer.proofs.TokenLaws.{token_long, token_fits_at, token_long_at}
use Rattle.decoder_rules.specs.Encodings.{is_edition}
use Rattle.decoder_rules.specs.Decoding.{decode_in}
use Rattle.decoder_rules.specs.declared.Decoded.{Decoded}
use Rattle.decoder_rules.proofs.AnswerLaws.{decode_answered}
use Rattle.theorems_tokens.proofs.Lexing.{uncut}
use Rattle.built_broken.specs.Broken.{is_utf8, token_errors, not_utf8, first_among, broken_answer}
use Rattle.built_broken.specs.Walk.{first_from, front_text}
use Rattle.built_broken.proofs.ReadableLaws.{unread, is_read}
use Rattle.built_broken.proofs.TurnLaws.{errors_at, turn_sound, turn_broken, turn_refused, front_on, tokens_start, walk_start}
use Rattle.built_broken.proofs.NumberLaws.{answer_long, answer_among, answer_unnamed}
use Rattle.theorems_broken.specs.Theorems.{AsDecoded, AsCalled, reach_among, reach, ReadsNoFurther, AgreeSoFar, BothEnd, CheckNumbers, Unbroken, NothingBroken}
use Rattle.theorems_broken.proofs.DecodedLaws.{among_decoded, decoded_called, sound_tokens, refused_token}
use Rattle.theorems_broken.proofs.ReachLaws.{reach_from, reach_on, reach_token, same_from}

-- ---- as whole lexing and decoding have it

pub as_decoded : AsDecoded
as_decoded doc u small edition named =
    sym (answer_among doc edition small named) ∙ among_decoded doc edition (tokens_of doc) (uncut doc u)

pub as_called : AsCalled
as_called doc u small edition named room errs enough many =
    as_decoded doc u small edition named ∙ decoded_called doc edition room errs (tokens_of doc) (uncut doc u) small enough many

-- ---- the answer by its three ways

data Way (doc : List ℕ) (edition : ℕ) : Type 0 where
  long : limit < length doc → broken_answer doc edition ≡ Err TooLong → Way doc edition
  unnamed : length doc ≤ limit → is_edition edition ≡ false → broken_answer doc edition ≡ Err (NoEdition edition) → Way doc edition
  walked : length doc ≤ limit → is_edition edition ≡ true → broken_answer doc edition ≡ first_among doc edition (tokens_of doc)
      → Way doc edition

way : (doc : List ℕ) (edition : ℕ) → Way doc edition
way doc edition =
    elim (dec_lt limit (length doc)) [
      | yes h ↦ long h (sym (answer_long doc edition h))
      | no h ↦ go (is_edition edition) refl (omega arith)
    ]
  where
    go : (x : Bool) → is_edition edition ≡ x → length doc ≤ limit → Way doc edition
    go true e l = walked l e (sym (answer_among doc edition l e))
    go false e l = unnamed l e (sym (answer_unnamed doc edition l e))

-- ---- refusal 1

not_whole : (doc : List ℕ) (small : length doc ≤ limit) → (Utf8 doc → ⊥) → (r : Refusal) → not_utf8 doc ≡ Err r → check_of doc ≡ Err r
not_whole doc small bad r is =
    let v = valid_prefix doc in
    let other : v ≡ length doc → ⊥ = λ e. bad ((utf8_iff doc).0 e) in
    let short : v < length doc = omega (arith, valid_le doc) in
    let same : NotUtf8 v (fault_len (drop v doc)) ≡ r = cc in
    sym (answer_broken doc v (fault_len (drop v doc)) small refl short refl) ∙ ap Err same

pub check_numbers : CheckNumbers
check_numbers doc edition r e one = go (way doc edition)
  where
    go : Way doc edition → check_of doc ≡ Err r
    go (long h f) =
        let same : TooLong ≡ r = cc in
        absurd (omega (arith, ap refusal_number same))
    go (unnamed l n f) =
        let same : NoEdition edition ≡ r = cc in
        absurd (omega (arith, ap refusal_number same))
    go (walked l n f) =
        let w = refused_token doc edition (tokens_of doc) r (sym f ∙ e) in
        not_whole doc l (λ u. unread (text_of doc w.token) w.bad (uncut doc u w.token w.listed)) r w.is

-- ---- nothing is broken

sound_from : (fuel : ℕ) (doc : List ℕ) (edition at : ℕ) → length doc ≤ at + fuel → at ≤ length doc → Utf8 (take at doc)
    → first_from doc edition at ≡ Ok None → Utf8 doc
sound_from zero doc edition at most l front e = subst Utf8 (take_all at doc (omega arith)) front
sound_from (suc fuel) doc edition at most l front e =
    elim (dec_lt at (length doc)) [
      | no h ↦ subst Utf8 (take_all at doc (omega arith)) front
      | yes h ↦
          go h (is_utf8 (front_text (drop at doc))) (errors_at doc edition at h) refl refl
          (sound_from fuel doc edition (at + token_len (drop at doc)) (omega (arith, token_long_at doc at h)) (token_fits_at doc at l))
    ]
  where
    go : (h : at < length doc) (u : Bool) (errors : List (List ℕ)) → is_utf8 (front_text (drop at doc)) ≡ u → errors_at doc edition at h ≡ errors
        → let m = at + token_len (drop at doc) in
        (Utf8 (take m doc) → first_from doc edition m ≡ Ok None → Utf8 doc) → Utf8 doc
    go h true [] is none rest =
        rest (front_on doc edition at h front (is_read _ is)) (sym (turn_sound doc edition at h is none) ∙ e)
    go h true (x ∷ xs) is some rest =
        let broken = turn_broken doc edition at h is x xs some in
        absurd (let z : ◌≡◌ {A = ℕ} 0 1 = cc in omega arith)
    go h false errors is some rest =
        let refused = turn_refused doc edition at h is in
        absurd (let z : ◌≡◌ {A = ℕ} 0 1 = cc in omega arith)

-- what `decode_in` notes of a token is how many errors the token reports
noted_is : (doc : List ℕ) (edition : ℕ) (t : Token) (room errors : ℕ) (d : Decoded)
    → decode_in (text_of doc t) edition (kind_encoding t.kind) room errors ≡ Ok d → d.errors ≡ length (token_errors doc edition t)
noted_is doc edition t room errors d e =
    let w = decode_answered (text_of doc t) edition (kind_encoding t.kind) room errors d.bytes d.errors e in
    w.errors ∙ sym (rw w.chosen)

pub nothing_broken : NothingBroken
nothing_broken doc edition e = go (way doc edition)
  where
    go : Way doc edition → Unbroken doc edition
    go (long h f) = absurd (let z : ◌≡◌ {A = ℕ} 0 1 = cc in omega arith)
    go (unnamed l n f) = absurd (let z : ◌≡◌ {A = ℕ} 0 1 = cc in omega arith)
    go (walked l n f) =
        let w = walk_start doc edition in
        let none = sound_tokens doc edition (tokens_of doc) (sym f ∙ e) in
        record {
          utf8 = sound_from (length doc) doc edition (start_of doc) (omega arith) w.within w.front (w.same ∙ sym f ∙ e);
          none = none;
          called = λ t m room errors d g. noted_is doc edition t room errors d g ∙ ap length (none t m);
        }

-- ---- how far it reads

-- where lexing starts, told by the first token and the byte after it
bom_agree : (doc other : List ℕ) → take 3 doc ≡ take 3 other → has_bom other ≡ has_bom doc
bom_agree doc other a =
    let first = mark 0xEF 0 (omega arith) in
    let second = mark 0xBB 1 (omega arith) in
    let third = mark 0xBF 2 (omega arith) in
    rw (first, second, third)
  where
    mark : (q i : ℕ) → i < 3 → stands q (drop i other) ≡ stands q (drop i doc)
    mark q i h =
        sym (first_take (λ b. eqb b q) other 3 i h) ∙ ap (λ (l : List ℕ). stands q (drop i l)) (sym a) ∙ first_take (λ b. eqb b q) doc 3 i h

long_mark : (doc : List ℕ) → get_or doc 0 0 ≡ 0xEF → get_or doc 1 0 ≡ 0xBB → 2 ≤ token_len doc
unfolding token_len kind_of kind_by wschar extent run token_start
long_mark [] x y = absurd (omega arith)
long_mark (a ∷ []) x y = absurd (omega arith)
long_mark (a ∷ b ∷ s) x y = rw (x, y) (omega arith)

-- two documents that are the same up to the byte after the first token start at the same place
same_start : (doc other : List ℕ) (n : ℕ) → take (suc n) doc ≡ take (suc n) other → n < length doc
    → start_of doc + token_len (drop (start_of doc) doc) ≤ n → start_of other ≡ start_of doc
unfolding start_of
same_start doc other n agree inside near =
    elim (dec_lt 1 n) [
      | yes h ↦
          let three = sym (take-take 3 (suc n) doc (omega arith)) ∙ ap (take 3) agree ∙ take-take 3 (suc n) other (omega arith) in
          rw (bom_agree doc other three)
      | no h ↦ go (omega arith) (has_bom doc) (has_bom other) refl refl near
    ]
  where
    go : n ≤ 1 → (x y : Bool) → has_bom doc ≡ x → has_bom other ≡ y → cond x 3 0 + token_len (drop (cond x 3 0) doc) ≤ n
        → ◌≡◌ {A = ℕ} (cond (has_bom other) 3 0) (cond (has_bom doc) 3 0)
    go few true y e f near = absurd (omega arith)
    go few false false e f near = rw (e, f)
    go few false true e f near =
        let some = token_long doc (omega arith) in
        let m = mark_bytes other f in
        let byte : (i : ℕ) → i ≤ n → get_or doc i 0 ≡ get_or other i 0 = λ i l.
        sym (get_or-take (suc n) doc i 0 (omega arith)) ∙ ap (λ (l : List ℕ). get_or l i 0) agree ∙ get_or-take (suc n) other i 0 (omega arith) in
        absurd (omega (arith, long_mark doc (byte 0 (omega arith) ∙ m.0) (byte 1 (omega arith) ∙ m.1)))

-- a document that ends by then is the other
whole_same : (doc other : List ℕ) (n : ℕ) → take (suc n) doc ≡ take (suc n) other → length doc ≤ n → other ≡ doc
whole_same doc other n agree ends =
    let size = ap length agree in
    sym (take_all (suc n) other (omega (arith, length-take (suc n) doc, length-take (suc n) other)))
    ∙ sym agree ∙ take_all (suc n) doc (omega arith)

-- else it walks the same tokens
same_walk : (doc other : List ℕ) (edition : ℕ) → take (suc (reach doc edition)) doc ≡ take (suc (reach doc edition)) other
    → reach doc edition < length doc → first_among other edition (tokens_of other) ≡ first_among doc edition (tokens_of doc)
same_walk doc other edition agree inside =
    let w = walk_start doc edition in
    let start = start_of doc in
    let far : reach_from doc edition start ≡ reach doc edition = ap (reach_among doc edition) (tokens_start doc) in
    let on = reach_on (length doc) doc edition start (omega arith) w.within in
    let token = reach_token doc edition start (omega arith) in
    let same = same_start doc other (reach doc edition) agree inside (omega arith) in
    sym (walk_start other edition).same
    ∙ ap (first_from other edition) same
    ∙ same_from doc other (reach doc edition) agree inside (length doc) edition start (omega arith) w.within w.front (omega arith)
    ∙ w.same

pub reads_no_further : ReadsNoFurther
reads_no_further doc other small small-other edition agree = go (way doc edition)
  where
    go : Way doc edition → broken_answer other edition ≡ broken_answer doc edition
    go (long h f) = absurd (omega arith)
    go (unnamed l n f) = sym (answer_unnamed other edition small-other n) ∙ sym f
    go (walked l n f) =
        elim (dec_lt (reach doc edition) (length doc)) [
          | yes h ↦ sym (answer_among other edition small-other n) ∙ same_walk doc other edition agree h ∙ sym f
          | no h ↦ ap (λ (d : List ℕ). broken_answer d edition) (whole_same doc other (reach doc edition) agree (omega arith))
        ]

pub agree_so_far : AgreeSoFar
agree_so_far doc other small small-other edition more more-other front byte =
    let n = reach doc edition in
    reads_no_further doc other small small-other edition (take-suc doc n 0 more ∙ rw (front, byte) (sym (take-suc other n 0 more-other)))

pub both_end : BothEnd
both_end doc other small small-other edition end end-other front =
    let n = reach doc edition in
    reads_no_further doc other small small-other edition
    (take_all (suc n) doc (omega arith) ∙ sym (take_all n doc (omega arith)) ∙ front ∙ take_all n other (omega arith)
    ∙ sym (take_all (suc n) other (omega arith)))
