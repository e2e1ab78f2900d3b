-- STATEMENT. What is said of the first broken string besides its rule, each proved under the name that its comment gives. The calls
-- `first_broken` and `first_broken_in` promise to answer `broken_answer`, so that each theorem is about their answers.
use Rattle.std.specs.Prelude.{ℕ, suc, ◌+◌, ◌*◌, ◌≤◌, ◌<◌, ◌≡◌, true, cond, eqb, length, get_or, take, Some, None, Result, Ok, Err}
use mathlib.Core.List.{List, [], ◌∷◌, Memᴰ}
use Rattle.text_refusals.specs.Refusals.{limit, refusal_number}
use Rattle.text_refusals.specs.declared.Refusal.{Refusal}
use Rattle.text_scalars.specs.Utf8.{Utf8}
use Rattle.text.specs.CheckMeans.{check_of}
use Rattle.lexer_token.specs.Encodings.{kind_encoding}
use Rattle.lexer_token.specs.Records.{text_of}
use Rattle.lexer_token.specs.declared.Token.{Token}
use Rattle.lexer.specs.Tokens.{tokens_of}
use Rattle.decoder_rules.specs.Encodings.{choice_by, is_edition}
use Rattle.decoder_rules.specs.Decoding.{errors_by, decode_in, after}
use Rattle.decoder_rules.specs.declared.Decoded.{Decoded}
use Rattle.built_broken.specs.Broken.{BrokenFound, is_utf8, token_errors, recorded_error, broken_by, broken_answer}
use Rattle.built_broken.specs.Told.{unbroken}

-- ---- as whole lexing and decoding have it

-- the first, over some tokens, of those that report errors, with its first error; UTF-8 is not asked for
unfoldable pub first_decoded : List ℕ → ℕ → List Token → BrokenFound
first_decoded doc edition [] = Ok None
first_decoded doc edition (t ∷ ts) = broken_by t (token_errors doc edition t) (first_decoded doc edition ts)

-- `as_decoded`: on UTF-8 the answer is that, over all tokens of whole lexing
abbrev pub AsDecoded : Type 0
AsDecoded =
    (doc : List ℕ) → Utf8 doc → length doc ≤ limit → (edition : ℕ) → is_edition edition ≡ true
    → broken_answer doc edition ≡ first_decoded doc edition (tokens_of doc)

-- the same by calls: `decode_in` of the text of each token in turn, by the encoding of its kind, which refuses a token that is no
-- string; `room` bytes of output are lent, and error records that hold `errs`. The first call that reports errors decides, by
-- the first record that it left
abbrev pub by_call : Token → Result Decoded Refusal → List (List ℕ) → BrokenFound → BrokenFound
by_call t (Ok d) held rest = cond (eqb d.errors 0) rest (Ok (Some (t, recorded_error (get_or held 0 []))))
by_call t (Err r) held rest = rest

unfoldable pub first_called : List ℕ → ℕ → ℕ → List (List ℕ) → List Token → BrokenFound
first_called doc edition room errs [] = Ok None
first_called doc edition room errs (t ∷ ts) =
    let answer : Result Decoded Refusal = decode_in (text_of doc t) edition (kind_encoding t.kind) room (length errs) in
    by_call t answer (after answer (errors_by (choice_by edition (kind_encoding t.kind)) (text_of doc t)) errs)
    (first_called doc edition room errs ts)

-- `as_called`: on UTF-8, with memory that always suffices, the answer is that, over all tokens of whole lexing
abbrev pub AsCalled : Type 0
AsCalled =
    (doc : List ℕ) → Utf8 doc → length doc ≤ limit → (edition : ℕ) → is_edition edition ≡ true
    → (room : ℕ) (errs : List (List ℕ)) → 3 * length doc ≤ 2 * room → length doc + 2 ≤ length errs
    → broken_answer doc edition ≡ first_called doc edition room errs (tokens_of doc)

-- ---- how far it reads

-- the place at which the first token ends that is broken or is refused; the document's end where no token is
unfoldable pub reach_among : List ℕ → ℕ → List Token → ℕ
reach_among doc edition [] = length doc
reach_among doc edition (t ∷ ts) =
    cond (is_utf8 (text_of doc t)) (unbroken (token_errors doc edition t) (reach_among doc edition ts) t.span.end) t.span.end

abbrev pub reach : List ℕ → ℕ → ℕ
reach doc edition = reach_among doc edition (tokens_of doc)

-- `reads_no_further`: two documents within the limit that are the same up to the byte after that place, and of which both end
-- before it where one does, get the same answer
abbrev pub ReadsNoFurther : Type 0
ReadsNoFurther =
    (doc other : List ℕ) → length doc ≤ limit → length other ≤ limit → (edition : ℕ)
    → take (suc (reach doc edition)) doc ≡ take (suc (reach doc edition)) other
    → broken_answer other edition ≡ broken_answer doc edition

-- `agree_so_far`: the first half of that, where both go on: the bytes up to that place are the same, and the byte there is
abbrev pub AgreeSoFar : Type 0
AgreeSoFar =
    (doc other : List ℕ) → length doc ≤ limit → length other ≤ limit → (edition : ℕ) → let n = reach doc edition in
    n < length doc → n < length other → take n doc ≡ take n other → get_or doc n 0 ≡ get_or other n 0
    → broken_answer other edition ≡ broken_answer doc edition

-- `both_end`: the second half: both end at that place, and are the same up to it
abbrev pub BothEnd : Type 0
BothEnd =
    (doc other : List ℕ) → length doc ≤ limit → length other ≤ limit → (edition : ℕ) → let n = reach doc edition in
    length doc ≡ n → length other ≡ n → take n doc ≡ take n other → broken_answer other edition ≡ broken_answer doc edition

-- ---- refusal 1

-- `check_numbers`: where the answer is refusal 1, `check_utf8` of the whole document answers the same refusal, with the same numbers
abbrev pub CheckNumbers : Type 0
CheckNumbers =
    (doc : List ℕ) (edition : ℕ) (r : Refusal) → broken_answer doc edition ≡ Err r → refusal_number r ≡ 1 → check_of doc ≡ Err r

-- ---- nothing is broken

-- the document is UTF-8; no token of it reports an error; and so says `decode_in` of each of its strings, wherever it answers
pub record Unbroken (doc : List ℕ) (edition : ℕ) : Type 0 where
  pub utf8 : Utf8 doc
  pub none : (t : Token) → Memᴰ t (tokens_of doc) → token_errors doc edition t ≡ []
  pub called : (t : Token) → Memᴰ t (tokens_of doc) → (room errors : ℕ) (d : Decoded)
      → decode_in (text_of doc t) edition (kind_encoding t.kind) room errors ≡ Ok d → d.errors ≡ 0

-- `nothing_broken`: where no token is broken and the call is not refused, that holds
abbrev pub NothingBroken : Type 0
NothingBroken = (doc : List ℕ) (edition : ℕ) → broken_answer doc edition ≡ Ok None → Unbroken doc edition
