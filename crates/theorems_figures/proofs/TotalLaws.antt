-- What a document adds is added where the answer is not 13; sums do not depend on the order in which they are added up, and all
-- of them fit where the last one does.
use Prim.Native.Nat.{ℕ, zero, suc, ◌+◌, ◌≤◌, ◌<◌, ◌^◌}
use mathlib.Core.Path.{◌≡◌, refl, sym, ap, ◌∙◌}
use mathlib.Core.Bool.{Bool, true, false, cond, false≢true}
use mathlib.Core.List.{List, [], ◌∷◌, ◌++◌, Permᴰ}
use native.Mathlib.Omega.{arith}
use lib.Dec.{ltb, eqb}
use lib.ListN.{length, get_or, drop}
use borrow.Author.Tests.{ltb-true, ltb-false, eqb-true, le-ltb}
use Rattle.text_refusals.specs.Refusals.{limit}
use Rattle.text_refusals.specs.declared.Refusal.TheVariants.{NotUtf8}
use Rattle.text_scalars.specs.Utf8Read.{valid_prefix}
use Rattle.text_characters.specs.Lead.{fault_len}
use Rattle.text.specs.CheckMeans.{check_of}
use Rattle.std.specs.Prelude.{Ok, Err}
use Rattle.text.proofs.AnswerLaws.{checked}
use Rattle.lexer_token.specs.KindNumbers.{kind_number}
use Rattle.lexer_token.specs.declared.TokenKind.{TokenKind}
use Rattle.lexer_token.specs.declared.TokenKind.TheVariants.{Dot, Equals, Comma, LeftSquareBracket, RightSquareBracket, LeftCurlyBracket, RightCurlyBracket, Whitespace, Comment, Newline, LiteralString, BasicString, MlLiteralString, MlBasicString, Atom, Eof}
use Rattle.lexer.specs.Tokens.{tokens_of}
use Rattle.decoder_rules.specs.Pieces.{error_number}
use Rattle.decoder_rules.specs.declared.DecodeError.{DecodeError}
use Rattle.decoder_rules.specs.declared.DecodeError.TheVariants.{LiteralMissingQuote, LiteralInvalid, MlLiteralMissingQuote, LoneCr, MlLiteralInvalid, BasicMissingQuote, BasicInvalid, MissingEscape, FewDigits, NotScalar, MlBasicMissingQuote, MlBasicInvalid, MissingNewline, EmptyKey, KeyInvalid}
use Rattle.built_figures.specs.Figures.{most, times, figures_for, kinds_among, errors_among, figures_among, refused_figures, figures_of, verdict_on, added, all_fit, tallied}
use Rattle.built_figures.specs.declared.Tallied.{Tallied}
use Rattle.built_figures.specs.Counting.{Fit, kind_slot}
use Rattle.built_figures.proofs.AddLaws.{added_none, added_comm, added_assoc, added_at, added_one, fit_left, all_fit_lem, each_fits}
use Rattle.built_figures.proofs.AnswerLaws.{long, short, answered, refused}
use Rattle.built_figures.proofs.NumberLaws.{numbers}
use Rattle.theorems_figures.specs.Totals.{number_of, totals_after, Grown, Counted, AddedCounts, one_more, Refused, RefusedCounts, totals_over, NoneFull, AnyOrder}

-- ---- the answer by whether the sums fit

abbrev sums : List ℕ → List ℕ → List ℕ
sums doc totals = added totals (figures_of doc)

-- the number by three tests: whether the sums fit, whether the document is too long, and whether it is UTF-8
abbrev by_tests : Bool → Bool → Bool → ℕ
by_tests fit over valid = cond fit (cond over 2 (cond valid 0 1)) 13

0_means : (f l v : Bool) → by_tests f l v ≡ 0 → (f ≡ true) × (l ≡ false) × (v ≡ true)
0_means true true v e = absurd (omega arith)
0_means true false true e = (refl, refl, refl)
0_means true false false e = absurd (omega arith)
0_means false l v e = absurd (omega arith)

1_means : (f l v : Bool) → by_tests f l v ≡ 1 → (f ≡ true) × (l ≡ false) × (v ≡ false)
1_means true true v e = absurd (omega arith)
1_means true false true e = absurd (omega arith)
1_means true false false e = (refl, refl, refl)
1_means false l v e = absurd (omega arith)

2_means : (f l v : Bool) → by_tests f l v ≡ 2 → (f ≡ true) × (l ≡ true)
2_means true true v e = (refl, refl)
2_means true false true e = absurd (omega arith)
2_means true false false e = absurd (omega arith)
2_means false l v e = absurd (omega arith)

13_means : (f l v : Bool) → by_tests f l v ≡ 13 → f ≡ false
13_means true true v e = absurd (omega arith)
13_means true false true e = absurd (omega arith)
13_means true false false e = absurd (omega arith)
13_means false l v e = refl

module _ (doc totals : List ℕ) where
  abbrev fit : Bool
  fit = all_fit (sums doc totals)

  abbrev over : Bool
  over = ltb most (length doc)

  abbrev valid : Bool
  valid = eqb (valid_prefix doc) (length doc)

  number_is : number_of doc totals ≡ by_tests fit over valid
  number_is = (numbers doc totals (tallied doc totals) refl).number

  after_fit : fit ≡ true → totals_after doc totals ≡ sums doc totals
  after_fit e = sym (ap (λ (r : Tallied). r.totals) (answered doc totals (verdict_on doc) (figures_of doc) (record { verdict = refl; figures = refl }) e))

  after_full : fit ≡ false → totals_after doc totals ≡ totals
  after_full e = sym (ap (λ (r : Tallied). r.totals) (refused doc totals (verdict_on doc) (figures_of doc) (record { verdict = refl; figures = refl }) e))

  -- refusal 13 is given exactly where a sum does not fit
  not_full : fit ≡ true → number_of doc totals ≡ 13 → ⊥
  not_full e is = absurd (false≢true (sym (13_means fit over valid (sym number_is ∙ is)) ∙ e))

  fits : (number_of doc totals ≡ 13 → ⊥) → fit ≡ true
  fits h = by fit refl
    where
      by : (t : Bool) → fit ≡ t → t ≡ true
      by true e = refl
      by false e = absurd (h (number_is ∙ ap (λ (f : Bool). by_tests f over valid) e))

  -- the check's answer, of a document that is not too long
  check_valid : over ≡ false → valid ≡ true → check_of doc ≡ Ok tt
  unfolding check_of
  check_valid o v = rw (le-ltb limit (length doc) (omega (arith, ltb-false most (length doc) o)), v)

  check_broken : over ≡ false → valid ≡ false
      → check_of doc ≡ Err (NotUtf8 (valid_prefix doc) (fault_len (drop (valid_prefix doc) doc)))
  unfolding check_of
  check_broken o v = rw (le-ltb limit (length doc) (omega (arith, ltb-false most (length doc) o)), v)

-- ---- each figure at its place

kind_figure : (k : TokenKind) (ks es : List ℕ) → get_or (figures_for ks es) (kind_slot k) 0 ≡ times (kind_number k) ks
unfolding figures_for
kind_figure Dot ks es = refl
kind_figure Equals ks es = refl
kind_figure Comma ks es = refl
kind_figure LeftSquareBracket ks es = refl
kind_figure RightSquareBracket ks es = refl
kind_figure LeftCurlyBracket ks es = refl
kind_figure RightCurlyBracket ks es = refl
kind_figure Whitespace ks es = refl
kind_figure Comment ks es = refl
kind_figure Newline ks es = refl
kind_figure LiteralString ks es = refl
kind_figure BasicString ks es = refl
kind_figure MlLiteralString ks es = refl
kind_figure MlBasicString ks es = refl
kind_figure Atom ks es = refl
kind_figure Eof ks es = refl

error_figure : (e : DecodeError) (ks es : List ℕ) → get_or (figures_for ks es) (15 + error_number e) 0 ≡ times (error_number e) es
unfolding figures_for
error_figure LiteralMissingQuote ks es = refl
error_figure LiteralInvalid ks es = refl
error_figure MlLiteralMissingQuote ks es = refl
error_figure LoneCr ks es = refl
error_figure MlLiteralInvalid ks es = refl
error_figure BasicMissingQuote ks es = refl
error_figure BasicInvalid ks es = refl
error_figure MissingEscape ks es = refl
error_figure FewDigits ks es = refl
error_figure NotScalar ks es = refl
error_figure MlBasicMissingQuote ks es = refl
error_figure MlBasicInvalid ks es = refl
error_figure MissingNewline ks es = refl
error_figure EmptyKey ks es = refl
error_figure KeyInvalid ks es = refl

none_refused : (ks es : List ℕ) → (get_or (figures_for ks es) 31 0 ≡ 0) × (get_or (figures_for ks es) 32 0 ≡ 0)
unfolding figures_for
none_refused ks es = (refl, refl)

-- ---- one document

module _ (doc totals f : List ℕ) (is : totals_after doc totals ≡ added totals f) where
  grown : (place m : ℕ) → get_or f place 0 ≡ m → Grown totals (totals_after doc totals) place m
  grown place m e = ap (λ (r : List ℕ). get_or r place 0) is ∙ added_at totals f place ∙ ap (λ (k : ℕ). get_or totals place 0 + k) e

pub added_counts : AddedCounts
added_counts doc totals zero_is =
    let tests = 0_means (fit doc totals) (over doc totals) (valid doc totals) (sym (number_is doc totals) ∙ zero_is) in
    let small = ltb-false most (length doc) tests.1 in
    let check = check_valid doc totals tests.1 tests.2 in
    let ks = kinds_among (tokens_of doc) in
    let es = errors_among doc (tokens_of doc) in
    let is = after_fit doc totals tests.0 ∙ ap (λ (r : List ℕ). added totals r) (short doc small (Ok tt) check).figures in
    record {
      short = small;
      utf8 = (checked doc check).1;
      kinds = λ k. grown doc totals (figures_for ks es) is (kind_slot k) _ (kind_figure k ks es);
      errors = λ e. grown doc totals (figures_for ks es) is (15 + error_number e) _ (error_figure e ks es);
      none_1 = grown doc totals (figures_for ks es) is 31 0 (none_refused ks es).0;
      none_2 = grown doc totals (figures_for ks es) is 32 0 (none_refused ks es).1;
    }

pub refused_counts : RefusedCounts
refused_counts doc totals size =
    record {
      by_1 = λ e.
          let tests = 1_means (fit doc totals) (over doc totals) (valid doc totals) (sym (number_is doc totals) ∙ e) in
          let small = ltb-false most (length doc) tests.1 in
          after_fit doc totals tests.0
          ∙ ap (λ (r : List ℕ). added totals r) (short doc small _ (check_broken doc totals tests.1 tests.2)).figures
          ∙ sym (rw size at (added_one totals 31 (omega (arith, size))));
      by_2 = λ e.
          let tests = 2_means (fit doc totals) (over doc totals) (valid doc totals) (sym (number_is doc totals) ∙ e) in
          after_fit doc totals tests.0
          ∙ ap (λ (r : List ℕ). added totals r) (long doc (ltb-true most (length doc) tests.1)).figures
          ∙ sym (rw size at (added_one totals 32 (omega (arith, size))));
      by_13 = λ e. after_full doc totals (13_means (fit doc totals) (over doc totals) (valid doc totals) (sym (number_is doc totals) ∙ e));
    }

-- ---- documents, one after the other

-- what all of them add
abbrev sum_of : List (List ℕ) → List ℕ
sum_of [] = []
sum_of (doc ∷ docs) = added (figures_of doc) (sum_of docs)

-- a sum that fits has parts that fit, and the other way round for numbers of 64 bits
fit_all : (a : List ℕ) → Fit a → all_fit a ≡ true
fit_all a f = all_fit_lem a (λ i h. omega (arith, f i))

fit_front : (a b : List ℕ) → all_fit (added a b) ≡ true → all_fit a ≡ true
fit_front a b e = fit_all a (fit_left a b (each_fits (added a b) e))

over_sum : (docs : List (List ℕ)) (totals : List ℕ) → NoneFull docs totals → totals_over docs totals ≡ added totals (sum_of docs)
unfolding totals_over
over_sum [] totals none = sym (added_none totals)
over_sum (doc ∷ docs) totals none =
    over_sum docs (totals_after doc totals) none.1
    ∙ ap (λ (r : List ℕ). added r (sum_of docs)) (after_fit doc totals (fits doc totals none.0))
    ∙ added_assoc totals (figures_of doc) (sum_of docs)

over_fit : (docs : List (List ℕ)) (totals : List ℕ) → all_fit totals ≡ true → NoneFull docs totals
    → all_fit (added totals (sum_of docs)) ≡ true
over_fit [] totals few none = ap all_fit (added_none totals) ∙ few
over_fit (doc ∷ docs) totals few none =
    let here = fits doc totals none.0 in
    let next = after_fit doc totals here in
    ap all_fit (sym (added_assoc totals (figures_of doc) (sum_of docs)))
    ∙ ap (λ (r : List ℕ). all_fit (added r (sum_of docs))) (sym next)
    ∙ over_fit docs (totals_after doc totals) (ap all_fit next ∙ here) none.1

none_full : (docs : List (List ℕ)) (totals : List ℕ) → all_fit (added totals (sum_of docs)) ≡ true → NoneFull docs totals
none_full [] totals few = tt
none_full (doc ∷ docs) totals few =
    let whole = ap all_fit (added_assoc totals (figures_of doc) (sum_of docs)) ∙ few in
    let here = fit_front (sums doc totals) (sum_of docs) whole in
    let next = after_fit doc totals here in (
      not_full doc totals here,
      none_full docs (totals_after doc totals) (ap (λ (r : List ℕ). all_fit (added r (sum_of docs))) next ∙ whole),
    )

-- two of them the other way round add the same
swapped : (a b s : List ℕ) → added a (added b s) ≡ added b (added a s)
swapped a b s = sym (added_assoc a b s) ∙ ap (λ (r : List ℕ). added r s) (added_comm a b) ∙ added_assoc b a s

sum_permuted : {docs others : List (List ℕ)} → Permᴰ docs others → sum_of docs ≡ sum_of others
sum_permuted Permᴰ.nil = refl
sum_permuted (Permᴰ.cons {b = b} {l₁ = docs} e p) =
    ap (λ (d : List ℕ). added (figures_of d) (sum_of docs)) e ∙ ap (λ (r : List ℕ). added (figures_of b) r) (sum_permuted p)
sum_permuted (Permᴰ.swap {a = a} {b = b} {a' = a'} {b' = b'} {l = docs} e f) =
    swapped (figures_of a) (figures_of b) (sum_of docs)
    ∙ ap (λ (d : List ℕ). added (figures_of d) (added (figures_of a) (sum_of docs))) f
    ∙ ap (λ (d : List ℕ). added (figures_of a') (added (figures_of d) (sum_of docs))) e
sum_permuted (Permᴰ.trans p q) = sum_permuted p ∙ sum_permuted q

pub any_order : AnyOrder
any_order docs others totals fit permuted none =
    let same = sum_permuted permuted in
    let whole = over_fit docs totals (fit_all totals fit) none in
    let other = none_full others totals (rw same at whole) in
    (other, over_sum docs totals none ∙ ap (λ (r : List ℕ). added totals r) same ∙ sym (over_sum others totals other))
