-- STATEMENT. What totals come to, and that the order of documents changes none of them. Proved in proofs/TotalLaws.antt, each
-- under the name that its comment gives; that the function `tally` promises what `tallied` says is `tally_makes` in
-- proofs/CallLaws.antt.
--
-- The names: `tallied` (crate built_figures) is the answer of `tally` for a document and totals, with the totals afterwards;
-- `tally_number` there is the answer's number; `times n ms` is how often n stands among ms, `kinds_among` the numbers of the kinds
-- of some tokens, `errors_among` the numbers of the errors of all strings among them, `kind_slot` a kind's place in the totals.
use Rattle.std.specs.Prelude.{ℕ, ◌+◌, ◌≤◌, ◌<◌}
use mathlib.Core.{Path.◌≡◌, List.List, List.[], List.◌∷◌, List.Permᴰ}
use lib.{ListN.length, ListN.get_or, ListN.set}
use Rattle.text_scalars.specs.{Utf8.Utf8}
use Rattle.lexer_token.specs.{KindNumbers.kind_number, declared.TokenKind.TokenKind}
use Rattle.lexer.specs.{Tokens.tokens_of}
use Rattle.decoder_rules.specs.{Pieces.error_number, declared.DecodeError.DecodeError}
use Rattle.built_figures.specs.{Figures.most, Figures.times, Figures.kinds_among, Figures.errors_among, Figures.tallied, Told.tally_number, Counting.Fit, Counting.kind_slot}

-- ---- one document

-- the number of the answer, and the totals afterwards
abbrev pub number_of : List ℕ → List ℕ → ℕ
number_of doc totals = tally_number (tallied doc totals).answer

abbrev pub totals_after : List ℕ → List ℕ → List ℕ
totals_after doc totals = (tallied doc totals).totals

-- a place of the totals that has grown by n
abbrev pub Grown : List ℕ → List ℕ → ℕ → ℕ → Type 0
Grown before after place n = get_or after place 0 ≡ get_or before place 0 + n

-- the totals `after` are the totals `before` with the document's counts added: the tokens of each kind, the errors of each number
-- over all its string tokens, and no document refused
pub record Counted (doc before after : List ℕ) : Type 0 where
  pub short : length doc ≤ most
  pub utf8 : Utf8 doc
  pub kinds : (k : TokenKind) → Grown before after (kind_slot k) (times (kind_number k) (kinds_among (tokens_of doc)))
  pub errors : (e : DecodeError) → Grown before after (15 + error_number e) (times (error_number e) (errors_among doc (tokens_of doc)))
  pub none_1 : Grown before after 31 0
  pub none_2 : Grown before after 32 0

-- `added_counts`: so are they after an answer that is no refusal
abbrev pub AddedCounts : Type 0
AddedCounts = (doc totals : List ℕ) → number_of doc totals ≡ 0 → Counted doc totals (totals_after doc totals)

-- one more at a place, and nothing else
abbrev pub one_more : ℕ → List ℕ → List ℕ
one_more place totals = set totals place (get_or totals place 0 + 1)

-- `refused_counts`: a document refused adds 1 to its number's total and nothing else; and refusal 13 adds nothing
pub record Refused (doc totals : List ℕ) : Type 0 where
  pub by_1 : number_of doc totals ≡ 1 → totals_after doc totals ≡ one_more 31 totals
  pub by_2 : number_of doc totals ≡ 2 → totals_after doc totals ≡ one_more 32 totals
  pub by_13 : number_of doc totals ≡ 13 → totals_after doc totals ≡ totals

abbrev pub RefusedCounts : Type 0
RefusedCounts = (doc totals : List ℕ) → length totals ≡ 33 → Refused doc totals

-- ---- documents, one after the other

-- the totals after all of them
unfoldable pub totals_over : List (List ℕ) → List ℕ → List ℕ
totals_over [] totals = totals
totals_over (doc ∷ docs) totals = totals_over docs (totals_after doc totals)

-- none of them is refused with 13
abbrev pub NoneFull : List (List ℕ) → List ℕ → Type 0
NoneFull [] totals = Unit {0}
NoneFull (doc ∷ docs) totals = (number_of doc totals ≡ 13 → ⊥) × NoneFull docs (totals_after doc totals)

-- `any_order`: where none is refused with 13 in one order, none is in another, and the totals are the same. `List.Permᴰ` is that
-- one list is a permutation of the other
abbrev pub AnyOrder : Type 0
AnyOrder =
    (docs others : List (List ℕ)) (totals : List ℕ) → Fit totals → Permᴰ docs others → NoneFull docs totals
    → NoneFull others totals × (totals_over docs totals ≡ totals_over others totals)
