-- RULE. Figures over documents: a document adds its counts to the totals of those before it. Totals are thirty-three numbers:
-- the tokens of each kind, in the order of the table of kinds; the errors of each number, 1 to 15, over all string tokens,
-- read as TOML 1.0; and the documents refused with 1 and with 2.
use Rattle.std.specs.Prelude.{ℕ, suc, ◌+◌, Result, Ok, Err, ⊤}
use mathlib.Core.{Bool.Bool, Bool.true, Bool.cond, Bool.◌&&◌, List.List, List.[], List.◌∷◌, List.◌++◌, List.map}
use lib.{ListN.length, ListN.get_or, ListN.replicate, Dec.ltb, Dec.leb, Dec.eqb}
use Rattle.text_refusals.specs.{Refusals.greatest, declared.Refusal.Refusal, declared.Refusal.TheVariants.TotalFull}
use Rattle.text.specs.{CheckMeans.check_of}
use Rattle.lexer_token.specs.{KindNumbers.kind_number, KindNumbers.kinds, Encodings.kind_encoding, Records.text_of}
use Rattle.lexer_token.specs.declared.{Token.Token}
use Rattle.lexer.specs.{Tokens.tokens_of}
use Rattle.decoder_rules.specs.{Encodings.choice_by, Decoding.errors_by}
use Rattle.built_figures.specs.declared.{NotAdded.NotAdded, NotAdded.TheVariants.TooLong, NotAdded.TheVariants.Refused, Tallied.Tallied}

-- the most bytes that a document may have here
abbrev pub most : ℕ
most = 65536

-- ---- counts

-- how often a number stands in a list
unfoldable pub times : ℕ → List ℕ → ℕ
times n [] = 0
times n (m ∷ ms) = cond (eqb m n) (suc (times n ms)) (times n ms)

-- the same of each of some numbers
abbrev pub times_each : List ℕ → List ℕ → List ℕ
times_each [] seen = []
times_each (n ∷ ns) seen = times n seen ∷ times_each ns seen

-- the numbers of the kinds, in the order of their table, and those of the errors
abbrev pub kind_numbers : List ℕ
kind_numbers = map kind_number kinds

abbrev pub error_numbers : List ℕ
error_numbers = 1 ∷ 2 ∷ 3 ∷ 4 ∷ 5 ∷ 6 ∷ 7 ∷ 8 ∷ 9 ∷ 10 ∷ 11 ∷ 12 ∷ 13 ∷ 14 ∷ 15 ∷ []

-- the thirty-three numbers of a document that is not refused, by the kinds of its tokens and the numbers of its errors
unfoldable pub figures_for : List ℕ → List ℕ → List ℕ
figures_for kindsSeen errorsSeen = times_each kind_numbers kindsSeen ++ (times_each error_numbers errorsSeen ++ (0 ∷ 0 ∷ []))

-- the numbers of some errors, each the first number of its record
abbrev pub numbers_of : List (List ℕ) → List ℕ
numbers_of errors = map (λ (r : List ℕ). get_or r 0 0) errors

-- the numbers of a token's errors: where it is a string, those of its text, read as TOML 1.0; else none
abbrev pub token_error_numbers : List ℕ → Token → List ℕ
token_error_numbers doc t = numbers_of (errors_by (choice_by 10 (kind_encoding t.kind)) (text_of doc t))

-- the kinds of some tokens of a document, and the errors of all of them
abbrev pub kinds_among : List Token → List ℕ
kinds_among ts = map (λ (t : Token). kind_number t.kind) ts

unfoldable pub errors_among : List ℕ → List Token → List ℕ
errors_among doc [] = []
errors_among doc (t ∷ ts) = token_error_numbers doc t ++ errors_among doc ts

abbrev pub figures_among : List ℕ → List Token → List ℕ
figures_among doc ts = figures_for (kinds_among ts) (errors_among doc ts)

-- ---- what a document adds: refused with 2, one more so refused; refused with 1, likewise; else its counts

-- no counts, and so many documents refused with 1 and with 2
abbrev pub refused_figures : ℕ → ℕ → List ℕ
refused_figures broken long = replicate 31 0 ++ (broken ∷ long ∷ [])

abbrev pub figures_by : Result ⊤ Refusal → List ℕ → List ℕ
figures_by (Err r) doc = refused_figures 1 0
figures_by (Ok done) doc = figures_among doc (tokens_of doc)

unfoldable pub figures_of : List ℕ → List ℕ
figures_of doc = cond (ltb most (length doc)) (refused_figures 0 1) (figures_by (check_of doc) doc)

-- what becomes of it, where that can be added: 2 comes before 1
abbrev pub verdict_by : Result ⊤ Refusal → Result ⊤ NotAdded
verdict_by (Err r) = Err (Refused r)
verdict_by (Ok done) = Ok tt

unfoldable pub verdict_on : List ℕ → Result ⊤ NotAdded
verdict_on doc = cond (ltb most (length doc)) (Err TooLong) (verdict_by (check_of doc))

-- ---- the totals afterwards

-- two lists of numbers added, number by number
unfoldable pub added : List ℕ → List ℕ → List ℕ
added [] ys = ys
added (x ∷ xs) [] = x ∷ xs
added (x ∷ xs) (y ∷ ys) = (x + y) ∷ added xs ys

-- whether all of some numbers are at most the greatest of 64 bits
unfoldable pub all_fit : List ℕ → Bool
all_fit [] = true
all_fit (n ∷ ns) = leb n greatest && all_fit ns

-- where each sum fits, the sums; else refusal 13, and the totals as before
unfoldable pub tallied : List ℕ → List ℕ → Tallied
tallied doc totals =
    let sums : List ℕ = added totals (figures_of doc) in
    cond (all_fit sums) (record { answer = verdict_on doc; totals = sums })
    (record { answer = Err (Refused TotalFull); totals = totals })
