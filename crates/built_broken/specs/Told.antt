-- FOLLOWS. What the numbers in which the answer of `first_broken_in` is told (`told_number`, `told_value`, `told_length` in crate
-- `text_refusals`) come to for the arguments. Proved by `found` in proofs/NumberLaws.antt.
-- Assumes nothing.
use Rattle.std.specs.Prelude.{ℕ}
use mathlib.Core.{Bool.Bool, Bool.true, Bool.false, Bool.cond, List.List, List.[], List.◌∷◌}
use lib.{Dec.ltb, ListN.length, ListN.drop}
use Rattle.text_refusals.specs.{Refusals.limit}
use Rattle.text_scalars.specs.{Utf8Read.valid_prefix}
use Rattle.text_characters.specs.{Lead.fault_len}
use Rattle.lexer_token.specs.{Records.text_of}
use Rattle.lexer_token.specs.declared.{Token.Token}
use Rattle.lexer.specs.{Tokens.tokens_of}
use Rattle.built_broken.specs.{Broken.is_utf8, Broken.token_errors}
use Rattle.decoder_rules.specs.Encodings.{is_edition}

-- what they come to for the arguments: 2 with the limit, 9 with the number named, then 1 with the whole document's two numbers
-- where a token that is not UTF-8 comes before all that are broken, else 0
abbrev pub unbroken : {A : Type 0} → List (List ℕ) → A → A → A
unbroken [] after broken = after
unbroken (e ∷ es) after broken = broken

unfoldable pub refused_among : List ℕ → ℕ → List Token → Bool
refused_among doc edition [] = false
refused_among doc edition (t ∷ ts) =
    cond (is_utf8 (text_of doc t)) (unbroken (token_errors doc edition t) (refused_among doc edition ts) false) true

abbrev pub broken_refusal : List ℕ → ℕ → ℕ
broken_refusal doc edition =
    cond (ltb limit (length doc)) 2 (cond (is_edition edition) (cond (refused_among doc edition (tokens_of doc)) 1 0) 9)

abbrev pub broken_returned : List ℕ → ℕ → ℕ
broken_returned doc edition =
    cond (ltb limit (length doc)) limit
    (cond (is_edition edition) (cond (refused_among doc edition (tokens_of doc)) (valid_prefix doc) 0) edition)

abbrev pub broken_fault : List ℕ → ℕ → ℕ
broken_fault doc edition =
    cond (ltb limit (length doc)) 0
    (cond (is_edition edition)
    (cond (refused_among doc edition (tokens_of doc)) (fault_len (drop (valid_prefix doc) doc)) 0) 0)
