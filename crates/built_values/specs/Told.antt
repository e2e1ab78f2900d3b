-- FOLLOWS. The answer in numbers, by the arguments: what `told_number` and `told_value` of crate text_refusals come to, as
-- `told` in proofs/NumberLaws.antt proves. For that `Deep` is computed; `deep_is` and `is_deep` in
-- proofs/DepthLaws.antt prove that it is.
-- Assumes nothing.
use Rattle.std.specs.Prelude.{ℕ, ◌+◌, Result, Ok, Err}
use mathlib.Core.{Bool.Bool, Bool.true, Bool.false, Bool.cond, Bool.◌||◌, List.List, List.[], List.◌∷◌}
use lib.{ListN.length, Dec.ltb}
use Rattle.text_refusals.specs.{Refusals.depth, declared.Refusal.Refusal}
use Rattle.decoder_rules.specs.Encodings.{is_edition}
use Rattle.built_values.specs.Answers.{run_of}
use Rattle.built_values.specs.Depth.{is_opening, is_closing}

-- by the answer: 1 for a value, else 0
abbrev pub value_yes : Result Bool Refusal → ℕ
value_yes (Ok true) = 1
value_yes (Ok false) = 0
value_yes (Err r) = 0

-- so many opening and closing brackets pass the depth
abbrev pub passes : ℕ → ℕ → Bool
passes opened closed = ltb (closed + depth) opened

-- `Deep`, computed: after so many opening and closing brackets, some first part of s passes the depth
unfoldable pub deep_from : ℕ → ℕ → List ℕ → Bool
deep_from opened closed [] = false
deep_from opened closed (k ∷ s) =
    cond (passes (opened + cond (is_opening k) 1 0) (closed + cond (is_closing k) 1 0)) true
    (deep_from (opened + cond (is_opening k) 1 0) (closed + cond (is_closing k) 1 0) s)

-- by the arguments: 6 with the number of records, 9 with the edition's number, 10 with the depth, else 0
abbrev pub is_outside : ℕ → ℕ → ℕ → Bool
is_outside records start end = ltb records end || ltb end start

abbrev pub value_refusal : List (List ℕ) → ℕ → ℕ → ℕ → ℕ
value_refusal records edition start end =
    cond (is_outside (length records) start end) 6
    (cond (is_edition edition) (cond (deep_from 0 0 (run_of records start end)) 10 0) 9)

abbrev pub value_returned : List (List ℕ) → ℕ → ℕ → ℕ → ℕ
value_returned records edition start end =
    cond (is_outside (length records) start end) (length records)
    (cond (is_edition edition) (cond (deep_from 0 0 (run_of records start end)) depth 0) edition)
