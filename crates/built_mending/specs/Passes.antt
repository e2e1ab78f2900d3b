-- What the helpers of `put_right` say of a token and of a document. Not to be believed: no promise of a public function cites it.
-- Assumes nothing.
use Rattle.std.specs.Prelude.{◌≡◌, ℕ, ◌-◌, true, false, List, map, length, take, drop, Result, Ok, Option, Some, None}
use Rattle.text_refusals.specs.declared.Refusal.{Refusal}
use Rattle.decoder_rules.specs.declared.Encoding.{Encoding}
use Rattle.decoder_rules.specs.Decoding.{errors_of}
use Rattle.lexer_token.specs.declared.Token.{Token}
use Rattle.lexer.specs.Tokens.{tokens_from}
use Rattle.built_mending.specs.Mending.{Part, part_of, read_as, reported, is_broken, fit_both, mended_after}
use Rattle.built_mending.specs.declared.Mended.{Mended}

-- what is found of a token: that it is a string that reports an error, and its encoding; or that it reports none
abbrev pub Finds : ℕ → Part → Option Encoding → Type 0
Finds edition p (Some e) = (read_as edition p ≡ Ok e) × (is_broken (errors_of e p.text) ≡ true)
Finds edition p None = is_broken (reported edition p) ≡ false

-- the bytes of the document from the place `from` up to the place `to`
abbrev pub between : List ℕ → ℕ → ℕ → List ℕ
between doc from to = take (to - from) (drop from doc)

-- the tokens from the place `at` on, which is on `line`, and their parts
abbrev pub tokens_at : List ℕ → ℕ → ℕ → List Token
tokens_at doc at line = tokens_from at line (drop at doc)

abbrev pub parts_at : List ℕ → ℕ → ℕ → List Part
parts_at doc at line = map (part_of doc) (tokens_at doc at line)

-- the answer r for a text and records, and what the output and the records then hold
pub record WroteBoth (text : List ℕ) (new : List (List ℕ)) (out : List ℕ) (recs : List (List ℕ)) (r : Result Mended Refusal) (held : List ℕ)
    (list : List (List ℕ)) : Type 0 where
  pub answer : r ≡ fit_both text new (length out) (length recs)
  pub output : held ≡ mended_after r text out
  pub records : list ≡ mended_after r new recs
