-- What the helpers promise: which tokens a loop passed and what it stored. None of it is a rule: no promise of a public
-- function cites it.
-- Assumes nothing.
use Rattle.std.specs.Prelude.{ℕ, ◌+◌, ◌-◌, ◌≤◌, ◌<◌, ◌≡◌, Bool, cond, List, [], ◌∷◌, ◌++◌, map, length, take, drop, ltb, Ok, Some}
use Rattle.std.proofs.lemmas.List.Edits.{sets}
use Rattle.text_refusals.specs.Refusals.{limit}
use Rattle.lexer_token.specs.declared.TokenKind.{TokenKind}
use Rattle.lexer_token.specs.declared.Token.{Token}
use Rattle.lexer_token.specs.Records.{token_of, record_of}
use Rattle.lexer.specs.Lines.{line_feeds}
use Rattle.lexer.specs.Tokens.{tokens_from}
use Rattle.lexer.specs.Whole.{records_of, token_count}
use Rattle.lexer.specs.Steps.{cursor_of, Step}
use Rattle.lexer.specs.declared.Cursor.{Cursor}
use Rattle.lexer.specs.declared.Found.{Found}
use Rattle.lexer.specs.declared.TokensPassed.{TokensPassed}

-- ---- tokens

-- the tokens at the front that begin before a place
unfoldable pub before : ℕ → List Token → List Token
before stop [] = []
before stop (t ∷ ts) = cond (ltb t.span.start stop) (t ∷ before stop ts) []

-- the tokens of the document from the place `at` on, whose line is `line`, that begin before the place `stop`
abbrev pub tokens_until : ℕ → ℕ → ℕ → List ℕ → List Token
tokens_until stop at line doc = before stop (tokens_from at line (drop at doc))

-- the line after a token: its own, and the LFs in it
abbrev pub line_over : List ℕ → Token → ℕ
line_over doc t = t.line + line_feeds (take (t.span.end - t.span.start) (drop t.span.start doc))

-- the line after some tokens, or the one given where there are none
unfoldable pub line_past : List ℕ → ℕ → List Token → ℕ
line_past doc line [] = line
line_past doc line (t ∷ ts) = line_past doc (line_over doc t) ts

-- the line after the tokens of `tokens_until`
abbrev pub line_until : ℕ → ℕ → ℕ → List ℕ → ℕ
line_until stop at line doc = line_past doc line (tokens_until stop at line doc)

-- the place after some tokens, or the one given where there are none
unfoldable pub place_past : ℕ → List Token → ℕ
place_past at [] = at
place_past at (t ∷ ts) = place_past t.span.end ts

-- the place after the tokens of `tokens_until`
abbrev pub place_until : ℕ → ℕ → ℕ → List ℕ → ℕ
place_until stop at line doc = place_past at (tokens_until stop at line doc)

-- that place is after the stop, and the tokens go on from it as from the start, those that were passed counted
pub record GoesOn (doc : List ℕ) (stop start first : ℕ) (out : TokensPassed) : Type 0 where
  pub reached : out.place ≡ place_until stop start first doc
  pub within : out.place ≤ length doc
  pub far : stop ≤ out.place
  pub low : out.line ≤ out.place + 1
  pub counts : (end : ℕ) → stop ≤ end → end ≤ length doc
      → out.count + length (tokens_until end out.place out.line doc) ≡ length (tokens_until end start first doc)

-- ---- steps

-- a token begins at the cursor: the document is not too long, and the cursor is before its end and not astray
abbrev pub Before : List ℕ → Cursor → Type 0
Before doc c = (length doc ≤ limit) × (c.place < length doc) × (c.line ≤ c.place + 1)

-- what stands at a place, by its kind, its end and the LFs in it
abbrev pub found_of : TokenKind → ℕ → ℕ → Found
found_of k end feeds = record { kind = k; end = end; feeds = feeds }

-- the step over what stands at a place, on a line
abbrev pub step_over : Found → ℕ → ℕ → Bool → Step
step_over f place line ended = Ok (Some (token_of f.kind place f.end line, cursor_of f.end (line + f.feeds) ended))

-- ---- records

-- their records stored over old ones, from the n-th on
abbrev pub store : ℕ → ℕ → ℕ → List ℕ → ℕ → List (List ℕ) → List (List ℕ)
store stop at line doc n old = sets old n (map record_of (tokens_until stop at line doc))

-- all records of a document over old ones, from the front
abbrev pub records_over : List ℕ → List (List ℕ) → List (List ℕ)
records_over doc old = records_of doc ++ drop (token_count doc) old
