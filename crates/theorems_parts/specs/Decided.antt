-- STATEMENT. Which tokens of a document that comes in parts may be given after some of its bytes: those that no further bytes, the
-- limit set aside, could change, and no others. Proved in proofs/Deciding.antt.
use Rattle.std.specs.Prelude.{ℕ, ◌≡◌, List, ◌++◌}
use Rattle.lexer_token.specs.declared.Token.{Token}
use Rattle.lexer.specs.Tokens.{tokens_of}
use Rattle.built_lexing.specs.States.{unread, given_by}

-- the tokens ts are the first ones of us
abbrev pub FirstOf : List Token → List Token → Type 0
FirstOf ts us = (rest : List Token) × (ts ++ rest ≡ us)

-- with ts the tokens of p and any further bytes begin
abbrev pub Common : List ℕ → List Token → Type 0
Common p ts = (more : List ℕ) → FirstOf ts (tokens_of (p ++ more))

-- ts is the longest such list
pub record Decided (p : List ℕ) (ts : List Token) : Type 0 where
  pub common : Common p ts
  pub longest : (us : List Token) → Common p us → FirstOf us ts

-- `given_decided`: what bytes give from the start on is what they decide
abbrev pub GivenDecided : Type 0
GivenDecided = (p : List ℕ) → Decided p (given_by unread p)
